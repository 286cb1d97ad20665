pub mod Answer
pub mod Steps
pub mod Walk
pub mod inner
