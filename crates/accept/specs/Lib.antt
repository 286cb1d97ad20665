pub mod Count
pub mod Conditions
pub mod Accept
pub mod inner
