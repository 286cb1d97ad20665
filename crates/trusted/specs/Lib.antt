pub mod Meets
pub mod Exactly
