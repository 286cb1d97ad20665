pub mod Number
pub mod Pick
pub mod Total
pub mod Root
pub mod Nearest
pub mod Single
