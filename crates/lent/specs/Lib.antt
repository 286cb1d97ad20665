pub mod Limits
pub mod Ladder
pub mod Lowest
pub mod Refusals
pub mod Flat
pub mod Permutation
pub mod Members
pub mod Fixed
