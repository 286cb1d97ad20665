pub mod Ladder
pub mod Refusals
pub mod Lowest
pub mod Flat
pub mod Permutation
pub mod Fixed
