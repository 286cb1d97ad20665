pub mod Divisor
pub mod LowestTerms
pub mod OneFraction
pub mod Weights
pub mod Serving
pub mod Outcomes
pub mod Promises
pub mod Splitting
