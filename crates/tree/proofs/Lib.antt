pub mod Counts
pub mod Fitted
