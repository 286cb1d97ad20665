pub mod Count
pub mod Family
pub mod Ranges
pub mod Fills
pub mod Faults
pub mod Verdicts
