pub mod Layout
pub mod Answers
pub mod Reading
pub mod Writing
pub mod RoundTrip
