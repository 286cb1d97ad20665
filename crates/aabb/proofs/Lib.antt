pub mod Tests
pub mod Axis
mod Limits
mod Axes
pub mod Inside
pub mod Running
pub mod Holds
