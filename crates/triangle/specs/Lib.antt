pub mod Mesh
pub mod Meeting
pub mod Spot
pub mod Normal
pub mod Refilled
