mod Matrices
mod Corners
mod Searching
pub mod ProxyRoom
mod Raising
pub mod Sizes
pub mod Topping
mod LeafEntries
mod AtPlacement
