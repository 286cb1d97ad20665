pub mod Vector
pub mod Bounds
pub mod Slab
