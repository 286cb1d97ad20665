pub mod Held
pub mod Heap
