mod RangePasses
mod Halves
mod BinsFilled
mod Filling
mod Choosing
mod Sweeping
mod Parting
mod Linear
mod Sorting
mod Heaps
mod Growing
pub mod StartLoops
mod Returns
mod RestKept
mod Enclosing
mod InOrder
mod Placing
mod Trees
mod Vertices
pub mod Successes
pub mod Depth
