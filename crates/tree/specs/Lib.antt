pub mod Lent
pub mod Node
pub mod Tree
pub mod Holds
pub mod Leaves
pub mod Accepted
