mod PendingList
pub mod AnySteps
pub mod OneMesh
mod Entries
pub mod VisitEnds
mod Visits
pub mod LoopInvariant
pub mod Entering
