mod Pairs
mod Sizes
mod Admits
mod Parts
mod Filling
pub mod Held
mod Rungs
mod ReadLadder
mod WriteLadder
mod Exact
mod Placing
mod Back
mod Runs
pub mod Served
pub mod ReadBack
pub mod WriteAgain
mod Probes
