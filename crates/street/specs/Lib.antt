pub mod Rows
pub mod Placing
pub mod Making
pub mod Served
pub mod Sighting
pub mod Walking
pub mod inner
