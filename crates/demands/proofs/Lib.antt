mod Same
pub mod Probes
pub mod Answers
pub mod Fixed
pub mod Walking
pub mod NearestHit
pub mod SameHit
pub mod Demand
pub mod Sky
pub mod Materials
pub mod Surveying
pub mod Accepting
pub mod InnerNodes
pub mod FromFile
