mod Measuring
mod Reading
pub mod Writing
mod Places
mod Lines
mod SurveyEnds
pub mod Fixed
