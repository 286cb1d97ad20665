pub mod Little
pub mod Input
pub mod Text
pub mod Lines
pub mod Survey
