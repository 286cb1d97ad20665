pub mod Cases
pub mod Numbers
pub mod Order
pub mod Round
mod Fraction
pub mod Turned
pub mod Monotone
pub mod Bounds
pub mod Pick
mod Absolute
pub mod Total
mod Patterns
mod SingleForms
pub mod SingleExact
mod RootWhole
mod RootScaled
mod RootRead
pub mod RootNearest
mod RootRounded
pub mod RootBounds
mod RootRows
