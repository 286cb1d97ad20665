pub mod Share
pub mod Watts
pub mod Report
pub mod Cut
