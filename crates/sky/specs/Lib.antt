pub mod Sky
