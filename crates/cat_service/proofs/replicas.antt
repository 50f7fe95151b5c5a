pub mod Logs
pub mod Openings
pub mod Beginnings
pub mod Samples
