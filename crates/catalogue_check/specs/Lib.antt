pub mod Acts
pub mod Asked
pub mod Ended
pub mod Runs
