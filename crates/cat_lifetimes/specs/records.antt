pub mod Records
pub mod Counts
