pub mod Judged
pub mod Ranges
pub mod Merged
