pub mod Gathered
pub mod Counted
pub mod Postings
pub mod Intervals
