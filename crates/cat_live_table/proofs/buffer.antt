pub mod Entries
pub mod Kept
pub mod Rows
