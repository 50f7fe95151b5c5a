pub mod Filters
pub mod Known
pub mod Steps
