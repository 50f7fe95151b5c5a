pub mod Found
pub mod Newest
pub mod Opened
pub mod Refused
