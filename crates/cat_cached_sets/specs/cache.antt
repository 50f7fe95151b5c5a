pub mod Cached
pub mod Coding
pub mod Lent
pub mod Warmed
