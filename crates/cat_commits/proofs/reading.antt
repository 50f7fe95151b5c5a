pub mod Ordered
pub mod Known
pub mod Hashes
pub mod Agreeing
pub mod Reading
pub mod Parts
pub mod Nexts
