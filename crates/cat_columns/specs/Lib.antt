pub mod Bits
pub mod Columns
pub mod Merged
pub mod inverted
pub mod Hints
pub mod TextHash
