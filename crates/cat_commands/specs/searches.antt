pub mod Reads
pub mod Uses
