pub mod Counts
pub mod Swept
