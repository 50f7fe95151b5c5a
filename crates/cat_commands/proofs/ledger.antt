pub mod Answered
pub mod Kept
pub mod ItemFaults
pub mod Swept
pub mod Warmed
