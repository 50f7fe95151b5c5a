pub mod Named
pub mod Steps
pub mod Rising
pub mod Unused
pub mod Sweeps
