pub mod Came
pub mod Cuts
pub mod Endings
pub mod Steps
