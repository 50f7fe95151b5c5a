pub mod Held
pub mod Telling
pub mod Counted
pub mod Commands
pub mod Differing
pub mod Spelled
pub mod Untold
mod Crossings
