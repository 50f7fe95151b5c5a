pub mod Needs
pub mod Sessions
pub mod SharedFiles
pub mod Told
