pub mod Places
pub mod Indices
pub mod Removals
pub mod Currents
