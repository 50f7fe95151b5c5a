pub mod Openings
pub mod MissingSets
pub mod Merges
