pub mod Listed
pub mod Pieces
pub mod Refused
pub mod Told
