pub mod Agreeing
pub mod Before
pub mod Older
mod Pieces
