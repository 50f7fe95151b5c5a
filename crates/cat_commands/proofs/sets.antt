pub mod Going
pub mod Shaped
pub mod Agreed
pub mod Beside
pub mod Right
pub mod Knowing
