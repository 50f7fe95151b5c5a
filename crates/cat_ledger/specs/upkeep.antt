pub mod News
pub mod Due
pub mod Spared
