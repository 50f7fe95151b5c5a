pub mod Taken
pub mod Written
