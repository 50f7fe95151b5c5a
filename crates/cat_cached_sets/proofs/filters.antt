pub mod Begun
pub mod Found
pub mod Lent
pub mod Notes
pub mod Remembered
pub mod Used
