pub mod Layouts
pub mod Parts
pub mod Reading
