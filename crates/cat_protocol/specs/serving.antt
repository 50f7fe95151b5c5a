pub mod Machine
pub mod Serving
