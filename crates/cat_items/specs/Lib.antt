pub mod Kinds
pub mod Contents
pub mod Reading
pub mod Laws
pub mod file_parts
