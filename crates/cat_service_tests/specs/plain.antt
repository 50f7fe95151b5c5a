pub mod Counts
pub mod Line
pub mod Pages
pub mod Reply
pub mod Plain
pub mod Exchange
pub mod Tables
