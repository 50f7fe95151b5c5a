pub mod Words
pub mod Reply
