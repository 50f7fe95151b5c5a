pub mod refs
pub mod records
pub mod rights
