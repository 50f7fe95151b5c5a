pub mod Making
pub mod Sources
