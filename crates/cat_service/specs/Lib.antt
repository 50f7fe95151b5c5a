pub mod Worlds
pub mod Named
pub mod Outlasting
pub mod Promises
pub mod Wanting
pub mod Causes
pub mod Cached
pub mod Lines
pub mod Histories
pub mod Opening
pub mod Serving
pub mod Reasons
pub mod Copies
pub mod Running
pub mod theorem
pub mod replicas
pub use Rattle.cat_commands.specs.cat_protocol as cat_protocol
