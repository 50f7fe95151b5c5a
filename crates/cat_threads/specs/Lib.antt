pub use Rattle.cat_commands.specs as cat_commands
pub mod history
pub mod sharing
pub mod service
pub mod running
