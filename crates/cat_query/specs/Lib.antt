pub mod View
pub mod Tests
pub mod Same
pub mod Fed
pub mod Reading
pub mod Escapes
pub mod Runs
pub use Rattle.cat_segment.specs.cat_items as cat_items
