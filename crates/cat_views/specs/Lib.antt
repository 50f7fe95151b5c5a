pub mod Sources
pub mod Holds
pub mod Sets
pub mod Views
pub mod Rows
pub use Rattle.cat_segment.specs as cat_segment
