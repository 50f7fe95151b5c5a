pub mod Stored
pub mod Killed
pub mod Selected
pub mod RowSearch
pub mod LineFeeds
pub mod Found
pub use Rattle.cat_segment.proofs as segment_laws
