pub mod Body
pub mod Contents
pub mod Fields
pub mod Filter
pub mod Index
pub mod Laid
pub mod LiveStart
pub mod Parts
pub mod Sources
pub mod NumberKeys
pub mod NumberRuns
pub mod Orders
pub mod Ranges
pub mod RowParts
pub mod Valued
pub use Rattle.cat_items.specs as cat_items
