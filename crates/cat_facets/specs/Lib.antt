pub mod Kept
pub mod LiveTotals
pub mod Met
pub mod States
pub mod Tallies
pub use Rattle.cat_search.specs as cat_search
pub use Rattle.cat_search.specs.cat_views as cat_views
