pub mod BestItems
pub mod Sorts
pub mod Ids
pub mod Keys
pub mod Standings
pub mod Candidates
pub mod Pages
pub mod Asks
pub mod Views
pub mod Rows
pub mod Bars
pub mod Blocks
pub mod OrdinalBars
pub mod Hits
pub mod Walks
pub mod Steps
pub use Rattle.cat_query.specs.cat_items as cat_items
pub use Rattle.cat_query.specs as cat_query
pub use Rattle.cat_views.specs.cat_segment as cat_segment
pub use Rattle.cat_views.specs as cat_views
