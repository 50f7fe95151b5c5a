pub mod InOrder
pub mod Stable
pub mod Kept
pub mod Fields
pub mod Candidates
pub mod KeyEnds
pub mod Bars
pub mod OrdinalBars
pub mod Passed
pub mod Marks
pub mod Defined
pub mod Shown
pub mod Ranks
pub mod Gathered
pub mod ViewPages
pub mod Pushed
pub mod Arranged
pub mod Walked
pub mod StillOut
pub mod BlockRows
pub mod Stepped
pub mod Missed
pub mod Ordered
pub mod InRange
pub mod Tested
pub mod ListedRows
pub use Rattle.cat_query.proofs.columns_laws as columns_laws
pub use Rattle.cat_views.proofs as views_laws
