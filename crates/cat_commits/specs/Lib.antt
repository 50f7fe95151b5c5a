pub mod Versions
pub mod Layouts
pub mod Listings
pub mod Judged
pub mod Counts
pub mod writing
pub mod reading
pub use Rattle.cat_views.specs as cat_views
