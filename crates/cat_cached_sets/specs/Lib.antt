pub mod cache
pub mod filters
pub use Rattle.cat_query.specs as cat_query
pub use Rattle.cat_views.specs as cat_views
