pub mod lines
pub mod replies
pub mod sending
pub mod serving
pub use Rattle.cat_facets.specs as cat_facets
pub use Rattle.cat_facets.specs.cat_search as cat_search
pub use Rattle.cat_facets.specs.cat_views as cat_views
