pub mod buffer
pub mod current
pub use Rattle.cat_query.specs as cat_query
