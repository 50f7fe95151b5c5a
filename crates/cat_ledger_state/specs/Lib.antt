pub mod Commits
pub mod Cores
pub mod Installs
pub mod startup
pub use Rattle.cat_commits.specs as cat_commits
pub use Rattle.cat_lifetimes.specs as cat_lifetimes
pub use Rattle.cat_merge.specs as cat_merge
pub use Rattle.cat_live_table.specs.cat_query as cat_query
pub use Rattle.cat_commits.specs.cat_views as cat_views
