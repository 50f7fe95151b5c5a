pub mod ledger
pub mod views
pub mod searches
pub mod sets
pub use Rattle.cat_protocol.specs as cat_protocol
pub use Rattle.cat_cached_sets.specs as cat_cached_sets
pub use Rattle.cat_ledger.specs as cat_ledger
pub use Rattle.cat_ledger.specs.cat_ledger_state as cat_ledger_state
pub use Rattle.cat_ledger.specs.cat_lifetimes as cat_lifetimes
pub use Rattle.cat_protocol.specs.cat_search as cat_search
