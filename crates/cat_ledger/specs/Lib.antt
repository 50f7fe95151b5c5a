pub mod Answering
pub mod Grants
pub mod Histories
pub mod Lasting
pub mod Ledgers
pub mod Openings
pub mod Refusals
pub mod Stats
pub mod upkeep
pub use Rattle.cat_ledger_state.specs as cat_ledger_state
pub use Rattle.cat_ledger_state.specs.cat_lifetimes as cat_lifetimes
