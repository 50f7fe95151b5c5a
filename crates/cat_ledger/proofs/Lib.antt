pub mod Answered
pub mod Failures
pub mod Held
pub mod Lasting
pub mod Made
pub mod Ordered
pub mod Refused
pub mod Results
pub mod Swept
pub mod Taken
pub mod Histories
pub mod Trying
pub mod Synced
pub mod Untold
pub use Rattle.cat_ledger_state.proofs.commits_laws as commits_laws
