pub mod Committing
pub mod Counting
pub mod Failing
pub mod Flushing
pub mod Leaving
pub mod Installing
pub mod Known
pub mod Few
pub mod Merging
pub mod Releasing
pub mod Restoring
pub mod Results
pub mod Starting
pub mod Viewing
pub mod Writing
pub use Rattle.cat_commits.proofs as commits_laws
