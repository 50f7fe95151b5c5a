pub mod Cuts
pub mod Backslashes
pub mod OneWord
pub mod Integers
pub mod Meanings
pub mod ValueSteps
pub mod Series
pub mod Groups
pub mod Judging
pub mod Sets
pub mod SameLists
pub mod RowTests
pub mod CopySteps
pub mod FedSteps
pub mod AcceptSteps
pub mod Listing
pub mod Everything
pub use Rattle.cat_segment.proofs.columns_laws as columns_laws
