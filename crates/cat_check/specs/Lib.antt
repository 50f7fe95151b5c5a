pub mod Said
pub mod Unread
pub mod Judged
pub mod Below
pub mod Standing
pub mod Checked
pub mod Faults
pub mod Telling
pub use Rattle.cat_commits.specs as cat_commits
