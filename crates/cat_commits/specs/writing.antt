pub mod Entries
pub mod NewFiles
pub mod Unsynced
pub mod Drafts
pub mod Laws
