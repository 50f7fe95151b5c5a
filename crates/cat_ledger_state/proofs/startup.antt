pub mod Listing
pub mod Needed
pub mod Made
