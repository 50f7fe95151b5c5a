pub mod Fields
pub mod Lists
pub mod Listings
pub mod Taken
pub mod Starts
pub mod Commits
pub mod Frames
