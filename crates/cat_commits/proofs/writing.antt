mod Lists
mod Looks
mod Kept
mod Writing
mod Drafting
mod Begun
mod Needed
