pub mod Searched
pub mod Holders
pub mod Leaves
pub mod Pruned
pub mod Shown
pub mod Dropped
