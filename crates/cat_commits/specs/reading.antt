pub mod Leaf
pub mod Told
pub mod Refused
pub mod Judged
pub mod Numbers
pub mod Laws
