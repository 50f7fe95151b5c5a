pub mod Segments
pub mod Beside
pub mod Sets
pub mod Kept
pub mod SegmentLaws
pub mod SetLaws
pub mod KeptLaws
