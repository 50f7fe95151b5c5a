pub mod Decimals
pub mod Rising
pub mod Spellings
pub mod TextSets
