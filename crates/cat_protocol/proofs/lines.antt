pub mod WordsSplit
pub mod WordsSpelled
