pub mod Word
pub mod Condition
pub mod Fields
pub mod Swaps
pub mod Double
