pub mod Marked
pub mod Examples
pub mod Table
pub mod Conditions
pub mod Extended
pub mod Fields
pub mod Aligned
pub mod Limits
