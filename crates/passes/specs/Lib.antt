pub mod Passes
pub mod Demand
pub mod Meaning
pub mod Laid
pub mod Live
pub mod Knows
pub mod Ready
pub mod Promise
