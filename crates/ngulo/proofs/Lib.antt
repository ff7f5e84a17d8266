pub mod Small
pub mod Flags
pub mod Apart
pub mod Bound
