pub mod Signed
pub mod Wraps
