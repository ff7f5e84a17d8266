pub mod Bytes
pub mod Access
pub mod Answer
pub mod Meaning
