-- Laws of the bytes of a number, and of an access.
pub mod Numbers
pub mod Digits
pub mod Parts
pub mod Faults
pub mod Meaning
