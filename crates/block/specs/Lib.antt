pub mod Records
pub mod Rules
pub mod Checks
pub mod Scan
pub mod Meaning
pub mod Words
