pub mod Among
pub mod Swapped
