pub mod Machine
pub mod Sets
pub mod Prune
pub mod Fold
