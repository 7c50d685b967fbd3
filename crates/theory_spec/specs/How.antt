pub mod Firsts
pub mod Folds
pub mod Indices
pub mod Pruning
pub mod Recursion
