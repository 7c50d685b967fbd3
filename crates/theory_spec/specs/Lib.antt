pub mod Lists
pub mod Sets
pub mod Sequences
pub mod Order
pub mod Pruning
pub mod Plans
pub mod Frontier
pub mod How
