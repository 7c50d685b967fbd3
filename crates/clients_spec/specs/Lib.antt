pub mod Clients
pub mod Sums
