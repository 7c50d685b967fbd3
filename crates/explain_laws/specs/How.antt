pub mod Proposals
pub mod LookedUp
