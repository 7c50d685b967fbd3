pub mod Unions
pub mod How
