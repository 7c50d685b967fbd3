pub mod Visits
pub mod Lookup
