pub mod Query
pub mod Looked
pub mod Searched
pub mod PlanPart
pub mod Tallies
