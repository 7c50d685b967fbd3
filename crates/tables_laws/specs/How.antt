pub mod Witnesses
pub mod ShortSequences
pub mod Searches
