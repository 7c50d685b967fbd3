pub mod Reasons
pub mod Segments
pub mod Explained
pub mod Meaning
