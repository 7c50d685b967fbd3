pub mod Text
pub mod File
pub mod Reading
pub mod Writing
pub mod Faults
pub mod Meaning
