pub mod Composition
pub mod Touched
pub mod Answers
pub mod Redundancy
pub mod VectorMeaning
pub mod How
