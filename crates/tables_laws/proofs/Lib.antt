pub mod EntryLaws
pub mod WitnessLaws
pub mod SequenceLoopLaws
pub mod TableLoopLaws
pub mod MarkLaws
pub mod Shapes
pub mod OutcomeLaws
pub mod AnswerLaws
