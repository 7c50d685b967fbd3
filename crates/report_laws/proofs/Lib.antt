pub mod SequenceTextLaws
pub mod PositionLoopLaws
pub mod MarkLoopLaws
pub mod TableTextLaws
