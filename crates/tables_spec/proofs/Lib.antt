pub mod CountLaws
pub mod TableLaws
pub mod SameLinesLaws
pub mod ReachLaws
pub mod AnswerLaws
pub mod SizeLaws
