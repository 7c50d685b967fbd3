pub mod FrontLaws
pub mod CutLaws
pub mod ListLaws
pub mod MarkLaws
pub mod LengthLaws
pub mod ReportLaws
