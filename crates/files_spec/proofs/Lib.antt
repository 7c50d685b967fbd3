-- the text and its parts: what is read stands there, and what stands there is read
pub mod PaddedLaws
pub mod TextLaws
pub mod ParserLaws
pub mod NumberLaws
pub mod EntryLaws
pub mod FilledLaws
pub mod LineLaws
pub mod FileLaws
-- what reader and writer give
pub mod ReadingLaws
pub mod ItemFaultLaws
pub mod LineFaultLaws
pub mod RoundTrip
pub mod ReadTextLaws
pub mod WriterLaws
pub mod AgainLaws
pub mod RefusedLaws
pub mod FaultLaws
pub mod MeaningLaws
pub mod LengthLaws
pub mod LongestFile
