pub mod PlaceLaws
pub mod PositionLaws
pub mod ProposalLoopLaws
pub mod SegmentLoopLaws
pub mod ReasonOfLaws
pub mod LookedUpLaws
pub mod ExplainedLaws
