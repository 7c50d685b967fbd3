pub mod ReasonLaws
pub mod SegmentLaws
pub mod WitnessLaws
pub mod PlanLaws
pub mod OutcomeLaws
pub mod FirstReasonLaws
pub mod MeaningLaws
