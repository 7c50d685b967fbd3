pub mod FoundLaws
pub mod ByteLaws
pub mod PlacementLaws
pub mod ReadLoopLaws
pub mod OutcomeLaws
