pub mod ByteLaws
pub mod OverlayLaws
pub mod WriteLoopLaws
pub mod PageLaws
