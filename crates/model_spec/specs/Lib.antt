pub mod Limits
pub mod States
pub mod Rules
pub mod Validity
pub mod Refusals
pub mod How
