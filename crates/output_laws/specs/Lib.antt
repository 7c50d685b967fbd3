pub mod How
