pub mod ClientLaws
pub mod SumLaws
