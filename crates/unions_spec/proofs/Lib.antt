pub mod UnionLaws
