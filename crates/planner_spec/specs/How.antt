pub mod LengthLimit
