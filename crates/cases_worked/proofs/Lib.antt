pub mod Small
pub mod Files
pub mod Worked
pub mod SingleValues
pub mod Further
pub mod AtLimit
pub mod Entries
pub mod Explanations
