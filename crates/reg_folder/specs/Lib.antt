pub mod Path
pub mod Media
pub mod Head
pub mod Answers
pub mod Laws
