-- Scripts: their lines, how these are answered, and the laws.
pub mod Line
pub mod Lines
pub mod LineBuffer
pub mod Answers
pub mod Laws
