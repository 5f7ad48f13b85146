pub mod Causes
pub mod Marks
pub mod Placed
pub mod TellsAll
pub mod ToldTexts
