-- What UPDATE and DELETE do to the rows of a table.
pub mod Steps
pub mod Deleting
pub mod Changing
pub mod ByKey
pub mod Tables
pub mod Inserting
pub mod Putting
