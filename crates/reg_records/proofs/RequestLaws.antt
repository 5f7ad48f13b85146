-- The laws of the rows of requests, part by part.
pub mod Steps
pub mod Parts
pub mod Asks
pub mod States
pub mod Rows
pub mod Written
pub mod Selected
pub mod Kept
