-- What is in the queues of experts.
pub mod Rows
pub mod InStep
pub mod Words
