pub mod Access
pub mod Copies
pub mod Journal
pub mod Laws
