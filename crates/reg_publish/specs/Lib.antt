pub mod Earlier
pub mod Faults
pub mod Folder
pub mod Publishing
pub mod Told
