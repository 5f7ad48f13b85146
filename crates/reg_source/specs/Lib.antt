pub mod Bounded
pub mod Source
pub mod Copied
pub mod Disk
pub mod Hashed
pub mod Names
