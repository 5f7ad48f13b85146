pub mod Copied
pub mod Slashes
mod Told
