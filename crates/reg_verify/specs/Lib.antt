pub mod Flaws
pub mod Index
pub mod Parts
pub mod Strays
pub mod Verifying
