pub mod Beside
pub mod Migrating
