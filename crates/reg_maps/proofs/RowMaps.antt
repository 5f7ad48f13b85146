-- The rows of a table as a finite map: what a read finds in it and a write leaves of it.
pub mod Lists
pub mod Entries
pub mod Held
pub mod Tables
pub mod Loads
pub mod Items
pub mod Alone
