pub mod Head
pub mod Fields
pub mod Found
pub mod Looks
pub mod Pieces
pub mod Request
pub mod Reading
pub mod Watched
