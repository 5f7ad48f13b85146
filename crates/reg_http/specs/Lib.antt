pub mod Known
pub mod Listening
pub mod Meeting
pub mod Places
pub mod Schedules
