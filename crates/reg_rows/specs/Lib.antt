pub mod Calls
pub mod Arrivals
pub mod Seats
pub mod Registries
pub mod Marks
pub mod Changing
pub mod Whole
