pub mod Asked
pub mod Copying
pub mod Feeding
mod Portioned
pub mod Steps
