pub mod Ground
pub mod Views
