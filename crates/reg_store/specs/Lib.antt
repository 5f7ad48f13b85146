pub mod Maps
pub mod Lists
