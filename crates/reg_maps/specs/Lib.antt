pub mod Maps
pub mod Groups
pub mod RowMaps
pub mod Spans
