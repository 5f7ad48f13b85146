-- Ordered maps, and maps of maps, as finite maps.
pub mod Ordered
pub mod Nested
pub mod InOrder
