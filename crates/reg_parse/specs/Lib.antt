pub mod Bodies
pub mod RangeFile
pub mod Path
pub mod Route
pub mod Command
pub mod Shown
pub mod Laws
