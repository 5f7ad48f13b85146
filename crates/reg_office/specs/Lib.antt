pub mod Counting
pub mod Found
pub mod Revocation
pub mod Stamps
pub use Rattle.reg_registers.specs.Caller
