-- Each command goes by its lines.
pub mod Turns
pub mod Revocations
pub mod Evidence
pub mod Asks
pub mod Commands
pub mod Callers
