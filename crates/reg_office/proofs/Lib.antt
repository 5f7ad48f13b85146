pub mod TimesTold
pub mod Admitted
pub mod Performing
pub mod Revocations
