pub mod Size
pub mod Pool
pub mod Block
pub mod Digits
pub mod Due
pub mod Sweep
pub mod Laws
