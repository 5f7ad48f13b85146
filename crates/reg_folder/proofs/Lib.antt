pub mod Below
pub mod Meant
