pub mod Asking
pub mod CommandLine
