pub mod Replayed
pub mod SameSubjects
