pub mod KeepingUp
pub mod Recorded
pub mod Replay
pub mod Said
pub mod Subjects
pub mod Words
