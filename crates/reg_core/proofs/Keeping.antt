-- Worlds stay well kept.
pub mod Entries
pub mod OtherMaps
pub mod Changes
pub mod FirstWorlds
pub mod Blocks
pub mod RunsKeepWell
