mod ActTexts
mod Beginnings
pub mod Changed
mod Coming
pub mod FactsPublished
mod Fronts
pub mod Histories
mod Mapped
mod Overviews
mod Readings
mod Recordings
mod Rows
pub mod Taken
mod Unique
mod UnlikeHistories
