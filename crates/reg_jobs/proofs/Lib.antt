mod Adding
mod ReadNumbers
mod Stops
mod Taken
mod Uses
mod Walks
