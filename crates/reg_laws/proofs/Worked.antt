-- Steps of an office, worked out.
mod FirstLines
mod Advice
mod Revocations
