mod Turns
mod Meetings
mod KnownOnes
