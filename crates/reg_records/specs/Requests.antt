-- The table of requests: what its rows hold, and what is written of a request.
pub mod Forms
pub mod Values
pub mod Reading
pub mod Laws
