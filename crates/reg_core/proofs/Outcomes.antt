-- An answer taken apart: what was so where a rule decided, where a command was accepted, and where
-- a change was made.
pub mod Deciding
pub mod Accepted
pub mod Dues
