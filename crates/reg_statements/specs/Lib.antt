pub mod Tables
pub mod Content
pub mod Parts
pub mod Defined
pub mod Office
pub mod Loading
pub mod Reading
