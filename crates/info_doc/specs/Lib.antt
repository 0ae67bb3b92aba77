pub mod Faults
pub mod Texts
pub mod Json
pub mod Steps
pub mod Groups
pub mod Fits
pub mod Info
