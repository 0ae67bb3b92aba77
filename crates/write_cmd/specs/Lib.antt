pub mod Fixed
pub mod Lines
pub mod Refusals
pub mod Storing
