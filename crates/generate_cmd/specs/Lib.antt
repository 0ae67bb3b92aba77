pub mod Fixed
pub mod Generating
pub mod Lines
pub mod Refusals
