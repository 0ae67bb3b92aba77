pub mod Counting
pub mod Fixed
pub mod Judges
pub mod Lines
pub mod Parts
pub mod Refusals
pub mod Verified
pub mod Verifying
