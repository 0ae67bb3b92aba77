pub mod Ending
pub mod Lines
pub mod Outlets
pub mod Refusals
pub mod Scales
pub mod Statuses
