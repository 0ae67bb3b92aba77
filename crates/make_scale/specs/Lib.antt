pub mod Judging
pub mod Lines
pub mod Making
pub mod Refusals
pub mod Stored
