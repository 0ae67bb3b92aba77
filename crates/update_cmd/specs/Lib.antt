pub mod Answering
pub mod Lines
pub mod Putting
pub mod Refusals
pub mod Updating
