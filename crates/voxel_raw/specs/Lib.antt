pub mod Blocks
pub mod Common
pub mod Copies
pub mod Places
