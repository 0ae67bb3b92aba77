pub mod Chains
pub mod Earlier
pub mod Groups
pub mod Hashes
pub mod Members
pub mod Orders
pub mod Reserved
