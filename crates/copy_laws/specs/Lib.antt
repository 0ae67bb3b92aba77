pub mod Agreement
pub mod Copied
pub mod Laws
pub mod Twins
