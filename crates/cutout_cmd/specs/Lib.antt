pub mod Cutouts
pub mod Refusals
