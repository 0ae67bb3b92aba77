pub mod Lines
pub mod Servings
