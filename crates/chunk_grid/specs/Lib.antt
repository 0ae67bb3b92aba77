pub mod Axes
pub mod Walks
