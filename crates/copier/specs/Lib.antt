pub mod Filled
pub mod Frames
pub mod Held
pub mod HeldLaws
pub mod Marks
pub mod Placed
pub mod PlacedLaws
pub mod Sources
