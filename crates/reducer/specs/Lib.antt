pub mod PlacedLaws
pub mod Reading
pub mod Works
pub mod WorkLaws
