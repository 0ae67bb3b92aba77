pub mod Answers
pub mod Further
pub mod Judging
pub mod Regions
