pub mod Copies
pub mod CopyLaws
pub mod Copying
pub mod Judging
pub mod Resharding
