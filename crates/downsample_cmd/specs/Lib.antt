pub mod Answering
pub mod Downsampling
pub mod Judging
pub mod ReductionLaws
pub mod Reductions
