pub mod Findings
pub mod FirstViews
pub mod Further
pub mod Sizes
