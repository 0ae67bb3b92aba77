pub mod Bodies
pub mod Digits
pub mod Plans
pub mod Ranges
pub mod Replies
pub mod Serving
pub mod Texts
pub mod Turns
