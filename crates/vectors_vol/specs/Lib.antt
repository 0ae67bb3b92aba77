pub mod Draws
pub mod Generated
pub mod Places
pub mod ValueBytes
pub mod WriteStreams
