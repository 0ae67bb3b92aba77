pub mod ChunkSteps
pub mod FoundSteps
pub mod FrameSteps
pub mod HeldSteps
pub mod JobFrames
pub mod JobSteps
pub mod MarkSteps
pub mod TakingSteps
mod AskedSteps
