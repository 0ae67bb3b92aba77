pub mod DownsampleSteps
pub mod FaultSteps
pub mod JudgeSteps
pub mod ReducingSteps
mod SameInfo
