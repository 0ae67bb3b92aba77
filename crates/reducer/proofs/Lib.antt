pub mod JobSteps
pub mod SourceSteps
