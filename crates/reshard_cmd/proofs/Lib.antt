pub mod CopySteps
pub mod CopyingSteps
pub mod FaultSteps
pub mod JobSteps
pub mod ReshardSteps
