pub mod AgreeSteps
pub mod BackSteps
pub mod CopyLaw
pub mod CopySteps
pub mod CopyValues
pub mod FolderSteps
pub mod TwinSteps
