mod IndexSteps
pub mod KeySteps
pub mod KnowSteps
pub mod RowSteps
