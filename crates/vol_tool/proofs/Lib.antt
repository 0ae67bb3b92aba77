mod FileSteps
mod MemorySteps
