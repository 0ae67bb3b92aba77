pub mod ServeSteps
