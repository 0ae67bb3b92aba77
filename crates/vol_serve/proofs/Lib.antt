mod Closings
mod LimitSteps
