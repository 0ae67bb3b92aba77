mod LimitSteps
mod LineSteps
mod ParserSteps
mod ServeSteps
mod SortSteps
