mod NumberSteps
mod PrefixSteps
