pub mod Ranges
pub mod Answers
pub mod Queries
pub mod QuerySteps
pub mod Alone
