pub mod Bases
pub mod Calls
pub mod Plans
pub mod Verdicts
pub mod BatchSteps
pub mod Alone
