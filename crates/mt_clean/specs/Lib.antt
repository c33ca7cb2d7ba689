pub mod Cleanings
pub mod Known
pub mod CleanerSteps
pub mod StepsLeft
