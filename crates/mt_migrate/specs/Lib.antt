pub mod Chunks
pub mod Moves
pub mod Known
pub mod MoverSteps
pub mod RowCounts
pub mod StepsLeft
pub mod MostLeft
