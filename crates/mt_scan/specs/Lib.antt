pub mod Units
pub mod Chunks
pub mod Pages
pub mod PageSteps
pub mod Streams
