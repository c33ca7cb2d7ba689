pub mod Lines
pub mod Keepers
pub mod Shelves
pub mod Run
pub mod Endings
