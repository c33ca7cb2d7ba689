pub mod Quoted
pub mod Paths
pub mod Options
pub mod Targets
