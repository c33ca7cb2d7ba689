pub mod Match
pub mod Partition
pub mod Bounds
