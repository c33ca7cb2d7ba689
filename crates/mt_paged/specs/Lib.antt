pub mod Pages
pub mod Fronts
pub mod Keyed
pub mod Walks
pub mod Paged
