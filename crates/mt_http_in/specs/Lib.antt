pub mod Fields
pub mod Reading
pub mod Filling
pub mod Heads
pub mod Chunks
pub mod Trailers
pub mod Bodies
pub mod Requests
