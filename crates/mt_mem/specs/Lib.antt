pub mod Entries
pub mod Memory
pub mod Changes
pub mod Rewriting
pub mod MemoryShelf
