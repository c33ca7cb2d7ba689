pub mod Texts
pub mod Conjuncts
pub mod Seen
pub mod Ends
