pub mod ReplyLaws
pub mod Theorems
