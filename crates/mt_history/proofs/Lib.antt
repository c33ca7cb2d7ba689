mod BlockLaws
mod CaseLaws
pub mod CountLaws
pub mod ListingLaws
pub mod ReplyLaws
pub mod WindowLaws
pub mod Theorems
