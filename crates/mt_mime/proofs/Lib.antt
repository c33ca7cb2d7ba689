mod LineLaws
mod MarkLaws
mod PartLaws
mod MediaLaws
mod HeaderLaws
mod ChangeLaws
mod ReplyLaws
pub mod Theorems
