pub mod Weight
pub mod Kept
pub mod Window
pub mod Replies
pub mod Legal
pub mod Cases
pub mod Stacks
