mod LevelLaws
mod SplitLaws
mod ByteLaws
mod TokenLaws
pub mod Theorems
