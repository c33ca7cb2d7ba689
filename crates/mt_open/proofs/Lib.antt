mod ReadingLists
mod ReadingShape
mod ReadingLaws
pub mod Deciding
pub mod SoundLaws
mod FormLaws
mod RepeatLaws
mod TagLaws
mod LeastLaws
mod FirstLaws
mod TableLaws
mod WalkLaws
mod OpeningLaws
pub mod Theorems
