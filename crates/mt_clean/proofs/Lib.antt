pub mod RowLists
pub mod FitLaws
pub mod Changes
pub mod CleanerLaw
pub mod ToldLaws
pub mod Counts
pub mod AloneLaw
pub mod Theorems
