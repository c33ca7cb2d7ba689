mod CommandLaws
mod FrontLaws
mod GivenLaws
mod ReadLaws
mod SettingLaws
pub mod TakenLaws
mod Theorems
