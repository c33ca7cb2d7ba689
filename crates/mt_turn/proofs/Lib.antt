pub mod WindowLaws
mod Seats
mod TurnLaws
mod MeetLaws
pub mod Theorems
