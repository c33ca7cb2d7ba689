pub mod Digits
pub mod Moment
pub mod Written
