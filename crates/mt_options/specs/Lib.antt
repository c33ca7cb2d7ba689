pub mod Values
pub mod Levels
pub mod Shows
pub mod Tokens
