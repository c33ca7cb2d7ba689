pub mod Reading
pub mod Damage
pub mod Held
pub mod Holdings
pub mod Repeats
pub mod Table
pub mod Walk
pub mod Opening
