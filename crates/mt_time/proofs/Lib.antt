pub mod DayLaws
pub mod DigitLaws
pub mod FractionLaws
pub mod TextLaws
pub mod UniqueLaws
