pub mod Kind
pub mod Value
pub mod Body
pub mod Written
pub mod Tagged
pub mod Draft
