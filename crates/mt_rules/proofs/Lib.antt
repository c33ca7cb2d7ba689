pub mod PlaceLaws
pub mod VisibleLaws
