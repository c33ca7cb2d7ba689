mod BodyLaws
mod ByteLaws
mod ChunkLaws
pub mod FillLaws
pub mod HeadLaws
mod PieceLaws
mod RequestLaws
mod TrailerLaws
pub mod UniqueLaws
mod WordLaws
