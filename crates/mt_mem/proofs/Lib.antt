mod RewriteLaws
pub mod EntryLaws
pub mod EditLaws
mod PassLaws
mod PlanLaws
pub mod AnswerLaws
pub mod TagLaws
pub mod MemoryLaws
