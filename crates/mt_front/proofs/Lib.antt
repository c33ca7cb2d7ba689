mod AdminLaws
mod BodyKeyLaws
mod CallLaws
mod CameLaws
mod MarkLaws
mod ChangeLaws
mod ChangeSetLaws
pub mod CauseLaws
pub mod FitLaws
mod MachineLaws
mod MigrationLaws
mod OwnLaws
mod PageLaws
mod PageReplyLaws
mod ReadLaws
mod RefusalLaws
mod ReportLaws
mod RouteLaws
mod SpellLaws
mod TalkLaws
mod TurnLaws
mod WriteLaws
mod Theorems
