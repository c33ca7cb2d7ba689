-- The units of a page, and what they leave in the history.
use Rattle.std.specs.Prelude.{ℕ, List, Option, Result}
use Rattle.mt_filter.specs.declared.filter.Filter.{Filter}
use Rattle.mt_match.specs.declared.bounds.Bounds.{Bounds}
use Rattle.mt_scan.specs.declared.unit.Token.{Token}
use Rattle.mt_scan.specs.Pages as pages
use Rattle.mt_scan.specs.Streams.{Step, Follow, page_after, GoesOn}
use Rattle.mt_world.specs.declared.actor.Answer.{Answer}
use Rattle.mt_world.specs.declared.actor.TurnFault.{TurnFault}
use Rattle.mt_world.specs.Moves.{NewEntry}
use Rattle.mt_world.specs.PageCalls.{AreStepEntries, entries_at_end, IsPageAnswer}

-- units that follow one another from the beginning of a page, each with its entry and the rows that this replies; the answer is the page behind them, which is over, or a fault
pub record ComesTo (page : pages.Page) (r : Result Answer TurnFault) (es : List NewEntry) : Type 0 where
  pub steps : List Step
  pub goes : GoesOn page steps
  pub follow : Follow page.bounds page.place steps (page_after page steps).place
  pub entries : AreStepEntries page.filter steps (entries_at_end r) es
  pub answered : IsPageAnswer (page_after page steps) r

-- a page of at most so many rows that the filter matches, from the token's place on, came to this answer or fault, and left these entries
abbrev pub LeavesPage : Option Filter → ℕ → Option Token → Result Answer TurnFault → List NewEntry → Type 0
LeavesPage filter top token r es = (bounds : Bounds) × pages.AreBounds filter bounds × ComesTo (pages.begun filter bounds top token) r es
