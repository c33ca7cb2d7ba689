-- What holds of pages whose turns others' turns fall between.
use Rattle.std.specs.Prelude.{◌≡◌, ℕ, ◌≤◌, ◌<◌, true, List, [], ◌∷◌, ◌++◌, take, Option, Some, None, Result, Ok}
use Rattle.mt_model.specs.declared.key.Key.{Key}
use Rattle.mt_filter.specs.declared.filter.Filter.{Filter}
use Rattle.mt_match.specs.declared.bounds.Bounds.{Bounds}
use Rattle.mt_chain.specs.declared.row.Stored.{Stored}
use Rattle.mt_chain.specs.Table.{table_of, rows_of as as_rows}
use Rattle.mt_history.specs.Window.{Window, replay}
use Rattle.mt_history.specs.Replies.{is_matched}
use Rattle.mt_scan.specs.declared.unit.Token.{Token}
use Rattle.mt_scan.specs.Pages as pages
use Rattle.mt_scan.specs.Streams.{Step, rows_of, IsStream, all_steps, IsWhole}
use Rattle.mt_scan.proofs.StreamLaws.{row_comes}
use Rattle.mt_world.specs.declared.actor.ClientCall.TheVariants as client
use Rattle.mt_world.specs.declared.actor.Actor.{Actor}
use Rattle.mt_world.specs.declared.actor.Actor.TheVariants.{Client}
use Rattle.mt_world.specs.declared.actor.Answer.{Answer}
use Rattle.mt_world.specs.declared.actor.Progress.{Progress}
use Rattle.mt_world.specs.declared.actor.Progress.TheVariants.{More, Done}
use Rattle.mt_world.specs.declared.actor.TurnFault.{TurnFault}
use Rattle.mt_world.specs.Worlds.{WorldState, Tells}
use Rattle.mt_world.specs.Moves.{NewEntry}
use Rattle.mt_world.specs.Turns.{Turns}
use Rattle.mt_world.specs.PageCalls.{with_one, AreStepEntries}
use Rattle.mt_world.specs.OpenPages.{AreEntered, IsOpen}
use Rattle.mt_world.proofs.OpenPageLaws.{OpenTurn, OpenEnds, stable_at, open_beside, open_turn, open_ends, open_whole}

-- an open page's entries are its units so far: while others take turns they stay where they are
pub an_open_page_stays_beside_others : (w w' : WorldState) (caller other : ℕ) (start call : pages.Page) (from : ℕ) (steps : List Step) (b b' : Actor) (r : Result Progress TurnFault) (entry : Option NewEntry) → Turns w other b r entry w' b' → IsOpen w caller start from steps call → IsOpen w' caller start from steps call
an_open_page_stays_beside_others w w' caller other start call from steps b b' r entry t o = open_beside w w' caller other start call from steps b b' r entry t o

-- a turn of its own that goes on brings at most one unit more, with its entry
pub an_open_page_goes_on : (w w' : WorldState) (caller : ℕ) (start call : pages.Page) (from : ℕ) (steps : List Step) (a' : Actor) (entry : Option NewEntry) → IsOpen w caller start from steps call → Turns w caller (Client (client.Page call)) (Ok More) entry w' a' → OpenTurn w' caller start call from steps entry a'
an_open_page_goes_on w w' caller start call from steps a' entry o t = open_turn w w' caller start call from steps a' o entry t

-- its last brings the last unit, and its answer is the page behind the units
pub an_open_page_ends : (w w' : WorldState) (caller : ℕ) (start call : pages.Page) (from : ℕ) (steps : List Step) (a' : Actor) (entry : Option NewEntry) (answer : Answer) → IsOpen w caller start from steps call → Turns w caller (Client (client.Page call)) (Ok (Done answer)) entry w' a'
    → (s : Step) × AreStepEntries call.filter (s ∷ []) [] (with_one entry []) × OpenEnds w' caller start from (steps ++ s ∷ []) answer
an_open_page_ends w w' caller start call from steps a' entry answer o t = open_ends w w' caller start call from steps a' o entry answer t

-- and its units are then a whole page
pub an_ended_page_is_whole : (w' : WorldState) (caller : ℕ) (filter : Option Filter) (bounds : Bounds) (top : ℕ) (token : Option Token) (from : ℕ) (steps : List Step) (answer : Answer) → OpenEnds w' caller (pages.begun filter bounds top token) from steps answer → Tells w' → IsWhole filter bounds top token steps
an_ended_page_is_whole w' caller filter bounds top token from steps answer ends tells = open_whole w' caller filter bounds top token from steps answer ends tells

-- a row that the filter matches, and that the history leaves the same from the first entry of a stream to its last, comes in the stream; since keys rise, it comes once
pub a_row_that_stays_in_the_history_comes : (h : Window) (caller : ℕ) (filter : Option Filter) (bounds : Bounds) (read : List (ℕ × List Step)) (from to : ℕ) (key : Key) (row : Stored) → pages.AreBounds filter bounds → IsStream filter bounds None read None → AreEntered h caller filter from (all_steps read) to
    → is_matched filter key row.props ≡ true → ((n : ℕ) → from ≤ n → n < to → replay h.base (take n h.entries) key ≡ Some row) → table_of (as_rows (rows_of (all_steps read))) key ≡ Some row
a_row_that_stays_in_the_history_comes h caller filter bounds read from to key row are stream entered matched same = row_comes filter bounds read key row are stream matched (stable_at h caller filter from to (all_steps read) key row entered same)
