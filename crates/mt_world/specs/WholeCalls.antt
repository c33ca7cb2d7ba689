-- Turns one after the other, each with its mark: a client's call from its beginning to its answer, and some steps of a migrator or a cleaner.
use Rattle.std.specs.Prelude.{◌≡◌, ℕ, ◌+◌, ◌≤◌, Bool, true, false, not, MatchBool, OnOk, IsSome, List, [], ◌∷◌, length, Option, Some, None, Result, Ok, Err}
use Rattle.mt_chain.specs.declared.op.Op.{Op}
use Rattle.mt_filter.specs.declared.filter.Filter.{Filter}
use Rattle.mt_chain.specs.Batch.{batch_weight}
use Rattle.mt_history.specs.declared.entry.What.TheVariants as what
use Rattle.mt_history.specs.declared.model.Reply.TheVariants as reply
use Rattle.mt_history.specs.Kept.{has_room}
use Rattle.mt_history.specs.Weight.{need_of_query, need_of_move}
use Rattle.mt_migrate.specs.declared.state.State.{State as MoverState}
use Rattle.mt_clean.specs.declared.state.State.{State as CleanerState}
use Rattle.mt_world.specs.declared.actor.ClientCall.{ClientCall}
use Rattle.mt_world.specs.declared.actor.Actor.{Actor}
use Rattle.mt_world.specs.declared.actor.Actor.TheVariants.{Client, Migrator, Cleaner}
use Rattle.mt_world.specs.declared.actor.Answer.{Answer}
use Rattle.mt_world.specs.declared.actor.Answer.TheVariants.{Written, Refused, Rows, Page, Moved, Cleaned, NotSealed, NotMigrated}
use Rattle.mt_world.specs.declared.actor.Progress.{Progress}
use Rattle.mt_world.specs.declared.actor.Progress.TheVariants.{More, Done}
use Rattle.mt_world.specs.declared.actor.Stepped.{Stepped}
use Rattle.mt_world.specs.declared.actor.TurnFault.{TurnFault}
use Rattle.mt_world.specs.declared.actor.TurnFault.TheVariants.{StoreFault, HistoryFull, NoMemory}
use Rattle.mt_world.specs.Worlds.{WorldState, Tells, KeepsApart}
use Rattle.mt_world.specs.Moves.{NewEntry, CanStep, IsAtBegin, turns_at_most, fault_entry, actor_facts, retired_where}
use Rattle.mt_world.specs.Logs.{entries_with}
use Rattle.mt_world.specs.Turns.{Turns, Knows, IsSameWorld, RepliesAt, EitherRose, is_full}

-- where a turn found the end of the history, counted from the first entry ever made, and the entry that it left there, if any
pub record Mark : Type 0 where
  pub place : ℕ
  pub entry : Option NewEntry

-- the place behind the last entry
abbrev pub end_of : WorldState → ℕ
end_of w = w.history.first + length w.history.entries

-- a turn with its mark
pub record MarkedTurn (m : Mark) (w : WorldState) (caller : ℕ) (a : Actor) (r : Result Progress TurnFault) (w' : WorldState) (a' : Actor) : Type 0 where
  pub place : m.place ≡ end_of w
  pub turn : Turns w caller a r m.entry w' a'

-- the turn of an answer, and that of a fault
abbrev pub last_turn : Result Answer TurnFault → Result Progress TurnFault
last_turn (Ok answer) = Ok (Done answer)
last_turn (Err fault) = Err fault

-- turns with these marks: all go on, but for the last, which ends the call
abbrev pub Finishes : List Mark → WorldState → ℕ → Actor → Result Answer TurnFault → WorldState → Type 0
Finishes [] w caller a r w' = ⊥
Finishes (m ∷ []) w caller a r w' = (after : Actor) × MarkedTurn m w caller a (last_turn r) w' after
Finishes (m ∷ next ∷ marks) w caller a r w' = (v : WorldState) × (b : Actor) × MarkedTurn m w caller a (Ok More) v b × Finishes (next ∷ marks) v caller b r w'

-- turns that end a client's call; one that begins takes few where both stores tell. What was true and apart from what the call knew is true at the end
pub record EndsCall (w : WorldState) (caller : ℕ) (a : Actor) (r : Result Answer TurnFault) (w' : WorldState) : Type 0 where
  pub marks : List Mark
  pub turns : Finishes marks w caller a r w'
  pub few : IsAtBegin a → Tells w' → length marks ≤ turns_at_most a
  pub keeps : KeepsApart w (actor_facts a) w' []

-- ---- some steps of a migrator or a cleaner

abbrev pub is_client : Actor → Bool
is_client (Client call) = true
is_client (Migrator state) = false
is_client (Cleaner state) = false

-- an actor stays of its kind
abbrev pub StaysOfKind : Actor → Actor → Type 0
StaysOfKind (Client call) a' = (to : ClientCall) × (a' ≡ Client to)
StaysOfKind (Migrator state) a' = (to : MoverState) × (a' ≡ Migrator to)
StaysOfKind (Cleaner state) a' = (to : CleanerState) × (a' ≡ Cleaner to)

-- a migrator or a cleaner takes no turn after one that came to this: it is done
abbrev pub is_at_end : Result Progress TurnFault → Bool
is_at_end (Ok (Done Moved)) = true
is_at_end (Ok (Done Cleaned)) = true
is_at_end r = false

-- turns with these marks: all go on, but perhaps the last, which comes to this
abbrev pub TakesTurns : List Mark → WorldState → ℕ → Actor → Result Progress TurnFault → WorldState → Actor → Type 0
TakesTurns [] w caller a r w' a' = ⊥
TakesTurns (m ∷ []) w caller a r w' a' = MarkedTurn m w caller a r w' a'
TakesTurns (m ∷ next ∷ marks) w caller a r w' a' = (v : WorldState) × (b : Actor) × MarkedTurn m w caller a (Ok More) v b × TakesTurns (next ∷ marks) v caller b r w' a'

-- turns of a migrator or a cleaner, at most so many, that end with the first after which it does not go on. The turn of a fault is one of them. What was true and apart from what the actor knew is true, and apart from what it knows, at the end
pub record TakesSteps (w : WorldState) (caller : ℕ) (a : Actor) (steps : ℕ) (s : Stepped) (w' : WorldState) (a' : Actor) : Type 0 where
  pub marks : List Mark
  pub turns : TakesTurns marks w caller a s.came w' a'
  pub taken : s.taken ≡ length marks
  pub few : s.taken ≤ steps
  -- fewer only where the actor does not go on
  pub whole : s.came ≡ Ok More → s.taken ≡ steps
  pub kind : StaysOfKind a a'
  -- it may take its next turn exactly where it is not done
  pub ready : MatchBool (is_at_end s.came) (CanStep a' → ⊥) (CanStep a')
  pub knows : Knows w' a'
  pub keeps : KeepsApart w (actor_facts a) w' (actor_facts a')

-- ---- what a whole call comes to

-- the entry of a call that broke off
abbrev pub entry_of_fault : TurnFault → Option NewEntry
entry_of_fault StoreFault = Some fault_entry
entry_of_fault HistoryFull = None
entry_of_fault NoMemory = None

-- the entry that a batch leaves with its answer
abbrev pub batch_entry : List Op → Result Answer TurnFault → Option NewEntry
batch_entry ops (Ok (Written tags)) = Some (record { what = what.Batch ops tags; reply = reply.Written tags })
batch_entry ops (Ok (Refused refusal)) = Some (record { what = what.Refused ops; reply = reply.Refused refusal })
batch_entry ops (Ok (Rows rows)) = None
batch_entry ops (Ok (Page page)) = None
batch_entry ops (Ok Moved) = None
batch_entry ops (Ok Cleaned) = None
batch_entry ops (Ok NotSealed) = None
batch_entry ops (Ok (NotMigrated pk)) = None
batch_entry ops (Err fault) = entry_of_fault fault

-- and a query
abbrev pub query_entry : List ℕ → Option Filter → Result Answer TurnFault → Option NewEntry
query_entry pk filter (Ok (Written tags)) = None
query_entry pk filter (Ok (Refused refusal)) = None
query_entry pk filter (Ok Moved) = None
query_entry pk filter (Ok Cleaned) = None
query_entry pk filter (Ok NotSealed) = None
query_entry pk filter (Ok (NotMigrated part)) = None
query_entry pk filter (Ok (Rows rows)) = Some (record { what = what.Query pk filter; reply = reply.Rows rows })
query_entry pk filter (Ok (Page page)) = None
query_entry pk filter (Err fault) = entry_of_fault fault

-- the marks of turns that found the history with that end, of which the last left this entry, or none
abbrev pub AreMarksAt : ℕ → Option NewEntry → List Mark → Type 0
AreMarksAt place entry [] = ⊥
AreMarksAt place entry (m ∷ []) = m ≡ record { place = place; entry = entry }
AreMarksAt place entry (m ∷ next ∷ marks) = (m ≡ record { place = place; entry = None }) × AreMarksAt place entry (next ∷ marks)

-- what turns of a call with no other caller between them come to: one entry at most, with the answer
pub record CallAnswers (w : WorldState) (caller : ℕ) (need : ℕ) (entry : Option NewEntry) (marks : List Mark) (r : Result Answer TurnFault) (w' : WorldState) : Type 0 where
  pub same : IsSameWorld w w'
  pub retired : w'.retired ≡ w.retired
  pub tells : Tells w' → Tells w
  pub full : is_full r ≡ not (has_room w.history need)
  -- an answer leaves its entry, so no call is answered what is not its own
  pub answered : OnOk r (IsSome entry)
  pub marks_are : AreMarksAt (end_of w) entry marks
  pub entries : w'.history.entries ≡ entries_with w.history.entries w.numbers caller entry
  pub replies : RepliesAt w entry w'
  pub cause : r ≡ Err StoreFault → EitherRose w w'
  pub old_faults : w.old_store.faults ≤ w'.old_store.faults
  pub new_faults : w.new_store.faults ≤ w'.new_store.faults
  pub calls : w.calls ≤ w'.calls

abbrev pub BatchAnswers : WorldState → ℕ → List Op → List Mark → Result Answer TurnFault → WorldState → Type 0
BatchAnswers w caller ops marks r w' = CallAnswers w caller (batch_weight ops) (batch_entry ops r) marks r w'

abbrev pub QueryAnswers : WorldState → ℕ → List ℕ → Option Filter → List Mark → Result Answer TurnFault → WorldState → Type 0
QueryAnswers w caller pk filter marks r w' = CallAnswers w caller (need_of_query pk filter) (query_entry pk filter r) marks r w'

-- the entry at the end of some steps of a migrator or a cleaner: that of a call that failed
abbrev pub entry_at_end : Result Progress TurnFault → Option NewEntry
entry_at_end (Ok progress) = None
entry_at_end (Err fault) = entry_of_fault fault

-- what some steps of a migrator or a cleaner come to with no other caller between them: one entry at most, that of a failed call, which ends them
pub record StepsAnswer (w : WorldState) (caller : ℕ) (marks : List Mark) (r : Result Progress TurnFault) (w' : WorldState) : Type 0 where
  pub same : IsSameWorld w w'
  -- retired once a cleaner is done
  pub retired : w'.retired ≡ retired_where r w.retired
  pub tells : Tells w' → Tells w
  pub full : is_full r ≡ not (has_room w.history need_of_move)
  pub marks_are : AreMarksAt (end_of w) (entry_at_end r) marks
  pub entries : w'.history.entries ≡ entries_with w.history.entries w.numbers caller (entry_at_end r)
  pub cause : r ≡ Err StoreFault → EitherRose w w'
  pub old_faults : w.old_store.faults ≤ w'.old_store.faults
  pub new_faults : w.new_store.faults ≤ w'.new_store.faults
  pub calls : w.calls ≤ w'.calls
