-- The cleaner: what it asks in each state, where a reply leads, and what it keeps whatever the stores reply.
use Rattle.std.specs.Prelude.{◌≡◌, ℕ, ◌≤◌, Bool, true, false, not, ◌&&◌, bytes_eq, List, [], ◌∷◌, map, filter, length, Option, Some, None, Result, Ok, Err, if◌then◌else◌}
use Rattle.std.specs.List.{AllByRecursion}
use Rattle.mt_model.specs.declared.text.NoMemory.{NoMemory}
use Rattle.mt_model.specs.declared.tag.Tag.{Tag}
use Rattle.mt_chain.specs.declared.row.Put.{Put}
use Rattle.mt_chain.specs.declared.row.Put.TheVariants as put
use Rattle.mt_chain.specs.declared.row.StoredRow.{StoredRow}
use Rattle.mt_chain.specs.declared.query.RkFrom.{RkFrom}
use Rattle.mt_chain.specs.declared.query.RkFrom.TheVariants as place
use Rattle.mt_chain.specs.declared.query.PkFrom.TheVariants as start
use Rattle.mt_chain.specs.declared.query.Range.{Range}
use Rattle.mt_chain.specs.declared.query.Found.{Found}
use Rattle.mt_chain.specs.declared.query.Next.{Next}
use Rattle.mt_chain.specs.declared.ask.Side.{Side}
use Rattle.mt_chain.specs.declared.ask.Side.TheVariants.{Old, New}
use Rattle.mt_chain.specs.declared.ask.Ask.TheVariants as ask
use Rattle.mt_chain.specs.declared.ask.StoreAsk.{StoreAsk}
use Rattle.mt_chain.specs.declared.ask.StoreReply.{StoreReply}
use Rattle.mt_chain.specs.declared.ask.StoreReply.TheVariants as reply
use Rattle.mt_chain.specs.Rows.{row_in, read_end}
use Rattle.mt_meta.specs.declared.marker.NewPhase.{NewPhase}
use Rattle.mt_meta.specs.declared.marker.NewPhase.TheVariants.{Filling, UseNew}
use Rattle.mt_meta.specs.declared.mark.Mark.{Mark}
use Rattle.mt_meta.specs.declared.mark.Mark.TheVariants.{Live, Copy, Tomb}
use Rattle.mt_meta.specs.Markers.{marker_key, new_phase_of}
use Rattle.mt_meta.specs.Marks.{mark_of}
use Rattle.mt_meta.specs.ReadRows.{reads_marked}
use Rattle.mt_clean.specs.declared.state.State.{State}
use Rattle.mt_clean.specs.declared.state.State.TheVariants as at
use Rattle.mt_clean.specs.declared.steps.Lead.{Lead}
use Rattle.mt_clean.specs.declared.steps.Lead.TheVariants as to
use Rattle.mt_clean.specs.declared.cleaner.CleanProgress.{CleanProgress}
use Rattle.mt_clean.specs.declared.cleaner.CleanProgress.TheVariants as progress

-- ---- rows that were read

-- the row is not the marker
abbrev pub is_data : StoredRow → Bool
is_data r = not (bytes_eq r.rk marker_key)

abbrev pub is_tomb : Option Mark → Bool
is_tomb (Some Tomb) = true
is_tomb (Some Live) = false
is_tomb (Some (Copy tag)) = false
is_tomb None = false

-- a data row of new that stands for a deleted one
abbrev pub is_tombstone : StoredRow → Bool
is_tombstone r = is_data r && is_tomb (mark_of r.props)

abbrev pub data_rows : List StoredRow → List StoredRow
data_rows rows = filter is_data rows

abbrev pub tombs_of : List StoredRow → List StoredRow
tombs_of rows = filter is_tombstone rows

-- ---- what is asked

-- a range begins past a row key
abbrev pub past : Option (List ℕ) → RkFrom
past None = place.Start
past (Some rk) = place.After rk

-- at most 100 rows, past a row key
abbrev pub next_rows : Option (List ℕ) → Range
next_rows after = record { from = past after; upto = None; limit = Some 100 }

abbrev pub writes : Side → List ℕ → List Put → StoreAsk
writes side pk puts = record { side = side; ask = ask.Apply pk puts }

-- the row goes, if it has the tag that was read
abbrev pub delete_of : StoredRow → Put
delete_of r = put.Delete r.rk r.tag

abbrev pub deletes_of : List StoredRow → List Put
deletes_of rows = map delete_of rows

-- old's marker stays while the partition has more rows than are dropped, and goes with the last of them
abbrev pub marker_put : Tag → Bool → Put
marker_put marker more = if more then put.Check marker_key marker else put.Delete marker_key marker

abbrev pub Asks : State → StoreAsk → Type 0
Asks at.Walk a = a ≡ record { side = Old; ask = ask.Next (start.From []) }
Asks (at.Tombs pk after) a = a ≡ reads_marked New pk (Some (next_rows after))
Asks (at.Purge pk upto tombs) a = a ≡ writes New pk (deletes_of tombs)
Asks (at.Rows pk) a = a ≡ reads_marked Old pk (Some (next_rows None))
Asks (at.Drop pk marker rows more) a = a ≡ writes Old pk (marker_put marker more ∷ deletes_of rows)
Asks at.Done a = ⊥

-- ---- where a reply leads

-- a sealed old without a partition is clean
abbrev pub walked : Bool → Option (List ℕ) → Lead
walked false pk = to.NotSealed
walked true None = to.To at.Done
walked true (Some pk) = to.To (at.Tombs pk None)

-- new has no tombstone up to there: on from there, or to old's rows where that is the end
abbrev pub purged : List ℕ → Option (List ℕ) → State
purged pk None = at.Rows pk
purged pk (Some rk) = at.Tombs pk (Some rk)

abbrev pub purge_or_on : List ℕ → Option (List ℕ) → List StoredRow → State
purge_or_on pk upto [] = purged pk upto
purge_or_on pk upto (tomb ∷ tombs) = at.Purge pk upto (tomb ∷ tombs)

abbrev pub by_new_phase : List ℕ → Option (List ℕ) → List StoredRow → Option NewPhase → Lead
by_new_phase pk upto rows (Some UseNew) = to.To (purge_or_on pk upto (tombs_of rows))
by_new_phase pk upto rows (Some Filling) = to.NotMigrated pk
by_new_phase pk upto rows None = to.To at.Walk

-- new was read up to there
abbrev pub read_new : List ℕ → Option (List ℕ) → List StoredRow → Option StoredRow → Lead
read_new pk upto rows None = to.NotMigrated pk
read_new pk upto rows (Some m) = by_new_phase pk upto rows (new_phase_of m.props)

-- old was read
abbrev pub read_old : List ℕ → List StoredRow → Bool → Option StoredRow → State
read_old pk rows more None = at.Walk
read_old pk rows more (Some m) = at.Drop pk m.tag (data_rows rows) more

-- rows of old were dropped, and the marker where there were no more
abbrev pub dropped : List ℕ → Bool → State
dropped pk more = if more then at.Rows pk else at.Walk

-- where a reading of new ends, at a reply that shows it
abbrev pub end_read : State → StoreReply → Option (List ℕ)
end_read (at.Tombs pk after) (reply.Found found) = read_end found.rows found.more
end_read state r = None

-- old's first partition was told
abbrev pub after_next : State → Next → Lead
after_next at.Walk next = walked next.sealed next.pk
after_next state next = to.To state

-- rows were read
abbrev pub after_read : State → Found → Lead
after_read (at.Tombs pk after) found = read_new pk (read_end found.rows found.more) found.rows (row_in found.named marker_key)
after_read (at.Rows pk) found = to.To (read_old pk found.rows found.more (row_in found.named marker_key))
after_read state found = to.To state

-- puts were made
abbrev pub after_write : State → State
after_write (at.Purge pk upto tombs) = purged pk upto
after_write (at.Drop pk marker rows more) = dropped pk more
after_write state = state

-- puts were not made: what was read is read again
abbrev pub after_unmet : State → State
after_unmet (at.Purge pk upto tombs) = at.Tombs pk None
after_unmet (at.Drop pk marker rows more) = at.Rows pk
after_unmet state = state

abbrev pub lead : State → StoreReply → Lead
lead state (reply.Next next) = after_next state next
lead state (reply.Found found) = after_read state found
lead state (reply.Applied tags) = to.To (after_write state)
lead state (reply.Unmet index) = to.To (after_unmet state)
lead state reply.SealedOff = to.To (after_unmet state)
lead state reply.SealDone = to.To state

-- a cleaner that stops begins again
abbrev pub state_of : Lead → State
state_of (to.To state) = state
state_of to.NotSealed = at.Walk
state_of (to.NotMigrated pk) = at.Walk

abbrev pub progress_at : State → CleanProgress
progress_at at.Done = progress.Done
progress_at state = progress.More

abbrev pub said_of : Lead → CleanProgress
said_of (to.To state) = progress_at state
said_of to.NotSealed = progress.NotSealed
said_of (to.NotMigrated pk) = progress.NotMigrated pk

-- replies that may take memory
abbrev pub TakesMemory : State → StoreReply → Type 0
TakesMemory (at.Tombs pk after) (reply.Found found) = Unit {0}
TakesMemory state r = ⊥

-- where a cleaner is after a reply, and what it says; want of memory leaves it where it was
abbrev pub Absorbs : State → StoreReply → Result CleanProgress NoMemory → State → Type 0
Absorbs state r (Ok said) to' = (to' ≡ state_of (lead state r)) × (said ≡ said_of (lead state r))
Absorbs state r (Err none) to' = TakesMemory state r × (to' ≡ state)

-- ---- what it keeps, whatever the stores reply

-- tombstones in hand: some, and no more than were asked for
pub record ArePurged (tombs : List StoredRow) : Type 0 where
  pub some : 1 ≤ length tombs
  pub few : length tombs ≤ 100
  pub each : AllByRecursion (λ r. is_tombstone r ≡ true) tombs

-- rows of old in hand: no more than were asked for, and the marker is not among them
pub record AreDropped (rows : List StoredRow) : Type 0 where
  pub few : length rows ≤ 100
  pub each : AllByRecursion (λ r. is_data r ≡ true) rows

abbrev pub CleanerFits : State → Type 0
CleanerFits (at.Purge pk upto tombs) = ArePurged tombs
CleanerFits (at.Drop pk marker rows more) = AreDropped rows
CleanerFits state = Unit {0}

abbrev pub is_done : State → Bool
is_done at.Done = true
is_done state = false

abbrev pub says_done : CleanProgress → Bool
says_done progress.Done = true
says_done said = false

-- it has not come to its end
abbrev pub GoesOn : State → Type 0
GoesOn state = is_done state ≡ false
