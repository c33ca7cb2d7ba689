-- The migrator: what it asks in each state, where a reply leads, and what it keeps whatever the stores reply.
use Rattle.std.specs.Prelude.{◌≡◌, ℕ, ◌≤◌, ◌==◌, true, List, [], ◌∷◌, length, Option, Some, None, Result, Ok, Err, if◌then◌else◌}
use Rattle.std.specs.List.{AllByRecursion}
use Rattle.mt_model.specs.declared.text.NoMemory.{NoMemory}
use Rattle.mt_model.specs.declared.tag.Tag.{Tag}
use Rattle.mt_chain.specs.declared.row.Put.{Put}
use Rattle.mt_chain.specs.declared.row.Put.TheVariants as put
use Rattle.mt_chain.specs.declared.row.StoredRow.{StoredRow}
use Rattle.mt_chain.specs.declared.query.RkFrom.{RkFrom}
use Rattle.mt_chain.specs.declared.query.RkFrom.TheVariants as place
use Rattle.mt_chain.specs.declared.query.PkFrom.TheVariants as start
use Rattle.mt_chain.specs.declared.query.Range.{Range}
use Rattle.mt_chain.specs.declared.query.Found.{Found}
use Rattle.mt_chain.specs.declared.ask.Side.{Side}
use Rattle.mt_chain.specs.declared.ask.Side.TheVariants.{Old, New}
use Rattle.mt_chain.specs.declared.ask.Ask.TheVariants as ask
use Rattle.mt_chain.specs.declared.ask.StoreAsk.{StoreAsk}
use Rattle.mt_chain.specs.declared.ask.StoreReply.{StoreReply}
use Rattle.mt_chain.specs.declared.ask.StoreReply.TheVariants as reply
use Rattle.mt_chain.specs.Rows.{row_in, is_from}
use Rattle.mt_chain.specs.Puts.{is_same_tag}
use Rattle.mt_chain.specs.Effect.{any_tag}
use Rattle.mt_meta.specs.declared.marker.Phase.{Phase}
use Rattle.mt_meta.specs.declared.marker.Phase.TheVariants.{UseOld, PreferOld, PreferNew}
use Rattle.mt_meta.specs.declared.marker.NewPhase.{NewPhase}
use Rattle.mt_meta.specs.declared.marker.NewPhase.TheVariants.{Filling, UseNew}
use Rattle.mt_meta.specs.Markers.{marker_key, marker_props, old_kind, new_kind, old_phase_of, new_phase_of}
use Rattle.mt_meta.specs.ReadRows.{reads_marked, marker_tag}
use Rattle.mt_migrate.specs.declared.state.Walk.{Walk}
use Rattle.mt_migrate.specs.declared.state.Walk.TheVariants.{BeforeSeal, AfterSeal}
use Rattle.mt_migrate.specs.declared.state.Pass.{Pass}
use Rattle.mt_migrate.specs.declared.state.Pass.TheVariants.{First, Second}
use Rattle.mt_migrate.specs.declared.state.Part.{Part}
use Rattle.mt_migrate.specs.declared.state.Copying.{Copying}
use Rattle.mt_migrate.specs.declared.state.Reading.{Reading}
use Rattle.mt_migrate.specs.declared.state.State.{State}
use Rattle.mt_migrate.specs.declared.state.State.TheVariants as at
use Rattle.mt_migrate.specs.declared.migrator.MoveProgress.{MoveProgress}
use Rattle.mt_migrate.specs.declared.migrator.MoveProgress.TheVariants as progress
use Rattle.mt_migrate.specs.Chunks.{end_of, chunk_end, is_wanting, ArePuts}

-- ---- what is asked

-- a range begins past what is done
abbrev pub past : Option (List ℕ) → RkFrom
past None = place.Start
past (Some rk) = place.After rk

-- at most 50 rows, past what is done and up to an end
abbrev pub next_rows : Option (List ℕ) → Option (List ℕ) → Range
next_rows done upto = record { from = past done; upto = upto; limit = Some 50 }

abbrev pub writes : Side → List ℕ → List Put → StoreAsk
writes side pk puts = record { side = side; ask = ask.Apply pk puts }

-- a marker in the place of the one of that tag
abbrev pub replaces : List ℕ → Tag → Put
replaces kind tag = put.Replace marker_key (marker_props kind) tag

abbrev pub Asks : State → StoreAsk → Type 0
Asks (at.Walk walk from) a = a ≡ record { side = Old; ask = ask.Next from }
Asks at.SealOld a = a ≡ record { side = Old; ask = ask.Seal }
Asks (at.Look part) a = a ≡ reads_marked Old part.pk None
Asks (at.Prepare part rows) a = a ≡ writes Old part.pk (replaces (old_kind PreferOld) (marker_tag rows) ∷ [])
Asks (at.Claim part pass) a = a ≡ reads_marked New part.pk None
Asks (at.Begin part pass) a = a ≡ writes New part.pk (put.Insert marker_key (marker_props (new_kind Filling)) ∷ [])
Asks (at.Takeover part pass filling) a = a ≡ writes New part.pk (replaces (new_kind Filling) filling ∷ [])
Asks (at.ReadOld copying) a = a ≡ reads_marked Old copying.part.pk (Some (next_rows copying.done None))
Asks (at.ReadNew copying old) a = a ≡ reads_marked New copying.part.pk (Some (next_rows copying.done (end_of old)))
Asks (at.Write copying upto rows entries) a = (puts : List Put) × ArePuts upto rows entries puts × (a ≡ writes New copying.part.pk (put.Check marker_key copying.epoch ∷ puts))
Asks (at.Switch part marker epoch) a = a ≡ writes Old part.pk (replaces (old_kind PreferNew) marker ∷ [])
Asks (at.Finish part epoch) a = a ≡ writes New part.pk (replaces (new_kind UseNew) epoch ∷ [])
Asks at.Done a = ⊥

-- ---- where a reply leads

-- a migrator begins with old's first partition
abbrev pub begin : State
begin = at.Walk BeforeSeal (start.From [])

-- on to the next partition
abbrev pub onward : Part → State
onward part = at.Walk part.walk (start.After part.pk)

-- without a further partition, old is sealed and walked once more
abbrev pub walked : Walk → Option (List ℕ) → State
walked walk (Some pk) = at.Look (record { walk = walk; pk = pk })
walked BeforeSeal None = at.SealOld
walked AfterSeal None = at.Done

abbrev pub by_old_phase : Part → List StoredRow → Tag → Option Phase → State
by_old_phase part rows tag (Some UseOld) = at.Prepare part rows
by_old_phase part rows tag (Some PreferOld) = at.Claim part (First tag)
by_old_phase part rows tag (Some PreferNew) = at.Claim part Second
by_old_phase part rows tag None = begin

abbrev pub by_old_marker : Part → List StoredRow → Option StoredRow → State
by_old_marker part rows None = onward part
by_old_marker part rows (Some m) = by_old_phase part rows m.tag (old_phase_of m.tag.store m.props)

-- old's marker was read
abbrev pub looked : Part → List StoredRow → State
looked part rows = by_old_marker part rows (row_in rows marker_key)

abbrev pub by_new_phase : Part → Pass → Tag → Option NewPhase → State
by_new_phase part pass tag (Some Filling) = at.Takeover part pass tag
by_new_phase part pass tag (Some UseNew) = onward part
by_new_phase part pass tag None = begin

-- new's marker was read
abbrev pub claimed : Part → Pass → Option StoredRow → State
claimed part pass None = at.Begin part pass
claimed part pass (Some m) = by_new_phase part pass m.tag (new_phase_of m.props)

-- a pass from its start
abbrev pub pass_begun : Part → Pass → Tag → State
pass_begun part pass epoch = at.ReadOld (record { part = part; pass = pass; epoch = epoch; done = None })

-- the tag of the one put that was made
abbrev pub first_tag : List Tag → Tag
first_tag [] = any_tag
first_tag (tag ∷ tags) = tag

-- the pass is the first still, and old's marker has this tag now
abbrev pub with_marker : Copying → Tag → Copying
with_marker copying marker = record { part = copying.part; pass = First marker; epoch = copying.epoch; done = copying.done }

-- old was read: a first pass that finds old turned becomes the second, from the start
abbrev pub by_pass : Copying → Reading → Tag → Pass → Phase → State
by_pass copying old marker Second phase = at.ReadNew copying old
by_pass copying old marker (First was) PreferNew = pass_begun copying.part Second copying.epoch
by_pass copying old marker (First was) PreferOld = at.ReadNew (with_marker copying marker) old
by_pass copying old marker (First was) UseOld = at.ReadNew (with_marker copying marker) old

abbrev pub by_read_phase : Copying → Reading → Tag → Option Phase → State
by_read_phase copying old marker None = begin
by_read_phase copying old marker (Some phase) = by_pass copying old marker copying.pass phase

abbrev pub read_old : Copying → Reading → Option StoredRow → State
read_old copying old None = onward copying.part
read_old copying old (Some m) = by_read_phase copying old m.tag (old_phase_of m.tag.store m.props)

-- the first pass is followed by the switch, the second by the end
abbrev pub pass_done : Copying → Pass → State
pass_done copying (First marker) = at.Switch copying.part marker copying.epoch
pass_done copying Second = at.Finish copying.part copying.epoch

-- a chunk up to there is done
abbrev pub chunk_done : Copying → Option (List ℕ) → State
chunk_done copying None = pass_done copying copying.pass
chunk_done copying (Some rk) = at.ReadOld (record { part = copying.part; pass = copying.pass; epoch = copying.epoch; done = Some rk })

-- a chunk without puts is done at once
abbrev pub compared : Copying → Option (List ℕ) → List StoredRow → List StoredRow → State
compared copying upto rows entries = if is_wanting upto rows entries then at.Write copying upto rows entries else chunk_done copying upto

-- new was read: the chunk, which ends there, is compared where new's marker is of the epoch
abbrev pub read_new : Copying → Option (List ℕ) → List StoredRow → List StoredRow → Option StoredRow → State
read_new copying upto rows entries None = at.Look copying.part
read_new copying upto rows entries (Some m) = if is_same_tag m.tag copying.epoch then compared copying upto rows entries else at.Look copying.part

-- the epoch is over, or an entry is another one: then the chunk is read again
abbrev pub unwritten : Copying → ℕ → State
unwritten copying index = if index == 0 then at.Look copying.part else at.ReadOld copying

abbrev pub reading_of : Found → Reading
reading_of found = record { rows = found.rows; more = found.more }

-- where the chunk ends, at a reply that shows it
abbrev pub end_read : State → StoreReply → Option (List ℕ)
end_read (at.ReadNew copying old) (reply.Found found) = chunk_end old (reading_of found)
end_read state r = None

-- the next partition was told
abbrev pub after_next : State → Option (List ℕ) → State
after_next (at.Walk walk from) pk = walked walk pk
after_next state pk = state

-- old was sealed
abbrev pub after_seal : State → State
after_seal at.SealOld = at.Walk AfterSeal (start.From [])
after_seal state = state

-- rows were read
abbrev pub after_read : State → Found → State
after_read (at.Look part) found = looked part found.named
after_read (at.Claim part pass) found = claimed part pass (row_in found.named marker_key)
after_read (at.ReadOld copying) found = read_old copying (reading_of found) (row_in found.named marker_key)
after_read (at.ReadNew copying old) found = read_new copying (chunk_end old (reading_of found)) old.rows found.rows (row_in found.named marker_key)
after_read state found = state

-- puts were made; this is the tag of the first
abbrev pub after_write : State → Tag → State
after_write (at.Prepare part rows) tag = at.Claim part (First tag)
after_write (at.Begin part pass) tag = pass_begun part pass tag
after_write (at.Takeover part pass filling) tag = pass_begun part pass tag
after_write (at.Write copying upto rows entries) tag = chunk_done copying upto
after_write (at.Switch part marker epoch) tag = pass_begun part Second epoch
after_write (at.Finish part epoch) tag = onward part
after_write state tag = state

-- puts were not made, since old is sealed and has dropped the partition: it is looked at again
abbrev pub after_sealed_off : State → State
after_sealed_off (at.Prepare part rows) = at.Look part
after_sealed_off (at.Begin part pass) = at.Look part
after_sealed_off (at.Takeover part pass filling) = at.Look part
after_sealed_off (at.Write copying upto rows entries) = at.Look copying.part
after_sealed_off (at.Switch part marker epoch) = at.Look part
after_sealed_off (at.Finish part epoch) = at.Look part
after_sealed_off state = state

-- puts were not made, since the one of this index does not hold
abbrev pub after_unmet : State → ℕ → State
after_unmet (at.Write copying upto rows entries) index = unwritten copying index
after_unmet state index = after_sealed_off state

abbrev pub moved : State → StoreReply → State
moved state (reply.Next next) = after_next state next.pk
moved state reply.SealDone = after_seal state
moved state (reply.Found found) = after_read state found
moved state (reply.Applied tags) = after_write state (first_tag tags)
moved state (reply.Unmet index) = after_unmet state index
moved state reply.SealedOff = after_sealed_off state

abbrev pub progress_at : State → MoveProgress
progress_at at.Done = progress.Done
progress_at state = progress.More

-- replies that may take memory
abbrev pub TakesMemory : StoreReply → Type 0
TakesMemory (reply.Found found) = Unit {0}
TakesMemory (reply.Next next) = Unit {0}
TakesMemory r = ⊥

-- where a migrator is after a reply, and what it says; want of memory leaves it where it was
abbrev pub Absorbs : State → StoreReply → Result MoveProgress NoMemory → State → Type 0
Absorbs state r (Ok said) to = (to ≡ moved state r) × (said ≡ progress_at to)
Absorbs state r (Err none) to = TakesMemory r × (to ≡ state)

-- ---- what it keeps, whatever the stores reply

-- no more rows than were asked for, past what is done
abbrev pub AreNext : Option (List ℕ) → List StoredRow → Type 0
AreNext done rows = (length rows ≤ 50) × AllByRecursion (λ r. is_from (past done) r.rk ≡ true) rows

-- the phase that the marker among rows says
abbrev pub phase_said : Option StoredRow → Option Phase
phase_said None = None
phase_said (Some m) = old_phase_of m.tag.store m.props

abbrev pub MigratorFits : State → Type 0
MigratorFits (at.Prepare part rows) = phase_said (row_in rows marker_key) ≡ Some UseOld
MigratorFits (at.ReadNew copying old) = AreNext copying.done old.rows
MigratorFits (at.Write copying upto rows entries) = AreNext copying.done rows × AreNext copying.done entries
MigratorFits state = Unit {0}

-- it has not come to its end
abbrev pub GoesOn : State → Type 0
GoesOn state = progress_at state ≡ progress.More
