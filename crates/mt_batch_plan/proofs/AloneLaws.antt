-- Steps of a call that no other actor comes between: each goes on to a later place, and a write is done.
use Rattle.std.proofs.Common.{◌≡◌, ℕ, ◌<◌, Bool, true, false, ◌&&◌, List, [], ◌∷◌, map, refl, sym, ap, ◌∙◌, subst, arith, Some, None, Option, option_map, Ok}
use Rattle.std.specs.Prelude.{not}
use Rattle.std.specs.List.{AllByRecursion}
use Rattle.mt_model.specs.declared.tag.Tag.{Tag}
use Rattle.mt_chain.specs.declared.row.Stored.{Stored}
use Rattle.mt_chain.specs.declared.row.StoredRow.{StoredRow}
use Rattle.mt_chain.specs.declared.row.Put.{Put}
use Rattle.mt_chain.specs.declared.op.Op.{Op}
use Rattle.mt_chain.specs.declared.op.Refusal.{Refusal}
use Rattle.mt_chain.specs.declared.ask.Ask.TheVariants as ask
use Rattle.mt_chain.specs.declared.ask.StoreAsk.{StoreAsk}
use Rattle.mt_chain.specs.declared.ask.StoreReply.{StoreReply}
use Rattle.mt_chain.specs.declared.ask.StoreReply.TheVariants as reply
use Rattle.mt_chain.specs.Rows.{Rows, row_at, shown, named_rows, row_in, has_partition}
use Rattle.mt_chain.specs.Puts.{row_key, holds, has_tag}
use Rattle.mt_chain.specs.StoreCall.{Contents, is_sealed_off}
use Rattle.mt_chain.specs.Asks.{Means}
use Rattle.mt_chain.specs.Effect.{op_key, effect, any_tag, cause_on, left_by}
use Rattle.mt_chain.specs.Batch.{refusal_of}
use Rattle.mt_chain.proofs.RowLaws.{has_its_partition}
use Rattle.mt_chain.proofs.PutLaws.{Each, Held, all_hold}
use Rattle.mt_chain.proofs.JudgeLaws.{was_unmet, was_sealed_off}
use Rattle.mt_chain.proofs.Theorems.{none_refuses}
use Rattle.mt_rules.specs.Batches.{IsBatch, partition_of}
use Rattle.mt_meta.specs.declared.marker.Phase.{Phase}
use Rattle.mt_meta.specs.declared.marker.Phase.TheVariants.{UseOld, PreferOld, PreferNew}
use Rattle.mt_meta.specs.declared.marker.NewPhase.{NewPhase}
use Rattle.mt_meta.specs.declared.marker.NewPhase.TheVariants.{Filling, UseNew}
use Rattle.mt_meta.specs.Markers.{marker_key, old_phase_of, new_phase_of}
use Rattle.mt_meta.specs.Logical.{Pair, NoOld, BadOld, AtFilling, BadNew, old_says, new_says, old_state, new_state, old_at, new_at, old_state_at, new_state_at}
use Rattle.mt_meta.specs.Sound.{IsSound}
use Rattle.mt_meta.specs.Modes.{Mode, Empty, AtOld, Prepared, Copying, Overlaid, Settled, NewOnly, Broken, mode}
use Rattle.mt_meta.specs.Steps.{PairMeans}
use Rattle.mt_meta.specs.ReadRows.{kept_in, tag_or}
use Rattle.mt_meta.proofs.ReadLaws.{read_at, kept_at}
use Rattle.mt_meta.proofs.ModeLaws.{IsWhole, old_in, new_in, whole, says}
use Rattle.mt_meta.proofs.Growth.{no_rows}
use Rattle.mt_batch_plan.specs.declared.basis.Basis.{Basis}
use Rattle.mt_batch_plan.specs.declared.basis.Basis.TheVariants.{OldRows, OldBirth, Overlay, NewRows, NewBirth}
use Rattle.mt_batch_plan.specs.declared.place.AfterOld.{AfterOld}
use Rattle.mt_batch_plan.specs.declared.place.AfterOld.TheVariants.{Turned, Closed}
use Rattle.mt_batch_plan.specs.declared.place.Place.{Place}
use Rattle.mt_batch_plan.specs.declared.place.Place.TheVariants.{ReadOld, ReadNew, Write}
use Rattle.mt_batch_plan.specs.declared.call.BatchProgress.{BatchProgress}
use Rattle.mt_batch_plan.specs.declared.call.BatchProgress.TheVariants.{More}
use Rattle.mt_batch_plan.specs.Bases.{table_on, seen_on, stored_in, seen_by, kept_on, put_of, put_by, phase_in, marker_check, marker_birth, marker_birth_new, is_write_marker, IsMarked}
use Rattle.mt_batch_plan.specs.Calls.{writes, AreNames, IsInOrder, Asks, decided, marker_says, saw_old, phase_says, saw_new, Absorbs, PlaceFits}
use Rattle.mt_batch_plan.specs.Alone.{AreNamedRows, BasisStands, AfterStands, StandsOn, turns_before}
use Rattle.mt_batch_plan.proofs.BatchLaw.{stays_same, new_same, saw_is, entries_is}
use Rattle.mt_batch_plan.proofs.EffectLaws.{put_key}
use Rattle.mt_batch_plan.proofs.OpLaws.{all_sorted, each_key, marker_named, key_named}
use Rattle.mt_batch_plan.proofs.OnRead.{has_itself, puts_hold}
use Rattle.mt_batch_plan.proofs.ReplyLaws.{done_ends}

-- ---- the markers of a sound pair

bad_old : (m : Mode) → IsWhole m → BadOld ≡ old_in m → ⊥
bad_old Empty w e = absurd cc
bad_old AtOld w e = absurd cc
bad_old Prepared w e = absurd cc
bad_old Copying w e = absurd cc
bad_old Overlaid w e = absurd cc
bad_old Settled w e = absurd cc
bad_old NewOnly w e = absurd cc
bad_old Broken w e = absurd w

bad_new : (m : Mode) → IsWhole m → BadNew ≡ new_in m → ⊥
bad_new Empty w e = absurd cc
bad_new AtOld w e = absurd cc
bad_new Prepared w e = absurd cc
bad_new Copying w e = absurd cc
bad_new Overlaid w e = absurd cc
bad_new Settled w e = absurd cc
bad_new NewOnly w e = absurd cc
bad_new Broken w e = absurd w

-- new does not fill where old has no marker
unfilled : (m : Mode) → IsWhole m → NoOld ≡ old_in m → AtFilling ≡ new_in m → ⊥
unfilled Empty w o n = absurd cc
unfilled AtOld w o n = absurd cc
unfilled Prepared w o n = absurd cc
unfilled Copying w o n = absurd cc
unfilled Overlaid w o n = absurd cc
unfilled Settled w o n = absurd cc
unfilled NewOnly w o n = absurd cc
unfilled Broken w o n = absurd w

-- a partition of new without a marker has no rows
no_entries : (p : Pair) → IsSound p → (pk : List ℕ) → new_at p pk marker_key ≡ None → (rk : List ℕ) → new_at p pk rk ≡ None
no_entries p s pk none rk = go (new_at p pk rk) refl where
  go : (o : Option Stored) → new_at p pk rk ≡ o → o ≡ None
  go None is = refl
  go (Some row) is = absurd (s.markers.1 pk rk (λ e. let x : Some row ≡ None = sym is ∙ e in absurd cc) none)

-- ---- a read goes on to a later place, and what it has read stands

-- where more is to do, the next place is a later one, and stands
abbrev StandsTo : List Op → Pair → ℕ → Place × BatchProgress → Type 0
StandsTo ops p n to = to.1 ≡ More → (n < turns_before to.0) × StandsOn p ops to.0

decide_stands : (ops : List Op) (p : Pair) (n : ℕ) (r : Option Refusal) (basis : Basis) → n < 2 → BasisStands p ops basis → StandsTo ops p n (decided r basis)
decide_stands ops p n None basis low stands more = (low, stands)
decide_stands ops p n (Some refusal) basis low stands more = absurd cc

module _ (ops : List Op) (p : Pair) (names : List (List ℕ)) (sound : IsSound p) (are : AreNames ops names) where
  abbrev old_rows : List StoredRow
  old_rows = named_rows p.old.rows (partition_of ops) names

  abbrev new_rows : List StoredRow
  new_rows = named_rows p.new.rows (partition_of ops) names

  old_read : AreNamedRows ops p.old.rows old_rows
  old_read = (names, are, refl)

  new_read : AreNamedRows ops p.new.rows new_rows
  new_read = (names, are, refl)

  says_stands : (phase : Option Phase) → old_state_at p (partition_of ops) ≡ old_says phase → StandsTo ops p 0 (marker_says ops old_rows phase)
  says_stands (Some UseOld) state more = decide_stands ops p 0 (refusal_of ops (table_on (OldRows old_rows))) (OldRows old_rows) (omega arith) old_read more
  says_stands (Some PreferOld) state more = decide_stands ops p 0 (refusal_of ops (table_on (OldRows old_rows))) (OldRows old_rows) (omega arith) old_read more
  says_stands (Some PreferNew) state more = (omega arith, state)
  says_stands None state more = absurd (bad_old (mode p (partition_of ops)) (whole p sound (partition_of ops)) (sym state ∙ (says p sound (partition_of ops)).old))

  saw_stands : (marker : Option Stored) (sealed : Bool) → old_at p (partition_of ops) marker_key ≡ marker → sealed ≡ p.old.sealed → StandsTo ops p 0 (saw_old ops old_rows (option_map (shown marker_key) marker) sealed)
  saw_stands (Some s) sealed there is more = says_stands (old_phase_of s.tag.store s.props) (ap old_state there) more
  saw_stands None false there is more = decide_stands ops p 0 (refusal_of ops (table_on OldBirth)) OldBirth (omega arith) (there, sym is) more
  saw_stands None true there is more = (omega arith, ap old_state there)

  phase_stands : (after : AfterOld) (phase : Option NewPhase) → AfterStands p ops after → new_state_at p (partition_of ops) ≡ new_says phase → StandsTo ops p 1 (phase_says ops after new_rows phase)
  phase_stands (Turned rows) (Some Filling) stands state more = decide_stands ops p 1 (refusal_of ops (table_on (Overlay rows new_rows))) (Overlay rows new_rows) (omega arith) new_read more
  phase_stands Closed (Some Filling) stands state more = absurd (unfilled (mode p (partition_of ops)) (whole p sound (partition_of ops)) (sym stands ∙ (says p sound (partition_of ops)).old) (sym state ∙ (says p sound (partition_of ops)).new))
  phase_stands (Turned rows) (Some UseNew) stands state more = decide_stands ops p 1 (refusal_of ops (table_on (NewRows new_rows))) (NewRows new_rows) (omega arith) new_read more
  phase_stands Closed (Some UseNew) stands state more = decide_stands ops p 1 (refusal_of ops (table_on (NewRows new_rows))) (NewRows new_rows) (omega arith) new_read more
  phase_stands (Turned rows) None stands state more = absurd (bad_new (mode p (partition_of ops)) (whole p sound (partition_of ops)) (sym state ∙ (says p sound (partition_of ops)).new))
  phase_stands Closed None stands state more = absurd (bad_new (mode p (partition_of ops)) (whole p sound (partition_of ops)) (sym state ∙ (says p sound (partition_of ops)).new))

  entries_stand : (after : AfterOld) (marker : Option Stored) → AfterStands p ops after → new_at p (partition_of ops) marker_key ≡ marker → StandsTo ops p 1 (saw_new ops after new_rows (option_map (shown marker_key) marker))
  entries_stand after (Some s) stands there more = phase_stands after (new_phase_of s.props) stands (ap new_state there) more
  entries_stand (Turned rows) None stands there more = absurd (sound.prefer_new (partition_of ops) stands (ap new_state there))
  entries_stand Closed None stands there more = decide_stands ops p 1 (refusal_of ops (table_on NewBirth)) NewBirth (omega arith) there more

-- ---- a write that stands is done

-- puts that hold, of a store that takes them, are done: no other answer means anything
is_done : (store : ℕ) (c c' : Contents) (pk : List ℕ) (first : Put) (rest : List Put) (r : StoreReply) → is_sealed_off c pk ≡ false
    → holds first (row_at c.rows pk (row_key first)) ≡ true → Each (Held c.rows pk) rest → Means store (ask.Apply pk (first ∷ rest)) r c c' → (given : List Tag) × (r ≡ reply.Applied given)
is_done store c c' pk first rest (reply.Applied given) allowed here held means = (given, refl)
is_done store c c' pk first rest (reply.Unmet index) allowed here held means =
    let unmet = (was_unmet store c pk (first ∷ rest) index means.0).unmet in
    let met = all_hold 0 c.rows pk (first ∷ rest) (here, held) in
    absurd (let no = sym met ∙ unmet in cc)
is_done store c c' pk first rest reply.SealedOff allowed here held means = absurd (let no = sym allowed ∙ was_sealed_off store c pk (first ∷ rest) means.0 in cc)
is_done store c c' pk first rest (reply.Found found) allowed here held means = absurd means
is_done store c c' pk first rest (reply.Next next) allowed here held means = absurd means
is_done store c c' pk first rest reply.SealDone allowed here held means = absurd means

open_store : (c : Contents) (pk : List ℕ) → c.sealed ≡ false → is_sealed_off c pk ≡ false
open_store c pk e = ap (λ b. b && not (has_partition c.rows pk)) e

-- a store that is sealed takes puts in the partitions that it has
own_partition : (c : Contents) (pk : List ℕ) → has_partition c.rows pk ≡ true → is_sealed_off c pk ≡ false
own_partition c pk e = ap (λ b. c.sealed && not b) e ∙ never c.sealed where
  never : (b : Bool) → b && false ≡ false
  never true = refl
  never false = refl

marked_partition : (rows : Rows) (pk rk : List ℕ) (tag : Tag) (o : Option Stored) → row_at rows pk rk ≡ o → has_tag tag o ≡ true → has_partition rows pk ≡ true
marked_partition rows pk rk tag None is h = absurd cc
marked_partition rows pk rk tag (Some s) is h = has_its_partition rows pk rk s is

-- the marker that was read is there with its tag
marker_holds : (o : Option Stored) → is_write_marker (option_map (shown marker_key) o) ≡ true → has_tag (tag_or (option_map (shown marker_key) o)) o ≡ true
marker_holds None h = absurd cc
marker_holds (Some s) h = has_itself s

new_marker_holds : (phase : NewPhase) (o : Option Stored) → phase_in (option_map (shown marker_key) o) ≡ Some phase → has_tag (tag_or (option_map (shown marker_key) o)) o ≡ true
new_marker_holds phase None h = absurd cc
new_marker_holds phase (Some s) h = has_itself s

-- a row that was not read is not seen, but where old may have one under it
unseen_old : (rows : List StoredRow) (rk : List ℕ) → stored_in (OldRows rows) rk ≡ None → seen_by (OldRows rows) rk ≡ None
unseen_old rows rk none = ap (seen_on (OldRows rows) None) none

unseen_new : (entries : List StoredRow) (rk : List ℕ) → stored_in (NewRows entries) rk ≡ None → seen_by (NewRows entries) rk ≡ None
unseen_new entries rk none = ap (seen_on (NewRows entries) None) none

-- over old's rows each put leaves an entry, and such a put holds on the entry that is there
leaves_entry : (rows entries : List StoredRow) (x : Option Stored) → (made : Stored) × (kept_on (Overlay rows entries) x ≡ Some made)
leaves_entry rows entries None = (_, refl)
leaves_entry rows entries (Some row) = (_, refl)

entry_holds : (rk : List ℕ) (row : Option Stored) (made : Stored) → holds (put_of rk row (Some made)) row ≡ true
entry_holds rk None made = refl
entry_holds rk (Some s) made = has_itself s

entries_hold : (c : Contents) (pk : List ℕ) (rows entries : List StoredRow) (ops : List Op)
    → AllByRecursion (λ op. row_at c.rows pk (op_key op).rk ≡ stored_in (Overlay rows entries) (op_key op).rk) ops → Each (Held c.rows pk) (map (put_by (Overlay rows entries)) ops)
entries_hold c pk rows entries [] same = tt
entries_hold c pk rows entries (op ∷ ops) same =
    let basis = Overlay rows entries in
    let rk = (op_key op).rk in
    let left = left_by (effect op (seen_by basis rk) any_tag) None in
    let made = leaves_entry rows entries left in (
      subst (λ k. holds (put_by basis op) (row_at c.rows pk k) ≡ true) (sym (put_key basis op))
          (subst (λ o. holds (put_by basis op) o ≡ true) (sym same.0)
          (subst (λ m. holds (put_of rk (stored_in basis rk) m) (stored_in basis rk) ≡ true) (sym made.1) (entry_holds rk (stored_in basis rk) made.0))),
      entries_hold c pk rows entries ops same.1,
    )

abbrev Accepted : Basis → Op → Type 0
Accepted basis op = cause_on op (seen_by basis (op_key op).rk) ≡ None

-- the row at the key is the one that was read
abbrev IsThere : Contents → List ℕ → Basis → Op → Type 0
IsThere c pk basis op = row_at c.rows pk (op_key op).rk ≡ stored_in basis (op_key op).rk

module _ (ops sorted : List Op) (batch : IsBatch ops) (order : IsInOrder ops sorted) where
  abbrev part : List ℕ
  part = partition_of ops

  accepted_all : (basis : Basis) → refusal_of ops (table_on basis) ≡ None → AllByRecursion (Accepted basis) sorted
  accepted_all basis accepted = all_sorted (Accepted basis) ops sorted order (none_refuses ops (table_on basis) accepted)

  there_all : (c : Contents) (basis : Basis) (read : List StoredRow) → ((rk : List ℕ) → kept_in read rk ≡ stored_in basis rk) → AreNamedRows ops c.rows read → AllByRecursion (IsThere c part basis) sorted
  there_all c basis read as_read are = all_sorted (IsThere c part basis) ops sorted order (each_key (λ rk. row_at c.rows part rk ≡ stored_in basis rk) ops batch
      (λ rk other named. sym (ap (λ xs. kept_in xs rk) are.2 ∙ kept_at c.rows part are.0 rk (key_named ops are.0 rk are.1 named)) ∙ as_read rk))

  born_all : (c : Contents) (basis : Basis) → ((rk : List ℕ) → row_at c.rows part rk ≡ None) → ((rk : List ℕ) → stored_in basis rk ≡ None) → AllByRecursion (IsThere c part basis) sorted
  born_all c basis none nothing = all_sorted (IsThere c part basis) ops sorted order (each_key (λ rk. row_at c.rows part rk ≡ stored_in basis rk) ops batch (λ rk other named. none rk ∙ sym (nothing rk)))

  -- the marker among the rows that were read is the store's
  marker_read : (rows : Rows) (read : List StoredRow) → AreNamedRows ops rows read → row_in read marker_key ≡ option_map (shown marker_key) (row_at rows part marker_key)
  marker_read rows read are = ap (λ xs. row_in xs marker_key) are.2 ∙ read_at rows part are.0 marker_key (marker_named ops are.0 are.1)

  -- puts under the marker that was read are done
  checked : (store : ℕ) (c c' : Contents) (basis : Basis) (read : List StoredRow) (r : StoreReply) → AreNamedRows ops c.rows read → has_tag (tag_or (row_in read marker_key)) (row_at c.rows part marker_key) ≡ true
      → Each (Held c.rows part) (map (put_by basis) sorted) → Means store (ask.Apply part (marker_check read ∷ map (put_by basis) sorted)) r c c' → (given : List Tag) × (r ≡ reply.Applied given)
  checked store c c' basis read r are here held means =
      is_done store c c' part (marker_check read) (map (put_by basis) sorted) r (own_partition c part (marked_partition c.rows part marker_key (tag_or (row_in read marker_key)) (row_at c.rows part marker_key) refl here)) here held means

  basis_done : (basis : Basis) (r : StoreReply) (p q : Pair) → IsMarked basis → refusal_of ops (table_on basis) ≡ None → IsSound p → BasisStands p ops basis
      → PairMeans (writes part basis sorted) r p q → (given : List Tag) × (r ≡ reply.Applied given)
  basis_done (OldRows rows) r p q marked accepted sound stands means =
      let sees = marker_read p.old.rows rows stands in
      checked p.old_number p.old q.old (OldRows rows) rows r stands
      (subst (λ m. has_tag (tag_or m) (old_at p part marker_key) ≡ true) (sym sees) (marker_holds (old_at p part marker_key) (subst (λ m. is_write_marker m ≡ true) sees marked)))
      (puts_hold p.old part (OldRows rows) sorted (unseen_old rows) (there_all p.old (OldRows rows) rows (λ rk. refl) stands) (accepted_all (OldRows rows) accepted))
      means.0
  basis_done OldBirth r p q marked accepted sound stands means =
      is_done p.old_number p.old q.old part marker_birth (map (put_by OldBirth) sorted) r (open_store p.old part stands.1) (ap (holds marker_birth) stands.0)
      (puts_hold p.old part OldBirth sorted (λ rk none. refl) (born_all p.old OldBirth (no_rows p sound part stands.0) (λ rk. refl)) (accepted_all OldBirth accepted))
      means.0
  basis_done (Overlay rows entries) r p q marked accepted sound stands means =
      let sees = marker_read p.new.rows entries stands in
      checked p.new_number p.new q.new (Overlay rows entries) entries r stands
      (subst (λ m. has_tag (tag_or m) (new_at p part marker_key) ≡ true) (sym sees) (new_marker_holds Filling (new_at p part marker_key) (subst (λ m. phase_in m ≡ Some Filling) sees marked)))
      (entries_hold p.new part rows entries sorted (there_all p.new (Overlay rows entries) entries (λ rk. refl) stands))
      means.0
  basis_done (NewRows entries) r p q marked accepted sound stands means =
      let sees = marker_read p.new.rows entries stands in
      checked p.new_number p.new q.new (NewRows entries) entries r stands
      (subst (λ m. has_tag (tag_or m) (new_at p part marker_key) ≡ true) (sym sees) (new_marker_holds UseNew (new_at p part marker_key) (subst (λ m. phase_in m ≡ Some UseNew) sees marked)))
      (puts_hold p.new part (NewRows entries) sorted (unseen_new entries) (there_all p.new (NewRows entries) entries (λ rk. refl) stands) (accepted_all (NewRows entries) accepted))
      means.0
  basis_done NewBirth r p q marked accepted sound stands means =
      is_done p.new_number p.new q.new part marker_birth_new (map (put_by NewBirth) sorted) r (open_store p.new part sound.unsealed) (ap (holds marker_birth_new) stands)
      (puts_hold p.new part NewBirth sorted (λ rk none. refl) (born_all p.new NewBirth (no_entries p sound part stands) (λ rk. refl)) (accepted_all NewBirth accepted))
      means.0

-- ---- a step

-- a step that goes on leads to a later place, which stands
pub step_stands : (ops : List Op) (place to : Place) (a : StoreAsk) (r : StoreReply) (p q : Pair)
    → IsBatch ops → PlaceFits ops place → IsSound p → StandsOn p ops place → Asks ops place a → PairMeans a r p q → Absorbs ops place r (Ok More) to
    → (turns_before place < turns_before to) × StandsOn q ops to
step_stands ops ReadOld to a (reply.Found found) p q batch fits sound stands asks means absorbs =
    let m = subst (λ x. PairMeans x (reply.Found found) p q) asks.2 means in
    let sees = saw_is ops p asks.0 found asks.1 m.0.1 in
    subst (λ x. (0 < turns_before to) × StandsOn x ops to) (sym (stays_same p q m.0.0 m.1))
    (subst (StandsTo ops p 0) (sym (absorbs ∙ sees)) (saw_stands ops p asks.0 sound asks.1 (old_at p (partition_of ops) marker_key) found.sealed refl m.0.1.sealed) refl)
step_stands ops ReadOld to a r p q batch fits sound stands asks means absorbs = absurd absorbs
step_stands ops (ReadNew after) to a (reply.Found found) p q batch fits sound stands asks means absorbs =
    let m = subst (λ x. PairMeans x (reply.Found found) p q) asks.2 means in
    let sees = entries_is ops after p asks.0 found asks.1 m.0.1 in
    subst (λ x. (1 < turns_before to) × StandsOn x ops to) (sym (new_same p q m.0.0 m.1))
    (subst (StandsTo ops p 1) (sym (absorbs ∙ sees)) (entries_stand ops p asks.0 sound asks.1 after (new_at p (partition_of ops) marker_key) stands refl) refl)
step_stands ops (ReadNew after) to a r p q batch fits sound stands asks means absorbs = absurd absorbs
step_stands ops (Write basis) to a r p q batch fits sound stands asks means absorbs =
    absurd (done_ends ops (Write basis) to r refl (basis_done ops asks.0 batch asks.1 basis r p q fits.0 fits.1 sound stands (subst (λ x. PairMeans x r p q) asks.2 means)) absorbs)

-- and at each place few turns are behind the call
pub few_before : (place : Place) → turns_before place < 3
few_before ReadOld = omega arith
few_before (ReadNew after) = omega arith
few_before (Write basis) = omega arith
