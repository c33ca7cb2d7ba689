-- A write of a batch, made on what its place knows, is the batch, whatever store it is made in.
use Rattle.std.proofs.Common.{◌≡◌, ◌≢◌, ℕ, ◌+◌, ◌≤◌, ◌<◌, Bool, true, false, List, [], ◌∷◌, map, refl, sym, ap, ◌∙◌, subst, arith, inl, inr, Some, None, Option, option_map}
use Rattle.std.specs.List.{AllByRecursion, zip}
use Rattle.std.proofs.lemmas.List.Elements.{All-from_recursion}
use Rattle.mt_model.specs.declared.tag.Tag.{Tag}
use Rattle.mt_chain.specs.declared.ask.Side.{Side}
use Rattle.mt_chain.specs.declared.ask.Side.TheVariants.{Old, New}
use Rattle.mt_chain.specs.declared.row.Stored.{Stored}
use Rattle.mt_chain.specs.declared.row.StoredRow.{StoredRow}
use Rattle.mt_chain.specs.declared.row.Put.{Put}
use Rattle.mt_chain.specs.declared.row.Put.TheVariants as put
use Rattle.mt_chain.specs.declared.op.Op.{Op}
use Rattle.mt_chain.specs.Rows.{row_at, row_in, key_at}
use Rattle.mt_chain.specs.Puts.{tags_of, counter_after, all_counter_after}
use Rattle.mt_chain.specs.StoreCall.{Contents, Done, judge}
use Rattle.mt_chain.specs.Effect.{op_key, cause_on}
use Rattle.mt_chain.specs.Batch.{refusal_of, op_at, row_after}
use Rattle.mt_chain.proofs.PutLaws as puts
use Rattle.mt_chain.proofs.PutLaws.{Each, each_held, counter_one}
use Rattle.mt_chain.proofs.JudgeLaws.{was_done}
use Rattle.mt_chain.proofs.Theorems.{none_refuses}
use Rattle.mt_rules.specs.Batches.{IsBatch, partition_of}
use Rattle.mt_meta.specs.declared.marker.NewPhase.TheVariants.{Filling, UseNew}
use Rattle.mt_meta.specs.declared.fact.Keys.TheVariants as keys
use Rattle.mt_meta.specs.declared.fact.Fact.{Fact}
use Rattle.mt_meta.specs.Markers.{marker_key, new_phase_of}
use Rattle.mt_meta.specs.Logical.{Pair, AtFilling, old_at, new_state_at, logical}
use Rattle.mt_meta.specs.Sound.{AreTags, IsSound}
use Rattle.mt_meta.specs.Facts.{is_in, is_filling}
use Rattle.mt_meta.specs.Steps.{as_row, AllHold, logical_table, contents_of, number_of, with_store, IsFresh, StepIn}
use Rattle.mt_meta.specs.ReadRows.{kept_in, tag_or}
use Rattle.mt_meta.proofs.ReadLaws.{KnowsRead, known_in, known_read, turned_row, closed_none}
use Rattle.mt_batch_plan.specs.declared.basis.Basis.{Basis}
use Rattle.mt_batch_plan.specs.declared.basis.Basis.TheVariants.{OldRows, OldBirth, Overlay, NewRows, NewBirth}
use Rattle.mt_batch_plan.specs.Bases.{shown_on, seen_on, seen_by, stored_in, table_on, side_of, put_by, marker_put, is_write_marker, phase_in, IsMarked, row_keys, basis_facts}
use Rattle.mt_batch_plan.specs.Calls.{IsInOrder, AnswersTags}
use Rattle.mt_batch_plan.specs.BatchSteps.{IsWritten}
use Rattle.mt_batch_plan.proofs.OldChanges.{OldWrite, client_old, birth_old}
use Rattle.mt_batch_plan.proofs.NewChanges.{NewWrite, checked_state, client_fill, client_new, birth_new}
use Rattle.mt_batch_plan.proofs.OpLaws.{all_sorted, IsOf, ops_of, row_key_of, partition_whole, each_key}
use Rattle.mt_batch_plan.proofs.OnRead.{still_read}
use Rattle.mt_batch_plan.proofs.OnPuts.{IsGoodPut, good_puts, Stands, rows_show}
use Rattle.mt_batch_plan.proofs.PutTags.{puts_take}
use Rattle.mt_batch_plan.proofs.Applied.{Applied, applied}

-- ---- what a write does to the pair

-- clients see this of the rows of the store that is written, before and after
pub record Change (p : Pair) (basis : Basis) (part : List ℕ) (rest : List Put) (n : ℕ) (q : Pair) : Type 0 where
  pub step : (own : List Fact) → StepIn own p q part
  pub was : (rk : List ℕ) → rk ≢ marker_key → logical p part rk ≡ shown_on basis (old_at p part rk) (row_at (contents_of p (side_of basis)).rows part rk)
  pub now : (rk : List ℕ) → rk ≢ marker_key → logical q part rk
      ≡ shown_on basis (old_at p part rk) (puts.row_after (number_of p (side_of basis)) n rest rk (row_at (contents_of p (side_of basis)).rows part rk))

-- the write was done
abbrev pub WasMade : List Op → Basis → Pair → List Op → Contents → List Tag → Type 0
WasMade ops basis p sorted c given = judge (number_of p (side_of basis)) (contents_of p (side_of basis)) (partition_of ops) (marker_put basis ∷ map (put_by basis) sorted) ≡ Done c given

-- the rows read of the store that is written were known
knows_stored : (ops : List Op) (basis : Basis) (retired : Bool) (p : Pair) → AllHold p retired (basis_facts ops basis) → (rk : List ℕ) → KnowsRead (contents_of p (side_of basis)) (partition_of ops) rk (stored_in basis rk)
knows_stored ops (OldRows rows) retired p facts rk = known_read Old p retired (partition_of ops) rows facts rk
knows_stored ops OldBirth retired p facts rk = tt
knows_stored ops (Overlay rows entries) retired p facts rk = known_read New p retired (partition_of ops) entries facts.1 rk
knows_stored ops (NewRows entries) retired p facts rk = known_read New p retired (partition_of ops) entries facts rk
knows_stored ops NewBirth retired p facts rk = tt

sound_tags : (side : Side) (p : Pair) → IsSound p → AreTags (number_of p side) (contents_of p side)
sound_tags Old p sound = sound.tags.0
sound_tags New p sound = sound.tags.1

module _ (ops : List Op) (retired : Bool) (p : Pair) (sorted : List Op) (c : Contents) (given : List Tag) (batch : IsBatch ops) (sound : IsSound p) (order : IsInOrder ops sorted) where
  of_sorted : AllByRecursion (IsOf (partition_of ops)) sorted
  of_sorted = all_sorted (IsOf (partition_of ops)) ops sorted order (All-from_recursion _ ops (ops_of ops batch))

  good : (basis : Basis) → Each (IsGoodPut (partition_of ops) basis) (map (put_by basis) sorted)
  good basis = good_puts (partition_of ops) basis sorted of_sorted

  -- old's rows are written under the marker that was read
  pub rows_change : (rows : List StoredRow) → IsMarked (OldRows rows) → AllHold p retired (basis_facts ops (OldRows rows)) → WasMade ops (OldRows rows) p sorted c given
      → OldWrite p (partition_of ops) (map (put_by (OldRows rows)) sorted) p.old.counter (with_store p Old c)
  rows_change rows marked facts judged = go (row_in rows marker_key) refl where
    go : (marker : Option StoredRow) → row_in rows marker_key ≡ marker → OldWrite p (partition_of ops) (map (put_by (OldRows rows)) sorted) p.old.counter (with_store p Old c)
    go None is = (let no : false ≡ true = sym (ap is_write_marker is) ∙ marked in absurd cc)
    go (Some m) is =
        client_old p (partition_of ops) m.props m.tag (map (put_by (OldRows rows)) sorted) c given sound (known_in Old p retired (partition_of ops) rows facts marker_key m is) (sym (ap is_write_marker is) ∙ marked) (good (OldRows rows))
        (subst (λ t. judge p.old_number p.old (partition_of ops) (put.Check marker_key t ∷ map (put_by (OldRows rows)) sorted) ≡ Done c given) (ap tag_or is) judged)

  pub old_birth_change : WasMade ops OldBirth p sorted c given → OldWrite p (partition_of ops) (map (put_by OldBirth) sorted) (p.old.counter + 1) (with_store p Old c)
  old_birth_change judged = birth_old p (partition_of ops) (map (put_by OldBirth) sorted) c given sound (partition_whole ops batch) (good OldBirth) judged

  -- while new fills, old's rows are still those that were read
  abbrev Filled : List StoredRow → List StoredRow → Type 0
  Filled rows entries = NewWrite p (partition_of ops) Filling (map (put_by (Overlay rows entries)) sorted) p.new.counter (with_store p New c) × (is_filling (new_state_at p (partition_of ops)) ≡ true)

  fill_change : (rows entries : List StoredRow) → IsMarked (Overlay rows entries) → AllHold p retired (basis_facts ops (Overlay rows entries)) → WasMade ops (Overlay rows entries) p sorted c given → Filled rows entries
  fill_change rows entries marked facts judged = go (row_in entries marker_key) refl where
    go : (marker : Option StoredRow) → row_in entries marker_key ≡ marker → Filled rows entries
    go None is = (let no : None ≡ Some Filling = sym (ap phase_in is) ∙ marked in absurd cc)
    go (Some m) is =
        let made = subst (λ t. judge p.new_number p.new (partition_of ops) (put.Check marker_key t ∷ map (put_by (Overlay rows entries)) sorted) ≡ Done c given) (ap tag_or is) judged in
        let knows = known_in New p retired (partition_of ops) entries facts.1 marker_key m is in
        let reads : new_phase_of m.props ≡ Some Filling = sym (ap phase_in is) ∙ marked in
        let done = was_done p.new_number p.new (partition_of ops) (put.Check marker_key m.tag ∷ map (put_by (Overlay rows entries)) sorted) c given made in
        let state : new_state_at p (partition_of ops) ≡ AtFilling = checked_state p (partition_of ops) Filling m.props m.tag (map (put_by (Overlay rows entries)) sorted) sound knows reads (good (Overlay rows entries)) done.met in
        (client_fill p (partition_of ops) m.props m.tag (keys.Named (row_keys ops)) rows (map (put_by (Overlay rows entries)) sorted) c given sound knows facts.0 reads (good (Overlay rows entries)) made, ap is_filling state)

  new_change : (entries : List StoredRow) → IsMarked (NewRows entries) → AllHold p retired (basis_facts ops (NewRows entries)) → WasMade ops (NewRows entries) p sorted c given
      → NewWrite p (partition_of ops) UseNew (map (put_by (NewRows entries)) sorted) p.new.counter (with_store p New c)
  new_change entries marked facts judged = go (row_in entries marker_key) refl where
    go : (marker : Option StoredRow) → row_in entries marker_key ≡ marker → NewWrite p (partition_of ops) UseNew (map (put_by (NewRows entries)) sorted) p.new.counter (with_store p New c)
    go None is = (let no : None ≡ Some UseNew = sym (ap phase_in is) ∙ marked in absurd cc)
    go (Some m) is =
        client_new p (partition_of ops) m.props m.tag (map (put_by (NewRows entries)) sorted) c given sound (known_in New p retired (partition_of ops) entries facts marker_key m is) (sym (ap phase_in is) ∙ marked) (good (NewRows entries))
        (subst (λ t. judge p.new_number p.new (partition_of ops) (put.Check marker_key t ∷ map (put_by (NewRows entries)) sorted) ≡ Done c given) (ap tag_or is) judged)

  new_birth_change : AllHold p retired (basis_facts ops NewBirth) → WasMade ops NewBirth p sorted c given → NewWrite p (partition_of ops) UseNew (map (put_by NewBirth) sorted) (p.new.counter + 1) (with_store p New c)
  new_birth_change facts judged = birth_new p (partition_of ops) (map (put_by NewBirth) sorted) c given sound (partition_whole ops batch) facts.0.sealed (λ rk. closed_none p (partition_of ops) rk facts.0) (good NewBirth) judged

  -- each kind of write, under its marker
  changed : (basis : Basis) → IsMarked basis → AllHold p retired (basis_facts ops basis) → WasMade ops basis p sorted c given
      → Change p basis (partition_of ops) (map (put_by basis) sorted) (counter_after (contents_of p (side_of basis)).counter (marker_put basis)) (with_store p (side_of basis) c)
  changed (OldRows rows) marked facts judged = (let w = rows_change rows marked facts judged in record { step = w.step; was = w.was; now = w.now })
  changed OldBirth marked facts judged = (let w = old_birth_change judged in record { step = w.step; was = w.was; now = w.now })
  changed (Overlay rows entries) marked facts judged = (let w = (fill_change rows entries marked facts judged).0 in record { step = w.step; was = w.was; now = w.now })
  changed (NewRows entries) marked facts judged = (let w = new_change entries marked facts judged in record { step = w.step; was = w.was; now = w.now })
  changed NewBirth marked facts judged = (let w = new_birth_change facts judged in record { step = w.step; was = w.was; now = w.now })

  -- where the rows read of the store are still there, clients see by old's row there what they saw by the one that was read
  same_sight : (basis : Basis) → IsMarked basis → AllHold p retired (basis_facts ops basis) → WasMade ops basis p sorted c given
      → (rk : List ℕ) → rk ≢ marker_key → is_in rk (row_keys ops) ≡ true → seen_on basis (old_at p (partition_of ops) rk) (stored_in basis rk) ≡ seen_by basis rk
  same_sight (OldRows rows) marked facts judged rk other named = refl
  same_sight OldBirth marked facts judged rk other named = refl
  same_sight (Overlay rows entries) marked facts judged rk other named =
      ap (λ row. seen_on (Overlay rows entries) row (kept_in entries rk)) (turned_row p (partition_of ops) rk (keys.Named (row_keys ops)) rows facts.0 (fill_change rows entries marked facts judged).1 other named)
  same_sight (NewRows entries) marked facts judged rk other named = refl
  same_sight NewBirth marked facts judged rk other named = refl

-- ---- it is the batch

-- the pair stays sound and grows, other partitions show the same, and the logical table changes as the batch
pub record Wrote (ops : List Op) (tags : List Tag) (p q : Pair) : Type 0 where
  pub step : (own : List Fact) → StepIn own p q (partition_of ops)
  pub written : IsWritten ops tags p q

-- a tag that the store gave is fresh
given_fresh : (side : Side) (p : Pair) (c : Contents) (n m : ℕ) (tag : Tag) → (contents_of p side).counter ≤ n → c.counter ≡ m → tag.store ≡ number_of p side → n < tag.n → tag.n ≤ m → IsFresh p (with_store p side c) tag
given_fresh Old p c n m tag above counter is high low = inl (record { store_is = is; above = omega (arith, above, high); within = omega (arith, counter, low) })
given_fresh New p c n m tag above counter is high low = inr (record { store_is = is; above = omega (arith, above, high); within = omega (arith, counter, low) })

module _ (ops : List Op) (basis : Basis) (p : Pair) (sorted : List Op) (c : Contents) (batch : IsBatch ops) (order : IsInOrder ops sorted) (accepted : refusal_of ops (table_on basis) ≡ None)
    (changed_so : Change p basis (partition_of ops) (map (put_by basis) sorted) (counter_after (contents_of p (side_of basis)).counter (marker_put basis)) (with_store p (side_of basis) c))
    (sight : (rk : List ℕ) → rk ≢ marker_key → is_in rk (row_keys ops) ≡ true → seen_on basis (old_at p (partition_of ops) rk) (stored_in basis rk) ≡ seen_by basis rk)
    (still : AllByRecursion (λ op. row_at (contents_of p (side_of basis)).rows (partition_of ops) (op_key op).rk ≡ stored_in basis (op_key op).rk) sorted)
    (counter : c.counter ≡ all_counter_after (counter_after (contents_of p (side_of basis)).counter (marker_put basis)) (map (put_by basis) sorted)) where
  abbrev there : List ℕ → Option Stored
  there rk = row_at (contents_of p (side_of basis)).rows (partition_of ops) rk

  abbrev before : ℕ
  before = counter_after (contents_of p (side_of basis)).counter (marker_put basis)

  abbrev Accepted : Op → Type 0
  Accepted op = cause_on op (seen_by basis (op_key op).rk) ≡ None

  abbrev SameSight : Op → Type 0
  SameSight op = seen_on basis (old_at p (partition_of ops) (op_key op).rk) (stored_in basis (op_key op).rk) ≡ seen_by basis (op_key op).rk

  accepted_all : AllByRecursion Accepted sorted
  accepted_all = all_sorted Accepted ops sorted order (none_refuses ops (table_on basis) accepted)

  sights : AllByRecursion SameSight sorted
  sights = all_sorted SameSight ops sorted order (each_key (λ rk. seen_on basis (old_at p (partition_of ops) rk) (stored_in basis rk) ≡ seen_by basis rk) ops batch sight)

  stand : (xs : List Op) → AllByRecursion (IsOf (partition_of ops)) xs → AllByRecursion SameSight xs → AllByRecursion (λ op. there (op_key op).rk ≡ stored_in basis (op_key op).rk) xs → AllByRecursion Accepted xs
      → AllByRecursion (Stands basis (partition_of ops) (old_at p (partition_of ops)) there) xs
  stand [] f g h k = tt
  stand (op ∷ xs) f g h k = (
    record {
      partition = f.0.0;
      sight = ap (seen_on basis (old_at p (partition_of ops) (op_key op).rk)) h.0 ∙ g.0;
      row = h.0;
      visible = f.0.1.visible;
      accepted = k.0;
    },
    stand xs f.1 g.1 h.1 k.1,
  )

  of_all : AllByRecursion (IsOf (partition_of ops)) sorted
  of_all = all_sorted (IsOf (partition_of ops)) ops sorted order (All-from_recursion _ ops (ops_of ops batch))

  all_stand : AllByRecursion (Stands basis (partition_of ops) (old_at p (partition_of ops)) there) sorted
  all_stand = stand sorted of_all sights still accepted_all

  agree : (xs : List Op) → AllByRecursion (IsOf (partition_of ops)) xs → AllByRecursion (Stands basis (partition_of ops) (old_at p (partition_of ops)) there) xs
      → AllByRecursion (λ op. logical_table p (op_key op) ≡ table_on basis (op_key op)) xs
  agree [] f h = tt
  agree (op ∷ xs) f h = (
    ap (λ pk. option_map as_row (logical p pk (op_key op).rk)) f.0.0
        ∙ ap (option_map as_row) (changed_so.was (op_key op).rk (row_key_of (partition_of ops) op f.0))
        ∙ h.0.sight,
    agree xs f.1 h.1,
  )

  pub was_applied : Applied ops (table_on basis) (number_of p (side_of basis)) (put_by basis) sorted p before (with_store p (side_of basis) c)
  was_applied = record {
    batch = batch;
    order = order;
    accepted = accepted;
    agrees = agree sorted of_all all_stand;
    takes = puts_take (number_of p (side_of basis)) basis sorted accepted_all;
    rows = λ rk other. ap (option_map as_row) (changed_so.now rk other)
        ∙ rows_show basis (partition_of ops) (number_of p (side_of basis)) before (old_at p (partition_of ops)) there sorted rk all_stand order.rising
        ∙ ap (λ row. row_after (op_at (zip sorted (tags_of (number_of p (side_of basis)) before (map (put_by basis) sorted))) (key_at (partition_of ops) rk)) (option_map as_row row)) (sym (changed_so.was rk other));
    others = (changed_so.step []).others;
    given = λ tag is high low. given_fresh (side_of basis) p c before _ tag (counter_one (contents_of p (side_of basis)).counter (marker_put basis)).0 counter is high low;
  }

pub write_law : (ops : List Op) (basis : Basis) (retired : Bool) (p : Pair) (sorted : List Op) (c : Contents) (given tags : List Tag) → IsBatch ops → IsSound p → IsInOrder ops sorted
    → IsMarked basis → refusal_of ops (table_on basis) ≡ None → AllHold p retired (basis_facts ops basis) → WasMade ops basis p sorted c given → AnswersTags ops (table_on basis) given tags
    → Wrote ops tags p (with_store p (side_of basis) c)
write_law ops basis retired p sorted c given tags batch sound order marked accepted facts judged answer =
    let side = side_of basis in
    let pk = partition_of ops in
    let done = was_done (number_of p side) (contents_of p side) pk (marker_put basis ∷ map (put_by basis) sorted) c given judged in
    let held = each_held 0 (contents_of p side).rows pk (marker_put basis ∷ map (put_by basis) sorted) done.met in
    let change = changed ops retired p sorted c given batch sound order basis marked facts judged in
    let still = still_read (number_of p side) (contents_of p side) pk basis sorted (sound_tags side p sound) (knows_stored ops basis retired p facts) held.1 in
    let wrote = was_applied ops basis p sorted c batch order accepted change (same_sight ops retired p sorted c given batch sound order basis marked facts judged) still (ap (λ (x : Contents). x.counter) done.contents) in
    record {
      step = change.step;
      written = applied ops (table_on basis) (number_of p side) (put_by basis) sorted p (counter_after (contents_of p side).counter (marker_put basis)) (with_store p side c) wrote given tags _ done.answer answer;
    }
