-- A migrator that acts alone from any state, whatever others did before: what it has in hand stands, or is found not to.
use Rattle.std.proofs.Common.{◌≡◌, ◌⊎◌, ℕ, ◌+◌, ◌*◌, ◌≤◌, ◌==◌, Bool, true, false, cond, not, ◌&&◌, ◌||◌, nat_lt, List, [], ◌∷◌, take, length, Option, Some, None, refl, sym, ap, subst, ◌∙◌, arith, inl, inr, bytes_eq}
use Rattle.std.specs.Prelude.{option_map, is_some, is_none}
use Rattle.std.proofs.lemmas.Bool.{and_parts}
use Rattle.std.specs.FinMap.Entries.{length-put}
use Rattle.mt_model.specs.declared.key.Key.{Key}
use Rattle.mt_model.specs.declared.tag.Tag.{Tag}
use Rattle.mt_model.specs.Key.{key_cmp}
use Rattle.mt_chain.specs.declared.ask.StoreAsk.{StoreAsk}
use Rattle.mt_chain.specs.declared.ask.StoreReply.{StoreReply}
use Rattle.mt_chain.specs.declared.ask.StoreReply.TheVariants as reply
use Rattle.mt_chain.specs.declared.query.Found.{Found}
use Rattle.mt_chain.specs.declared.row.Stored.{Stored}
use Rattle.mt_chain.specs.declared.row.StoredRow.{StoredRow}
use Rattle.mt_chain.specs.declared.row.Put.{Put}
use Rattle.mt_chain.specs.declared.row.Put.TheVariants as put
use Rattle.mt_chain.specs.Rows.{Rows, row_at, row_in, key_at, with_row, shown, are_rising}
use Rattle.mt_chain.specs.Puts.{is_same_tag, has_tag, holds, unmet_from}
use Rattle.mt_chain.proofs.KeyLaws.{key_total, text_true, text_same}
use Rattle.mt_chain.proofs.RowLaws.{row_at-with_row, rising_with_row}
use Rattle.mt_migrate.specs.declared.state.Pass.{Pass}
use Rattle.mt_migrate.specs.declared.state.Pass.TheVariants.{First, Second}
use Rattle.mt_chain.proofs.PutLaws.{each_held, unmet_in_range}
use Rattle.mt_chain.proofs.JudgeLaws.{was_done, was_unmet, was_sealed_off, contents_after}
use Rattle.mt_chain.specs.Rows.{read_end, rows_within}
use Rattle.mt_chain.specs.StoreCall.{IsFound}
use Rattle.mt_meta.specs.declared.marker.Phase.{Phase}
use Rattle.mt_meta.specs.declared.marker.Phase.TheVariants.{UseOld, PreferOld, PreferNew}
use Rattle.mt_meta.specs.declared.marker.NewPhase.TheVariants.{Filling, UseNew}
use Rattle.mt_meta.specs.Markers.{marker_key, marker_props, old_kind, new_kind, old_phase_of}
use Rattle.mt_meta.specs.Logical.{Pair, new_state, old_at, new_at, new_state_at}
use Rattle.mt_meta.specs.Sound.{IsSound}
use Rattle.mt_meta.specs.Facts.{is_use_new}
use Rattle.mt_meta.specs.ReadRows.{marker_tag}
use Rattle.mt_meta.specs.Steps.{AllHold, with_old, with_new, PairMeans}
use Rattle.mt_meta.proofs.ReadLaws.{marker_read}
use Rattle.mt_meta.proofs.StorePuts.{tagged, same_tag, no_row, Leaves}
use Rattle.std.proofs.lemmas.Bool.Decides.{nat_tests}
use Rattle.mt_migrate.specs.declared.state.Part.{Part}
use Rattle.mt_migrate.specs.declared.state.Copying.{Copying}
use Rattle.mt_migrate.specs.declared.state.Reading.{Reading}
use Rattle.mt_migrate.specs.declared.state.State.{State}
use Rattle.mt_migrate.specs.declared.state.State.TheVariants as at
use Rattle.mt_migrate.specs.Chunks.{end_of, chunk_end, is_wanting, props_of, put_by, put_at, want_of, ArePuts}
use Rattle.mt_migrate.specs.Known.{state_facts}
use Rattle.mt_migrate.specs.Moves.{next_rows, replaces, Asks, MigratorFits, moved, by_pass, by_read_phase, read_old, compared, read_new, unwritten, chunk_done, pass_begun, reading_of}
use Rattle.mt_migrate.specs.RowCounts.{is_unread, unread, old_rows, entries_of, is_unmoved}
use Rattle.mt_migrate.specs.StepsLeft.{chunks, passes, others_left, look_left, pass_left, steps_left, Stands, is_owned}
use Rattle.mt_migrate.specs.MostLeft.{again, pass_again, end_left, stale_left, most_left, Lasts}
use Rattle.mt_migrate.proofs.ChunkLaws.{chunk_want}
use Rattle.mt_migrate.proofs.MoverLaw.{copying_of}
use Rattle.mt_migrate.proofs.Counts.{to_test, count_le, count_all, split_up}
use Rattle.mt_migrate.proofs.Passing.{fewer_unread, reading_ends}
use Rattle.mt_migrate.proofs.PartsLeft.{data_is, DataLess, lone_in, others_less}
use Rattle.mt_migrate.proofs.MarkerSteps.{AreRising, Nears, same_itself, on_left, look_least, there_too, old_reads, old_put, old_put_stays}
use Rattle.mt_migrate.proofs.ChunkSteps.{the_end, lone_put, written, same_or_put, marker_stays, up_after, stays_but, past_less}
use Rattle.mt_migrate.proofs.AloneLaw.{new_allowed, nears_end}

-- ---- rows in hand, as rows of a store

abbrev in_hand : List ℕ → List StoredRow → Rows
in_hand pk [] = []
in_hand pk (r ∷ rows) = with_row (in_hand pk rows) pk r.rk (record { props = r.props; tag = r.tag })

hand_rises : (pk : List ℕ) (rows : List StoredRow) → are_rising (in_hand pk rows) ≡ true
hand_rises pk [] = refl
hand_rises pk (r ∷ rows) = rising_with_row (in_hand pk rows) pk r.rk (record { props = r.props; tag = r.tag }) (hand_rises pk rows)

hand_few : (pk : List ℕ) (rows : List StoredRow) → length (in_hand pk rows) ≤ length rows
hand_few pk [] = omega arith
hand_few pk (r ∷ rows) =
    let n = length-put key_cmp key_total (key_at pk r.rk) (record { props = r.props; tag = r.tag }) (in_hand pk rows) (to_test _ (hand_rises pk rows)) in
    let rest = hand_few pk rows in
    go (is_some (row_at (in_hand pk rows) pk r.rk)) n rest where
      go : (b : Bool) → length (in_hand pk (r ∷ rows)) ≡ cond b (length (in_hand pk rows)) (length (in_hand pk rows) + 1) → length (in_hand pk rows) ≤ length rows → length (in_hand pk (r ∷ rows)) ≤ length (r ∷ rows)
      go true n rest = omega (arith, n, rest)
      go false n rest = omega (arith, n, rest)

pub hand_has : (pk : List ℕ) (rows : List StoredRow) (rk : List ℕ) (r : StoredRow) → row_in rows rk ≡ Some r → is_some (row_at (in_hand pk rows) pk rk) ≡ true
hand_has pk [] rk r is = absurd (let x = is in cc)
hand_has pk (y ∷ rows) rk r is = go (bytes_eq rk y.rk) refl (λ e. hand_has pk rows rk r e) is where
  at : row_at (in_hand pk (y ∷ rows)) pk rk ≡ cond (bytes_eq pk pk && bytes_eq y.rk rk) (Some (record { props = y.props; tag = y.tag })) (row_at (in_hand pk rows) pk rk)
  at = row_at-with_row (in_hand pk rows) pk y.rk (record { props = y.props; tag = y.tag }) pk rk

  also : (b : Bool) → is_some (row_at (in_hand pk rows) pk rk) ≡ true → is_some (cond b (Some (record { props = y.props; tag = y.tag })) (row_at (in_hand pk rows) pk rk)) ≡ true
  also true h = refl
  also false h = h

  go : (b : Bool) → bytes_eq rk y.rk ≡ b → (row_in rows rk ≡ Some r → is_some (row_at (in_hand pk rows) pk rk) ≡ true) → cond b (Some y) (row_in rows rk) ≡ Some r → is_some (row_at (in_hand pk (y ∷ rows)) pk rk) ≡ true
  go true e rest is =
      let same : bytes_eq y.rk rk ≡ true = ap (bytes_eq y.rk) (text_true rk y.rk e) ∙ text_same y.rk in
      ap is_some (at ∙ ap (λ b. cond (b && bytes_eq y.rk rk) (Some (record { props = y.props; tag = y.tag })) (row_at (in_hand pk rows) pk rk)) (text_same pk)
      ∙ ap (λ b. cond b (Some (record { props = y.props; tag = y.tag })) (row_at (in_hand pk rows) pk rk)) same)
  go false e rest is = ap is_some at ∙ also (bytes_eq pk pk && bytes_eq y.rk rk) (rest is)

-- ---- rows that a chunk adds

-- a chunk adds no more entries than it has rows of old in hand
module _ (p : Pair) (part : Part) (epoch : Tag) (upto : Option (List ℕ)) (rows entries : List StoredRow) (puts : List Put) (up : AreRising p) (are : ArePuts upto rows entries puts) where
  abbrev q : Pair
  q = written p part epoch upto rows entries puts up are

  -- an entry of new where it had none is of a row in hand
  abbrev is_added : Key → Bool
  is_added k = is_unread part.pk None k && is_none (row_at p.new.rows k.pk k.rk)

  abbrev is_kept : Key → Bool
  is_kept k = is_unread part.pk None k && is_some (row_at p.new.rows k.pk k.rk)

  from_hand : (rk : List ℕ) (s : Stored) → is_none (new_at p part.pk rk) ≡ true → new_at q part.pk rk ≡ Some s → is_some (row_at (in_hand part.pk rows) part.pk rk) ≡ true
  from_hand rk s none is = elim (same_or_put p part epoch upto rows entries puts up are rk) as (λ _. is_some (row_at (in_hand part.pk rows) part.pk rk) ≡ true) [
    | inl same ↦ absurd (let x : false ≡ true = sym (ap is_none (sym same ∙ is)) ∙ none in cc)
    | inr w ↦ go w.0 w.1 (subst (Leaves w.0) is w.2) (row_in rows rk) refl
  ] where
    go : (m : Put) → put_at upto rows entries rk ≡ Some m → Leaves m (Some s) → (o : Option StoredRow) → row_in rows rk ≡ o → is_some (row_at (in_hand part.pk rows) part.pk rk) ≡ true
    go m wants l (Some r) at = hand_has part.pk rows rk r at
    go m wants l None at = absurd (lone_put rk (props_of (row_in rows rk)) (row_in entries rk) m s
        (ap (λ o. put_by rk (props_of (row_in rows rk)) (want_of o (row_in entries rk))) (sym at) ∙ ap (put_by rk (props_of (row_in rows rk))) (sym (chunk_want upto rows entries rk m wants).1) ∙ wants) l)

  pub entries_grow : entries_of q part.pk ≤ entries_of p part.pk + length rows
  entries_grow =
      let a = split_up (is_unread part.pk None) is_kept is_added q.new.rows (λ k h. by (is_unread part.pk None k) h (row_at p.new.rows k.pk k.rk)) in
      let b = count_le is_kept (is_unread part.pk None) q.new.rows p.new.rows (up_after p part epoch upto rows entries puts up are) up.1 (λ x rk s passes is. and_parts (is_unread part.pk None (key_at x rk)) (is_some (row_at p.new.rows x rk)) passes) in
      let c = count_le is_added (λ k. true) q.new.rows (in_hand part.pk rows) (up_after p part epoch upto rows entries puts up are) (hand_rises part.pk rows) (λ x rk s passes is.
      let l = and_parts (is_unread part.pk None (key_at x rk)) (is_none (row_at p.new.rows x rk)) passes in
      let d = data_is part.pk None x rk l.0 in
      (refl, subst (λ y. is_some (row_at (in_hand part.pk rows) y rk) ≡ true) d.0 (from_hand rk s (ap (λ y. is_none (row_at p.new.rows y rk)) d.0 ∙ l.1) (ap (λ y. row_at q.new.rows y rk) d.0 ∙ is)))) in
      let e = count_all (λ k. true) (in_hand part.pk rows) in
      let f = hand_few part.pk rows in
      omega (arith, a, b, c, e, f) where
        by : (u : Bool) → u ≡ true → (o : Option Stored) → ((u && is_some o) || (u && is_none o)) ≡ true
        by u h (Some s) = ap (λ x. (x && true) || (x && false)) h
        by u h None = ap (λ x. (x && false) || (x && true)) h

-- ---- steps from any state

-- what is in hand stands afterwards, or may not, and fewer steps are left
abbrev pub Falls : Pair → Pair → State → State → Type 0
Falls p q state to = (Stands q to × (steps_left to q + 1 ≤ most_left state p)) ⊎ (most_left to q + 1 ≤ most_left state p)

stays_old : (p q : Pair) (state to : State) → q.old ≡ p.old → q ≡ with_old p q.old → Falls p p state to → Falls p q state to
stays_old p q state to same is h = subst (λ x. Falls p x state to) (sym (is ∙ ap (with_old p) same)) h

stays_new : (p q : Pair) (state to : State) → q.new ≡ p.new → q ≡ with_new p q.new → Falls p p state to → Falls p q state to
stays_new p q state to same is h = subst (λ x. Falls p x state to) (sym (is ∙ ap (with_new p) same)) h

to_look : (p : Pair) (state : State) (part : Part) (n : ℕ) → most_left state p ≡ n + 1 + again part p → Falls p p state (at.Look part)
to_look p state part n is = inl (tt, omega (arith, is))

unheld : (m : Put) (x : Option Stored) → holds m x ≡ false → holds m x ≡ true → ⊥
unheld m x off on = (let y : false ≡ true = sym off ∙ on in cc)

stale_bounds : (pass : Pass) → (2 ≤ stale_left pass) × (stale_left pass ≤ 3)
stale_bounds (First marker) = (omega arith, omega arith)
stale_bounds Second = (omega arith, omega arith)

-- ---- the epoch is over

stale_read : (p : Pair) (part : Part) (pass : Pass) (epoch : Tag) (before : Option (List ℕ)) (old : Reading) → is_owned p part.pk epoch ≡ false → most_left (at.ReadNew (copying_of part pass epoch before) old) p ≡ 1 + again part p
stale_read p part pass epoch before old off = ap (λ b. cond b (others_left part p + (5 + 6 * chunks (unread p part.pk before) + end_left p part.pk (end_of old) + pass_again p part.pk pass)) (1 + again part p)) off

stale_is : (p : Pair) (part : Part) (pass : Pass) (epoch : Tag) (before : Option (List ℕ)) → is_owned p part.pk epoch ≡ false → most_left (at.ReadOld (copying_of part pass epoch before)) p ≡ stale_left pass + again part p
stale_is p part pass epoch before off = ap (λ b. cond b (steps_left (at.ReadOld (copying_of part pass epoch before)) p) (stale_left pass + again part p)) off

pass_off : (p : Pair) (part : Part) (pass : Pass) (epoch : Tag) (before : Option (List ℕ)) (old : Reading) (tag : Tag) (phase : Phase) → is_owned p part.pk epoch ≡ false
    → Falls p p (at.ReadOld (copying_of part pass epoch before)) (by_pass (copying_of part pass epoch before) old tag pass phase)
pass_off p part Second epoch before old tag phase off = inr (let a = stale_is p part Second epoch before off in let b = stale_read p part Second epoch before old off in omega (arith, a, b))
pass_off p part (First was) epoch before old tag PreferNew off = inr (let a = stale_is p part (First was) epoch before off in let b = stale_is p part Second epoch None off in omega (arith, a, b))
pass_off p part (First was) epoch before old tag PreferOld off = inr (let a = stale_is p part (First was) epoch before off in let b = stale_read p part (First tag) epoch before old off in omega (arith, a, b))
pass_off p part (First was) epoch before old tag UseOld off = inr (let a = stale_is p part (First was) epoch before off in let b = stale_read p part (First tag) epoch before old off in omega (arith, a, b))

old_read_off : (p : Pair) (part : Part) (pass : Pass) (epoch : Tag) (before : Option (List ℕ)) (old : Reading) (x : Option Stored) → IsSound p → AreRising p → is_owned p part.pk epoch ≡ false → old_at p part.pk marker_key ≡ x
    → Falls p p (at.ReadOld (copying_of part pass epoch before)) (read_old (copying_of part pass epoch before) old (option_map (shown marker_key) x))
old_read_off p part pass epoch before old None s up off is = inl (
  tt,
  (
      let a = stale_is p part pass epoch before off in
      let b = on_left p part up.0 (ap (λ o. is_some o && not (is_use_new (new_state_at p part.pk))) is) in
      let c = (stale_bounds pass).0 in omega (arith, a, b, c)
      ),
)
old_read_off p part pass epoch before old (Some r) s up off is = go (old_phase_of r.tag.store r.props) refl where
  go : (phase : Option Phase) → old_phase_of r.tag.store r.props ≡ phase → Falls p p (at.ReadOld (copying_of part pass epoch before)) (by_read_phase (copying_of part pass epoch before) old r.tag phase)
  go None e = absurd (old_reads p part.pk r s is e)
  go (Some phase) e = pass_off p part pass epoch before old r.tag phase off

read_old_off : (p : Pair) (part : Part) (pass : Pass) (epoch : Tag) (before : Option (List ℕ)) (found : Found) → IsSound p → AreRising p → is_owned p part.pk epoch ≡ false
    → IsFound (record { pk = part.pk; named = marker_key ∷ []; range = Some (next_rows before None) }) found p.old
    → Falls p p (at.ReadOld (copying_of part pass epoch before)) (read_old (copying_of part pass epoch before) (reading_of found) (row_in found.named marker_key))
read_old_off p part pass epoch before found s up off is =
    subst (λ m. Falls p p (at.ReadOld (copying_of part pass epoch before)) (read_old (copying_of part pass epoch before) (reading_of found) m)) (sym (ap (λ rows. row_in rows marker_key) is.named ∙ marker_read p.old.rows part.pk))
    (old_read_off p part pass epoch before (reading_of found) (old_at p part.pk marker_key) s up off refl)

new_read_off : (p : Pair) (part : Part) (pass : Pass) (epoch : Tag) (before upto : Option (List ℕ)) (old : Reading) (entries : List StoredRow) (x : Option Stored) → is_owned p part.pk epoch ≡ false → new_at p part.pk marker_key ≡ x
    → Falls p p (at.ReadNew (copying_of part pass epoch before) old) (read_new (copying_of part pass epoch before) upto old.rows entries (option_map (shown marker_key) x))
new_read_off p part pass epoch before upto old entries None off is = to_look p (at.ReadNew (copying_of part pass epoch before) old) part 0 (stale_read p part pass epoch before old off)
new_read_off p part pass epoch before upto old entries (Some m) off is = go (is_same_tag m.tag epoch) refl where
  go : (b : Bool) → is_same_tag m.tag epoch ≡ b → Falls p p (at.ReadNew (copying_of part pass epoch before) old) (cond b (compared (copying_of part pass epoch before) upto old.rows entries) (at.Look part))
  go false e = to_look p (at.ReadNew (copying_of part pass epoch before) old) part 0 (stale_read p part pass epoch before old off)
  go true e = absurd (let x : false ≡ true = sym off ∙ ap (has_tag epoch) is ∙ ap (λ t. is_same_tag t m.tag) (same_tag m.tag epoch e) ∙ same_itself m.tag in cc)

read_new_off : (p : Pair) (part : Part) (pass : Pass) (epoch : Tag) (before : Option (List ℕ)) (old : Reading) (found : Found) → is_owned p part.pk epoch ≡ false
    → IsFound (record { pk = part.pk; named = marker_key ∷ []; range = Some (next_rows before (end_of old)) }) found p.new
    → Falls p p (at.ReadNew (copying_of part pass epoch before) old) (read_new (copying_of part pass epoch before) (chunk_end old (reading_of found)) old.rows found.rows (row_in found.named marker_key))
read_new_off p part pass epoch before old found off is =
    subst (λ m. Falls p p (at.ReadNew (copying_of part pass epoch before) old) (read_new (copying_of part pass epoch before) (chunk_end old (reading_of found)) old.rows found.rows m)) (sym (ap (λ rows. row_in rows marker_key) is.named ∙ marker_read p.new.rows part.pk))
    (new_read_off p part pass epoch before (chunk_end old (reading_of found)) old found.rows (new_at p part.pk marker_key) off refl)

write_off_is : (p : Pair) (c : Copying) (upto : Option (List ℕ)) (rows entries : List StoredRow) → is_owned p c.part.pk c.epoch ≡ false → most_left (at.Write c upto rows entries) p ≡ 4 + again c.part p
write_off_is p c upto rows entries off = ap (λ b. cond b (others_left c.part p + (4 + 3 * chunks (unread p c.part.pk c.done) + end_left p c.part.pk upto + pass_again p c.part.pk c.pass)) (4 + again c.part p)) off

unwritten_off : (p : Pair) (c : Copying) (upto : Option (List ℕ)) (rows entries : List StoredRow) → is_owned p c.part.pk c.epoch ≡ false → (b : Bool) → Falls p p (at.Write c upto rows entries) (cond b (at.Look c.part) (at.ReadOld c))
unwritten_off p c upto rows entries off true = to_look p (at.Write c upto rows entries) c.part 3 (write_off_is p c upto rows entries off)
unwritten_off p c upto rows entries off false = inr (let a = write_off_is p c upto rows entries off in let b = stale_is p c.part c.pass c.epoch c.done off in let d = (stale_bounds c.pass).1 in omega (arith, a, b, d))

switched_off : (p : Pair) (part : Part) (marker epoch : Tag) → AreRising p → (is_owned p part.pk epoch && has_tag marker (old_at p part.pk marker_key)) ≡ false → has_tag marker (old_at p part.pk marker_key) ≡ true
    → Falls p (with_old p (contents_after p.old_number p.old part.pk (replaces (old_kind PreferNew) marker ∷ []))) (at.Switch part marker epoch) (pass_begun part Second epoch)
switched_off p part marker epoch up off held =
    let m = replaces (old_kind PreferNew) marker in
    let h = old_put_stays p part.pk m refl up in
    let q = old_put p part.pk m refl up in
    let others = others_less part p q h.0 in
    let a : most_left (at.Switch part marker epoch) p ≡ 3 + again part p = ap (λ b. cond b (steps_left (at.Switch part marker epoch) p) (3 + again part p)) off in
    let b = stale_is q part Second epoch None (not_owned (is_owned p part.pk epoch) refl) in
    let c = look_stays p q part.pk (tagged (old_at p part.pk marker_key) marker held) h.1 refl in
    inr (omega (arith, others, a, b, c)) where
      not_owned : (b : Bool) → is_owned p part.pk epoch ≡ b → b ≡ false
      not_owned false e = refl
      not_owned true e = (let x : true ≡ false = sym (ap (λ b. b && has_tag marker (old_at p part.pk marker_key)) e ∙ held) ∙ off in cc)

      look_stays : (p q : Pair) (pk : List ℕ) → ((r : Stored) × (old_at p pk marker_key ≡ Some r) × (r.tag ≡ marker)) → DataLess pk p q → q.new ≡ p.new → look_left q pk ≤ look_left p pk
      look_stays p q pk there h same = go (is_unmoved q pk) refl where
        passes_less : passes q pk ≤ passes p pk
        passes_less = (let a = h.old in let b = h.new in omega (arith, a, b))

        go : (b : Bool) → is_unmoved q pk ≡ b → cond b (12 + passes q pk) 2 ≤ look_left p pk
        go false e = look_least (is_unmoved p pk) (passes p pk)
        go true e =
            let new = (and_parts (is_some (old_at q pk marker_key)) (not (is_use_new (new_state_at q pk))) e).1 in
            let u : is_unmoved p pk ≡ true = there_too p pk there.0 there.1 (ap (λ c. not (is_use_new (new_state (row_at c.rows pk marker_key)))) (sym same) ∙ new) in
            let x : look_left p pk ≡ 12 + passes p pk = ap (λ b. cond b (12 + passes p pk) 2) u in
            let y = passes_less in omega (arith, x, y)

-- where what a state depends on stands, as far as one test shows
abbrev test_of : Pair → State → Bool
test_of p (at.Walk walk from) = true
test_of p at.SealOld = true
test_of p (at.Look part) = true
test_of p (at.Prepare part rows) = has_tag (marker_tag rows) (old_at p part.pk marker_key)
test_of p (at.Claim part pass) = true
test_of p (at.Begin part pass) = is_none (new_at p part.pk marker_key)
test_of p (at.Takeover part pass filling) = is_owned p part.pk filling
test_of p (at.ReadOld c) = is_owned p c.part.pk c.epoch
test_of p (at.ReadNew c old) = is_owned p c.part.pk c.epoch
test_of p (at.Write c upto rows entries) = is_owned p c.part.pk c.epoch
test_of p (at.Switch part marker epoch) = is_owned p part.pk epoch && has_tag marker (old_at p part.pk marker_key)
test_of p (at.Finish part epoch) = is_owned p part.pk epoch
test_of p at.Done = true

off_law : (state : State) (r : StoreReply) (a : StoreAsk) (p q : Pair) → IsSound p → are_rising p.old.rows ≡ true → are_rising p.new.rows ≡ true → test_of p state ≡ false → Asks state a → PairMeans a r p q → Falls p q state (moved state r)
off_law (at.Walk walk from) r a p q s old new off asks means = absurd (let x = off in cc)
off_law at.SealOld r a p q s old new off asks means = absurd (let x = off in cc)
off_law (at.Look part) r a p q s old new off asks means = absurd (let x = off in cc)
off_law (at.Claim part pass) r a p q s old new off asks means = absurd (let x = off in cc)
off_law (at.Prepare part rows) (reply.Next next) a p q s old new off asks means = absurd (subst (λ x. PairMeans x (reply.Next next) p q) asks means).0
off_law (at.Prepare part rows) (reply.Found found) a p q s old new off asks means = absurd (subst (λ x. PairMeans x (reply.Found found) p q) asks means).0
off_law (at.Prepare part rows) (reply.Applied tags) a p q s old new off asks means = (let m = (subst (λ x. PairMeans x (reply.Applied tags) p q) asks means) in absurd (unheld (replaces (old_kind PreferOld) (marker_tag rows)) (old_at p part.pk marker_key) off (each_held 0 p.old.rows part.pk ((replaces (old_kind PreferOld) (marker_tag rows)) ∷ []) (was_done p.old_number p.old part.pk ((replaces (old_kind PreferOld) (marker_tag rows)) ∷ []) q.old tags m.0.0).met).0))
off_law (at.Prepare part rows) (reply.Unmet index) a p q s old new off asks means = (let m = (subst (λ x. PairMeans x (reply.Unmet index) p q) asks means) in stays_old p q (at.Prepare part rows) (at.Look part) m.0.1 m.1 (to_look p (at.Prepare part rows) part 0 (ap (λ b. cond b (steps_left (at.Prepare part rows) p) (1 + again part p)) off)))
off_law (at.Prepare part rows) reply.SealedOff a p q s old new off asks means = (let m = (subst (λ x. PairMeans x reply.SealedOff p q) asks means) in stays_old p q (at.Prepare part rows) (at.Look part) m.0.1 m.1 (to_look p (at.Prepare part rows) part 0 (ap (λ b. cond b (steps_left (at.Prepare part rows) p) (1 + again part p)) off)))
off_law (at.Prepare part rows) reply.SealDone a p q s old new off asks means = absurd (subst (λ x. PairMeans x reply.SealDone p q) asks means).0
off_law (at.Begin part pass) (reply.Next next) a p q s old new off asks means = absurd (subst (λ x. PairMeans x (reply.Next next) p q) asks means).0
off_law (at.Begin part pass) (reply.Found found) a p q s old new off asks means = absurd (subst (λ x. PairMeans x (reply.Found found) p q) asks means).0
off_law (at.Begin part pass) (reply.Applied tags) a p q s old new off asks means = (let m = (subst (λ x. PairMeans x (reply.Applied tags) p q) asks means) in absurd (unheld (put.Insert marker_key (marker_props (new_kind Filling))) (new_at p part.pk marker_key) off (each_held 0 p.new.rows part.pk ((put.Insert marker_key (marker_props (new_kind Filling))) ∷ []) (was_done p.new_number p.new part.pk ((put.Insert marker_key (marker_props (new_kind Filling))) ∷ []) q.new tags m.0.0).met).0))
off_law (at.Begin part pass) (reply.Unmet index) a p q s old new off asks means = (let m = (subst (λ x. PairMeans x (reply.Unmet index) p q) asks means) in stays_new p q (at.Begin part pass) (at.Look part) m.0.1 m.1 (to_look p (at.Begin part pass) part 0 (ap (λ b. cond b (steps_left (at.Begin part pass) p) (1 + again part p)) off)))
off_law (at.Begin part pass) reply.SealedOff a p q s old new off asks means = (let m = (subst (λ x. PairMeans x reply.SealedOff p q) asks means) in stays_new p q (at.Begin part pass) (at.Look part) m.0.1 m.1 (to_look p (at.Begin part pass) part 0 (ap (λ b. cond b (steps_left (at.Begin part pass) p) (1 + again part p)) off)))
off_law (at.Begin part pass) reply.SealDone a p q s old new off asks means = absurd (subst (λ x. PairMeans x reply.SealDone p q) asks means).0
off_law (at.Takeover part pass filling) (reply.Next next) a p q s old new off asks means = absurd (subst (λ x. PairMeans x (reply.Next next) p q) asks means).0
off_law (at.Takeover part pass filling) (reply.Found found) a p q s old new off asks means = absurd (subst (λ x. PairMeans x (reply.Found found) p q) asks means).0
off_law (at.Takeover part pass filling) (reply.Applied tags) a p q s old new off asks means = (let m = (subst (λ x. PairMeans x (reply.Applied tags) p q) asks means) in absurd (unheld (replaces (new_kind Filling) filling) (new_at p part.pk marker_key) off (each_held 0 p.new.rows part.pk ((replaces (new_kind Filling) filling) ∷ []) (was_done p.new_number p.new part.pk ((replaces (new_kind Filling) filling) ∷ []) q.new tags m.0.0).met).0))
off_law (at.Takeover part pass filling) (reply.Unmet index) a p q s old new off asks means = (let m = (subst (λ x. PairMeans x (reply.Unmet index) p q) asks means) in stays_new p q (at.Takeover part pass filling) (at.Look part) m.0.1 m.1 (to_look p (at.Takeover part pass filling) part 0 (ap (λ b. cond b (steps_left (at.Takeover part pass filling) p) (1 + again part p)) off)))
off_law (at.Takeover part pass filling) reply.SealedOff a p q s old new off asks means = (let m = (subst (λ x. PairMeans x reply.SealedOff p q) asks means) in stays_new p q (at.Takeover part pass filling) (at.Look part) m.0.1 m.1 (to_look p (at.Takeover part pass filling) part 0 (ap (λ b. cond b (steps_left (at.Takeover part pass filling) p) (1 + again part p)) off)))
off_law (at.Takeover part pass filling) reply.SealDone a p q s old new off asks means = absurd (subst (λ x. PairMeans x reply.SealDone p q) asks means).0
off_law (at.Finish part epoch) (reply.Next next) a p q s old new off asks means = absurd (subst (λ x. PairMeans x (reply.Next next) p q) asks means).0
off_law (at.Finish part epoch) (reply.Found found) a p q s old new off asks means = absurd (subst (λ x. PairMeans x (reply.Found found) p q) asks means).0
off_law (at.Finish part epoch) (reply.Applied tags) a p q s old new off asks means = (let m = (subst (λ x. PairMeans x (reply.Applied tags) p q) asks means) in absurd (unheld (replaces (new_kind UseNew) epoch) (new_at p part.pk marker_key) off (each_held 0 p.new.rows part.pk ((replaces (new_kind UseNew) epoch) ∷ []) (was_done p.new_number p.new part.pk ((replaces (new_kind UseNew) epoch) ∷ []) q.new tags m.0.0).met).0))
off_law (at.Finish part epoch) (reply.Unmet index) a p q s old new off asks means = (let m = (subst (λ x. PairMeans x (reply.Unmet index) p q) asks means) in stays_new p q (at.Finish part epoch) (at.Look part) m.0.1 m.1 (to_look p (at.Finish part epoch) part 0 (ap (λ b. cond b (steps_left (at.Finish part epoch) p) (1 + again part p)) off)))
off_law (at.Finish part epoch) reply.SealedOff a p q s old new off asks means = (let m = (subst (λ x. PairMeans x reply.SealedOff p q) asks means) in stays_new p q (at.Finish part epoch) (at.Look part) m.0.1 m.1 (to_look p (at.Finish part epoch) part 0 (ap (λ b. cond b (steps_left (at.Finish part epoch) p) (1 + again part p)) off)))
off_law (at.Finish part epoch) reply.SealDone a p q s old new off asks means = absurd (subst (λ x. PairMeans x reply.SealDone p q) asks means).0
off_law (at.ReadOld c) (reply.Next next) a p q s old new off asks means = absurd (subst (λ x. PairMeans x (reply.Next next) p q) asks means).0
off_law (at.ReadOld c) (reply.Found found) a p q s old new off asks means = (let m = (subst (λ x. PairMeans x (reply.Found found) p q) asks means) in stays_old p q (at.ReadOld c) (read_old c (reading_of found) (row_in found.named marker_key)) m.0.0 m.1 (read_old_off p c.part c.pass c.epoch c.done found s (old, new) off m.0.1))
off_law (at.ReadOld c) (reply.Applied tags) a p q s old new off asks means = absurd (subst (λ x. PairMeans x (reply.Applied tags) p q) asks means).0
off_law (at.ReadOld c) (reply.Unmet index) a p q s old new off asks means = absurd (subst (λ x. PairMeans x (reply.Unmet index) p q) asks means).0
off_law (at.ReadOld c) reply.SealedOff a p q s old new off asks means = absurd (subst (λ x. PairMeans x reply.SealedOff p q) asks means).0
off_law (at.ReadOld c) reply.SealDone a p q s old new off asks means = absurd (subst (λ x. PairMeans x reply.SealDone p q) asks means).0
off_law (at.ReadNew c reading) (reply.Next next) a p q s old new off asks means = absurd (subst (λ x. PairMeans x (reply.Next next) p q) asks means).0
off_law (at.ReadNew c reading) (reply.Found found) a p q s old new off asks means = (let m = (subst (λ x. PairMeans x (reply.Found found) p q) asks means) in stays_new p q (at.ReadNew c reading) (read_new c (chunk_end reading (reading_of found)) reading.rows found.rows (row_in found.named marker_key)) m.0.0 m.1 (read_new_off p c.part c.pass c.epoch c.done reading found off m.0.1))
off_law (at.ReadNew c reading) (reply.Applied tags) a p q s old new off asks means = absurd (subst (λ x. PairMeans x (reply.Applied tags) p q) asks means).0
off_law (at.ReadNew c reading) (reply.Unmet index) a p q s old new off asks means = absurd (subst (λ x. PairMeans x (reply.Unmet index) p q) asks means).0
off_law (at.ReadNew c reading) reply.SealedOff a p q s old new off asks means = absurd (subst (λ x. PairMeans x reply.SealedOff p q) asks means).0
off_law (at.ReadNew c reading) reply.SealDone a p q s old new off asks means = absurd (subst (λ x. PairMeans x reply.SealDone p q) asks means).0
off_law (at.Write c upto rows entries) (reply.Next next) a p q s old new off asks means = absurd (subst (λ x. PairMeans x (reply.Next next) p q) asks.2 means).0
off_law (at.Write c upto rows entries) (reply.Found found) a p q s old new off asks means = absurd (subst (λ x. PairMeans x (reply.Found found) p q) asks.2 means).0
off_law (at.Write c upto rows entries) (reply.Applied tags) a p q s old new off asks means = (let m = (subst (λ x. PairMeans x (reply.Applied tags) p q) asks.2 means) in absurd (unheld (put.Check marker_key c.epoch) (new_at p c.part.pk marker_key) off (each_held 0 p.new.rows c.part.pk (put.Check marker_key c.epoch ∷ asks.0) (was_done p.new_number p.new c.part.pk (put.Check marker_key c.epoch ∷ asks.0) q.new tags m.0.0).met).0))
off_law (at.Write c upto rows entries) (reply.Unmet index) a p q s old new off asks means = (let m = (subst (λ x. PairMeans x (reply.Unmet index) p q) asks.2 means) in stays_new p q (at.Write c upto rows entries) (unwritten c index) m.0.1 m.1 (unwritten_off p c upto rows entries off (index == 0)))
off_law (at.Write c upto rows entries) reply.SealedOff a p q s old new off asks means = (let m = (subst (λ x. PairMeans x reply.SealedOff p q) asks.2 means) in stays_new p q (at.Write c upto rows entries) (at.Look c.part) m.0.1 m.1 (to_look p (at.Write c upto rows entries) c.part 3 (write_off_is p c upto rows entries off)))
off_law (at.Write c upto rows entries) reply.SealDone a p q s old new off asks means = absurd (subst (λ x. PairMeans x reply.SealDone p q) asks.2 means).0
off_law (at.Switch part marker epoch) (reply.Next next) a p q s old new off asks means = absurd (subst (λ x. PairMeans x (reply.Next next) p q) asks means).0
off_law (at.Switch part marker epoch) (reply.Found found) a p q s old new off asks means = absurd (subst (λ x. PairMeans x (reply.Found found) p q) asks means).0
off_law (at.Switch part marker epoch) (reply.Applied tags) a p q s old new off asks means = (let m = (subst (λ x. PairMeans x (reply.Applied tags) p q) asks means) in let d = was_done p.old_number p.old part.pk ((replaces (old_kind PreferNew) marker) ∷ []) q.old tags m.0.0 in subst (λ x. Falls p x (at.Switch part marker epoch) (pass_begun part Second epoch)) (sym (m.1 ∙ ap (with_old p) d.contents)) (switched_off p part marker epoch (old, new) off (each_held 0 p.old.rows part.pk ((replaces (old_kind PreferNew) marker) ∷ []) d.met).0))
off_law (at.Switch part marker epoch) (reply.Unmet index) a p q s old new off asks means = (let m = (subst (λ x. PairMeans x (reply.Unmet index) p q) asks means) in stays_old p q (at.Switch part marker epoch) (at.Look part) m.0.1 m.1 (to_look p (at.Switch part marker epoch) part 2 (ap (λ b. cond b (steps_left (at.Switch part marker epoch) p) (3 + again part p)) off)))
off_law (at.Switch part marker epoch) reply.SealedOff a p q s old new off asks means = (let m = (subst (λ x. PairMeans x reply.SealedOff p q) asks means) in stays_old p q (at.Switch part marker epoch) (at.Look part) m.0.1 m.1 (to_look p (at.Switch part marker epoch) part 2 (ap (λ b. cond b (steps_left (at.Switch part marker epoch) p) (3 + again part p)) off)))
off_law (at.Switch part marker epoch) reply.SealDone a p q s old new off asks means = absurd (subst (λ x. PairMeans x reply.SealDone p q) asks means).0
off_law at.Done r a p q s old new off asks means = absurd asks

-- ---- the epoch is the migrator's own

pass_most : (p q : Pair) (pk : List ℕ) (pass : Pass) → old_rows q pk ≤ old_rows p pk → entries_of q pk ≤ entries_of p pk + 50 → pass_left q pk pass ≤ pass_again p pk pass
pass_most p q pk (First marker) a b = (let c = lone_in pk q in omega (arith, a, b, c))
pass_most p q pk Second a b = omega arith

-- after a chunk
done_again : (p q : Pair) (part : Part) (pass : Pass) (epoch : Tag) (before upto : Option (List ℕ)) (n : ℕ) → is_owned q part.pk epoch ≡ true → others_left part q ≤ others_left part p → old_rows q part.pk ≤ old_rows p part.pk → entries_of q part.pk ≤ entries_of p part.pk + 50
    → ((rk : List ℕ) → upto ≡ Some rk → unread q part.pk (Some rk) ≤ unread p part.pk (Some rk)) → others_left part p + (end_left p part.pk upto + pass_again p part.pk pass) + 1 ≤ n
    → (Stands q (chunk_done (copying_of part pass epoch before) upto) × (steps_left (chunk_done (copying_of part pass epoch before) upto) q + 1 ≤ n)) ⊎ (most_left (chunk_done (copying_of part pass epoch before) upto) q + 1 ≤ n)
done_again p q part (First marker) epoch before None n own others a b u le = inr (most (is_owned q part.pk epoch && has_tag marker (old_at q part.pk marker_key)) (is_unmoved q part.pk)) where
  most : (x y : Bool) → cond x (others_left part q + pass_left q part.pk (First marker)) (3 + (others_left part q + cond y (12 + passes q part.pk) 2)) + 1 ≤ n
  most true y = (let c = lone_in part.pk q in omega (arith, others, a, b, c, le))
  most false true = omega (arith, others, a, b, le)
  most false false = omega (arith, others, le)
done_again p q part Second epoch before None n own others a b u le = inl (own, omega (arith, others, le))
done_again p q part pass epoch before (Some rk) n own others a b u le = inl (own, (let x = u rk refl in let y = pass_most p q part.pk pass a b in omega (arith, others, x, y, le)))

-- a chunk's end is old's, or passes rows of new
end_most : (p : Pair) (pk : List ℕ) (before : Option (List ℕ)) (old new : Reading) → AreRising p
    → (new.rows ≡ take 50 (rows_within p.new.rows pk (next_rows before (end_of old)))) × (new.more ≡ nat_lt 50 (length (rows_within p.new.rows pk (next_rows before (end_of old)))))
    → end_left p pk (chunk_end old new) ≤ 3 * chunks (unread p pk before) + end_left p pk (end_of old)
end_most p pk before old new up from_new = go (chunk_end old new) refl where
  go : (end : Option (List ℕ)) → chunk_end old new ≡ end → end_left p pk end ≤ 3 * chunks (unread p pk before) + end_left p pk (end_of old)
  go None e = omega arith
  go (Some rk) e = elim (the_end (end_of old) (end_of new) rk e) as (λ _. end_left p pk (Some rk) ≤ 3 * chunks (unread p pk before) + end_left p pk (end_of old)) [
    | inl at ↦ (let x : end_left p pk (end_of old) ≡ end_left p pk (Some rk) = ap (end_left p pk) at in omega (arith, x))
    | inr at ↦
        let h = reading_ends p.new.rows pk before (end_of old) rk up.1 (ap (λ b. read_end (take 50 (rows_within p.new.rows pk (next_rows before (end_of old)))) b) (sym from_new.1) ∙ ap (λ l. read_end l new.more) (sym from_new.0) ∙ at) in
        let a = h.fewer in
        let b = fewer_unread pk rk before None h.from p.old.rows in
        omega (arith, a, b)
  ]

module _ (p : Pair) (part : Part) (pass : Pass) (epoch : Tag) (before : Option (List ℕ)) (old : Reading) (found : Found) (up : AreRising p) (own : is_owned p part.pk epoch ≡ true)
    (is : IsFound (record { pk = part.pk; named = marker_key ∷ []; range = Some (next_rows before (end_of old)) }) found p.new) where
  abbrev the_chunk : Option (List ℕ)
  the_chunk = chunk_end old (reading_of found)

  abbrev reading_new : State
  reading_new = at.ReadNew (copying_of part pass epoch before) old

  most_is : most_left reading_new p ≡ others_left part p + (5 + 6 * chunks (unread p part.pk before) + end_left p part.pk (end_of old) + pass_again p part.pk pass)
  most_is = ap (λ b. cond b (others_left part p + (5 + 6 * chunks (unread p part.pk before) + end_left p part.pk (end_of old) + pass_again p part.pk pass)) (1 + again part p)) own

  compared_owned : (b : Bool) → Falls p p reading_new (cond b (at.Write (copying_of part pass epoch before) the_chunk old.rows found.rows) (chunk_done (copying_of part pass epoch before) the_chunk))
  compared_owned true = inr (
      let a : most_left (at.Write (copying_of part pass epoch before) the_chunk old.rows found.rows) p ≡ others_left part p + (4 + 3 * chunks (unread p part.pk before) + end_left p part.pk the_chunk + pass_again p part.pk pass) =
      ap (λ b. cond b (others_left part p + (4 + 3 * chunks (unread p part.pk before) + end_left p part.pk the_chunk + pass_again p part.pk pass)) (4 + again part p)) own in
      let b = end_most p part.pk before old (reading_of found) up (is.rows, is.more) in
      let c = most_is in omega (arith, a, b, c)
      )
  compared_owned false =
      done_again p p part pass epoch before the_chunk (most_left reading_new p) own (omega arith) (omega arith) (omega arith) (λ rk e. omega arith)
      (let b = end_most p part.pk before old (reading_of found) up (is.rows, is.more) in let c = most_is in omega (arith, b, c))

  new_read_owned : (x : Option Stored) → new_at p part.pk marker_key ≡ x → Falls p p reading_new (read_new (copying_of part pass epoch before) the_chunk old.rows found.rows (option_map (shown marker_key) x))
  new_read_owned None at_marker = absurd (let e : false ≡ true = sym (ap (has_tag epoch) at_marker) ∙ own in cc)
  new_read_owned (Some m) at_marker =
      let e : is_same_tag m.tag epoch ≡ true = ap (λ t. is_same_tag t epoch) (same_tag epoch m.tag (ap (has_tag epoch) (sym at_marker) ∙ own)) ∙ same_itself epoch in
      subst (λ b. Falls p p reading_new (cond b (compared (copying_of part pass epoch before) the_chunk old.rows found.rows) (at.Look part))) (sym e) (compared_owned (is_wanting the_chunk old.rows found.rows))

  pub read_new_owned : Falls p p reading_new (read_new (copying_of part pass epoch before) the_chunk old.rows found.rows (row_in found.named marker_key))
  read_new_owned =
      subst (λ m. Falls p p reading_new (read_new (copying_of part pass epoch before) the_chunk old.rows found.rows m)) (sym (ap (λ rows. row_in rows marker_key) is.named ∙ marker_read p.new.rows part.pk))
      (new_read_owned (new_at p part.pk marker_key) refl)

write_is : (p : Pair) (c : Copying) (upto : Option (List ℕ)) (rows entries : List StoredRow) → is_owned p c.part.pk c.epoch ≡ true
    → most_left (at.Write c upto rows entries) p ≡ others_left c.part p + (4 + 3 * chunks (unread p c.part.pk c.done) + end_left p c.part.pk upto + pass_again p c.part.pk c.pass)
write_is p c upto rows entries own = ap (λ b. cond b (others_left c.part p + (4 + 3 * chunks (unread p c.part.pk c.done) + end_left p c.part.pk upto + pass_again p c.part.pk c.pass)) (4 + again c.part p)) own

write_owned : (p : Pair) (part : Part) (pass : Pass) (epoch : Tag) (before upto : Option (List ℕ)) (rows entries : List StoredRow) (puts : List Put) (up : AreRising p) → is_owned p part.pk epoch ≡ true → length rows ≤ 50 → (are : ArePuts upto rows entries puts)
    → Falls p (with_new p (contents_after p.new_number p.new part.pk (put.Check marker_key epoch ∷ puts))) (at.Write (copying_of part pass epoch before) upto rows entries) (chunk_done (copying_of part pass epoch before) upto)
write_owned p part pass epoch before upto rows entries puts up own few are =
    let q = written p part epoch upto rows entries puts up are in
    let grows = entries_grow p part epoch upto rows entries puts up are in
    done_again p q part pass epoch before upto (most_left (at.Write (copying_of part pass epoch before) upto rows entries) p) (ap (has_tag epoch) (marker_stays p part epoch upto rows entries puts up are) ∙ own)
    (others_less part p q (stays_but p part epoch upto rows entries puts up are)) (omega arith) (omega (arith, grows, few))
    (λ rk e. let x = past_less p part epoch upto rows entries puts up are rk e in omega (arith, x))
    (let x = write_is p (copying_of part pass epoch before) upto rows entries own in omega (arith, x))

unwritten_owned : (p : Pair) (c : Copying) (upto : Option (List ℕ)) (rows entries : List StoredRow) (puts : List Put) → is_owned p c.part.pk c.epoch ≡ true → (index : ℕ) → unmet_from 0 p.new.rows c.part.pk (put.Check marker_key c.epoch ∷ puts) ≡ Some index
    → Falls p p (at.Write c upto rows entries) (unwritten c index)
unwritten_owned p c upto rows entries puts own index unmet = go (index == 0) refl where
  later : 1 ≤ index
  later = (unmet_in_range 1 p.new.rows c.part.pk puts index (sym (ap (λ b. cond b (unmet_from 1 p.new.rows c.part.pk puts) (Some 0)) own) ∙ unmet)).0

  go : (b : Bool) → (index == 0) ≡ b → Falls p p (at.Write c upto rows entries) (cond b (at.Look c.part) (at.ReadOld c))
  go true e = absurd (let x : index ≡ 0 = grind (arith, nat_tests) in let y = later in omega (arith, x, y))
  go false e = inl (own, (let x = write_is p c upto rows entries own in let y = pass_most p p c.part.pk c.pass (omega arith) (omega arith) in omega (arith, x, y)))

owned_read : (c : Copying) (reading : Reading) (r : StoreReply) (a : StoreAsk) (p q : Pair) → are_rising p.old.rows ≡ true → are_rising p.new.rows ≡ true → is_owned p c.part.pk c.epoch ≡ true → Asks (at.ReadNew c reading) a → PairMeans a r p q
    → Falls p q (at.ReadNew c reading) (moved (at.ReadNew c reading) r)
owned_read c reading (reply.Next next) a p q old new own asks means = absurd (subst (λ x. PairMeans x (reply.Next next) p q) asks means).0
owned_read c reading (reply.Found found) a p q old new own asks means = (let m = (subst (λ x. PairMeans x (reply.Found found) p q) asks means) in stays_new p q (at.ReadNew c reading) (read_new c (chunk_end reading (reading_of found)) reading.rows found.rows (row_in found.named marker_key)) m.0.0 m.1 (read_new_owned p c.part c.pass c.epoch c.done reading found (old, new) own m.0.1))
owned_read c reading (reply.Applied tags) a p q old new own asks means = absurd (subst (λ x. PairMeans x (reply.Applied tags) p q) asks means).0
owned_read c reading (reply.Unmet index) a p q old new own asks means = absurd (subst (λ x. PairMeans x (reply.Unmet index) p q) asks means).0
owned_read c reading reply.SealedOff a p q old new own asks means = absurd (subst (λ x. PairMeans x reply.SealedOff p q) asks means).0
owned_read c reading reply.SealDone a p q old new own asks means = absurd (subst (λ x. PairMeans x reply.SealDone p q) asks means).0

owned_write : (c : Copying) (upto : Option (List ℕ)) (rows entries : List StoredRow) (r : StoreReply) (a : StoreAsk) (p q : Pair) → IsSound p → are_rising p.old.rows ≡ true → are_rising p.new.rows ≡ true → MigratorFits (at.Write c upto rows entries)
    → is_owned p c.part.pk c.epoch ≡ true → Asks (at.Write c upto rows entries) a → PairMeans a r p q → Falls p q (at.Write c upto rows entries) (moved (at.Write c upto rows entries) r)
owned_write c upto rows entries (reply.Next next) a p q s old new fits own asks means = absurd (subst (λ x. PairMeans x (reply.Next next) p q) asks.2 means).0
owned_write c upto rows entries (reply.Found found) a p q s old new fits own asks means = absurd (subst (λ x. PairMeans x (reply.Found found) p q) asks.2 means).0
owned_write c upto rows entries (reply.Applied tags) a p q s old new fits own asks means = (let m = (subst (λ x. PairMeans x (reply.Applied tags) p q) asks.2 means) in let d = was_done p.new_number p.new c.part.pk (put.Check marker_key c.epoch ∷ asks.0) q.new tags m.0.0 in subst (λ x. Falls p x (at.Write c upto rows entries) (chunk_done c upto)) (sym (m.1 ∙ ap (with_new p) d.contents)) (write_owned p c.part c.pass c.epoch c.done upto rows entries asks.0 (old, new) own fits.0.0 asks.1))
owned_write c upto rows entries (reply.Unmet index) a p q s old new fits own asks means = (let m = (subst (λ x. PairMeans x (reply.Unmet index) p q) asks.2 means) in stays_new p q (at.Write c upto rows entries) (unwritten c index) m.0.1 m.1 (unwritten_owned p c upto rows entries asks.0 own index (was_unmet p.new_number p.new c.part.pk (put.Check marker_key c.epoch ∷ asks.0) index m.0.0).unmet))
owned_write c upto rows entries reply.SealedOff a p q s old new fits own asks means = (let m = (subst (λ x. PairMeans x reply.SealedOff p q) asks.2 means) in absurd (new_allowed p c.part.pk s (was_sealed_off p.new_number p.new c.part.pk (put.Check marker_key c.epoch ∷ asks.0) m.0.0)))
owned_write c upto rows entries reply.SealDone a p q s old new fits own asks means = absurd (subst (λ x. PairMeans x reply.SealDone p q) asks.2 means).0

-- ---- a step

by_nears : (p q : Pair) (state to : State) → most_left state p ≡ steps_left state p → Nears p q state to → Falls p q state to
by_nears p q state to is h = inl (h.stands, (let x = h.less in omega (arith, is, x)))

-- a step that is made alone, whatever others did before
pub again_end : (state : State) (r : StoreReply) (a : StoreAsk) (p q : Pair) (retired : Bool) → MigratorFits state → IsSound p → are_rising p.old.rows ≡ true → are_rising p.new.rows ≡ true → AllHold p retired (state_facts state) → Asks state a → PairMeans a r p q
    → Falls p q state (moved state r)
again_end (at.Walk walk from) r a p q retired fits s old new know asks means = by_nears p q (at.Walk walk from) (moved (at.Walk walk from) r) refl (nears_end (at.Walk walk from) r a p q retired fits s old new know tt asks means)
again_end at.SealOld r a p q retired fits s old new know asks means = by_nears p q at.SealOld (moved at.SealOld r) refl (nears_end at.SealOld r a p q retired fits s old new know tt asks means)
again_end (at.Look part) r a p q retired fits s old new know asks means = by_nears p q (at.Look part) (moved (at.Look part) r) refl (nears_end (at.Look part) r a p q retired fits s old new know tt asks means)
again_end (at.Claim part pass) r a p q retired fits s old new know asks means = by_nears p q (at.Claim part pass) (moved (at.Claim part pass) r) refl (nears_end (at.Claim part pass) r a p q retired fits s old new know tt asks means)
again_end (at.Prepare part rows) r a p q retired fits s old new know asks means = go (test_of p (at.Prepare part rows)) refl where
  go : (b : Bool) → test_of p (at.Prepare part rows) ≡ b → Falls p q (at.Prepare part rows) (moved (at.Prepare part rows) r)
  go true e = by_nears p q (at.Prepare part rows) (moved (at.Prepare part rows) r) (ap (λ b. cond b (steps_left (at.Prepare part rows) p) (1 + again part p)) e) (nears_end (at.Prepare part rows) r a p q retired fits s old new know e asks means)
  go false e = off_law (at.Prepare part rows) r a p q s old new e asks means
again_end (at.Begin part pass) r a p q retired fits s old new know asks means = go (test_of p (at.Begin part pass)) refl where
  go : (b : Bool) → test_of p (at.Begin part pass) ≡ b → Falls p q (at.Begin part pass) (moved (at.Begin part pass) r)
  go true e = by_nears p q (at.Begin part pass) (moved (at.Begin part pass) r) (ap (λ b. cond b (steps_left (at.Begin part pass) p) (1 + again part p)) e) (nears_end (at.Begin part pass) r a p q retired fits s old new know (no_row (new_at p part.pk marker_key) e) asks means)
  go false e = off_law (at.Begin part pass) r a p q s old new e asks means
again_end (at.Takeover part pass filling) r a p q retired fits s old new know asks means = go (test_of p (at.Takeover part pass filling)) refl where
  go : (b : Bool) → test_of p (at.Takeover part pass filling) ≡ b → Falls p q (at.Takeover part pass filling) (moved (at.Takeover part pass filling) r)
  go true e = by_nears p q (at.Takeover part pass filling) (moved (at.Takeover part pass filling) r) (ap (λ b. cond b (steps_left (at.Takeover part pass filling) p) (1 + again part p)) e) (nears_end (at.Takeover part pass filling) r a p q retired fits s old new know e asks means)
  go false e = off_law (at.Takeover part pass filling) r a p q s old new e asks means
again_end (at.ReadOld c) r a p q retired fits s old new know asks means = go (test_of p (at.ReadOld c)) refl where
  go : (b : Bool) → test_of p (at.ReadOld c) ≡ b → Falls p q (at.ReadOld c) (moved (at.ReadOld c) r)
  go true e = by_nears p q (at.ReadOld c) (moved (at.ReadOld c) r) (ap (λ b. cond b (steps_left (at.ReadOld c) p) (stale_left c.pass + again c.part p)) e) (nears_end (at.ReadOld c) r a p q retired fits s old new know e asks means)
  go false e = off_law (at.ReadOld c) r a p q s old new e asks means
again_end (at.Switch part marker epoch) r a p q retired fits s old new know asks means = go (test_of p (at.Switch part marker epoch)) refl where
  go : (b : Bool) → test_of p (at.Switch part marker epoch) ≡ b → Falls p q (at.Switch part marker epoch) (moved (at.Switch part marker epoch) r)
  go true e = by_nears p q (at.Switch part marker epoch) (moved (at.Switch part marker epoch) r) (ap (λ b. cond b (steps_left (at.Switch part marker epoch) p) (3 + again part p)) e) (nears_end (at.Switch part marker epoch) r a p q retired fits s old new know (and_parts (is_owned p part.pk epoch) (has_tag marker (old_at p part.pk marker_key)) e) asks means)
  go false e = off_law (at.Switch part marker epoch) r a p q s old new e asks means
again_end (at.Finish part epoch) r a p q retired fits s old new know asks means = go (test_of p (at.Finish part epoch)) refl where
  go : (b : Bool) → test_of p (at.Finish part epoch) ≡ b → Falls p q (at.Finish part epoch) (moved (at.Finish part epoch) r)
  go true e = by_nears p q (at.Finish part epoch) (moved (at.Finish part epoch) r) (ap (λ b. cond b (steps_left (at.Finish part epoch) p) (1 + again part p)) e) (nears_end (at.Finish part epoch) r a p q retired fits s old new know e asks means)
  go false e = off_law (at.Finish part epoch) r a p q s old new e asks means
again_end (at.ReadNew c reading) r a p q retired fits s old new know asks means = go (test_of p (at.ReadNew c reading)) refl where
  go : (b : Bool) → test_of p (at.ReadNew c reading) ≡ b → Falls p q (at.ReadNew c reading) (moved (at.ReadNew c reading) r)
  go true e = owned_read c reading r a p q old new e asks means
  go false e = off_law (at.ReadNew c reading) r a p q s old new e asks means
again_end (at.Write c upto rows entries) r a p q retired fits s old new know asks means = go (test_of p (at.Write c upto rows entries)) refl where
  go : (b : Bool) → test_of p (at.Write c upto rows entries) ≡ b → Falls p q (at.Write c upto rows entries) (moved (at.Write c upto rows entries) r)
  go true e = owned_write c upto rows entries r a p q s old new fits e asks means
  go false e = off_law (at.Write c upto rows entries) r a p q s old new e asks means
again_end at.Done r a p q retired fits s old new know asks means = absurd asks

-- so it lasts fewer steps afterwards
pub lasts_less : (n : ℕ) (state : State) (r : StoreReply) (a : StoreAsk) (p q : Pair) (retired : Bool) → MigratorFits state → IsSound p → are_rising p.old.rows ≡ true → are_rising p.new.rows ≡ true → AllHold p retired (state_facts state) → Asks state a → PairMeans a r p q
    → Lasts n p state → (m : ℕ) × (m + 1 ≤ n) × Lasts m q (moved state r)
lasts_less n state r a p q retired fits s old new know asks means (inl h) =
    let x = nears_end state r a p q retired fits s old new know h.0 asks means in
    let le = h.1 in
    let less = x.less in
    (steps_left (moved state r) q, omega (arith, le, less), inl (x.stands, omega arith))
lasts_less n state r a p q retired fits s old new know asks means (inr le) = go (again_end state r a p q retired fits s old new know asks means) where
  go : Falls p q state (moved state r) → (m : ℕ) × (m + 1 ≤ n) × Lasts m q (moved state r)
  go (inl x) = (let less = x.1 in (steps_left (moved state r) q, omega (arith, le, less), inl (x.0, omega arith)))
  go (inr less) = (most_left (moved state r) q, omega (arith, le, less), inr (omega arith))
