-- A step of a page, over two told stores that are a sound pair.
use Rattle.std.proofs.Common.{◌≡◌, ℕ, ◌<◌, Bool, true, false, cond, ◌&&◌, nat_lt, List, [], ◌∷◌, length, take, Option, Some, None, refl, sym, ap, subst, ◌∙◌, arith}
use Rattle.std.specs.Prelude.{option_map}
use Rattle.std.proofs.lemmas.Bool.{and_parts}
use Rattle.std.specs.Ordering.{nat_cmp, is_le}
use Rattle.std.specs.Cmp.Lexicographic.{slice_cmp}
use Rattle.mt_match.specs.declared.bounds.Bounds.{Bounds}
use Rattle.mt_chain.specs.declared.row.Stored.{Stored}
use Rattle.mt_chain.specs.declared.row.StoredRow.{StoredRow}
use Rattle.mt_chain.specs.declared.query.Found.{Found}
use Rattle.mt_chain.specs.declared.query.Range.{Range}
use Rattle.mt_chain.specs.Rows.{row_at, row_in, shown, read_end, is_from, is_upto, is_within, rows_within}
use Rattle.mt_chain.specs.StoreCall.{Contents, IsContents, IsFound}
use Rattle.mt_chain.proofs.TextOrder.{le_trans, not_le}
use Rattle.mt_chain.proofs.RangeRows.{in_whole, rising_within, up_to_end}
use Rattle.mt_meta.specs.declared.marker.Phase.{Phase}
use Rattle.mt_meta.specs.declared.marker.Phase.TheVariants.{UseOld, PreferOld, PreferNew}
use Rattle.mt_meta.specs.declared.marker.NewPhase.{NewPhase}
use Rattle.mt_meta.specs.declared.marker.NewPhase.TheVariants.{Filling, UseNew}
use Rattle.mt_meta.specs.Markers.{marker_key, old_phase_of, new_phase_of}
use Rattle.mt_meta.specs.Logical.{Pair, NoOld, BadOld, AtFilling, AtUseNew, BadNew, old_says, new_says, old_state, new_state, old_at, new_at, old_state_at, new_state_at, shown_over, logical}
use Rattle.mt_meta.specs.Sound.{IsSound}
use Rattle.mt_meta.specs.Modes.{Mode, Empty, AtOld, Prepared, Copying, Overlaid, Settled, NewOnly, Broken, mode}
use Rattle.mt_meta.specs.Facts.{is_prefer_new, is_filling, is_marked}
use Rattle.mt_meta.specs.ReadRows.{kept_row, kept_in}
use Rattle.mt_meta.specs.Steps.{AllHold}
use Rattle.mt_meta.proofs.ModeLaws.{IsWhole, old_in, new_in, whole, says}
use Rattle.mt_meta.proofs.ReadLaws.{marker_read, kept_shown, turned_known, turned_row, closed_read, closed_none}
use Rattle.mt_meta.proofs.ByMarkers.{is_write_state, shows_old, shows_none, shows_fill, shows_new, shows_nothing}
use Rattle.mt_scan.specs.declared.unit.Place.TheVariants as at
use Rattle.mt_scan.specs.declared.saw.Half.TheVariants.{First, Turned, Closed}
use Rattle.mt_scan.specs.Chunks.{lesser}
use Rattle.mt_scan.specs.Pages.{range_at, Lead, again, on, chunk, gap, nothing, saw_old, saw_turned, saw_closed, old_marker, new_marker, saw_rows, half_facts}
use Rattle.mt_scan.specs.PageSteps.{calls_left}
use Rattle.mt_scan.proofs.ScanLaws.{Agrees}

-- ---- ends of reads

lesser_left : (a b : Option (List ℕ)) (rk : List ℕ) → is_upto (lesser a b) rk ≡ true → is_upto a rk ≡ true
lesser_left None b rk h = refl
lesser_left (Some a) None rk h = h
lesser_left (Some a) (Some b) rk h = go (is_le (slice_cmp nat_cmp a b)) refl h where
  go : (x : Bool) → is_le (slice_cmp nat_cmp a b) ≡ x → is_upto (cond x (Some a) (Some b)) rk ≡ true → is_le (slice_cmp nat_cmp rk a) ≡ true
  go true e h = h
  go false e h = le_trans rk b a h (ap is_le (not_le a b e))

lesser_right : (a b : Option (List ℕ)) (rk : List ℕ) → is_upto (lesser a b) rk ≡ true → is_upto b rk ≡ true
lesser_right None b rk h = h
lesser_right (Some a) None rk h = refl
lesser_right (Some a) (Some b) rk h = go (is_le (slice_cmp nat_cmp a b)) refl h where
  go : (x : Bool) → is_le (slice_cmp nat_cmp a b) ≡ x → is_upto (cond x (Some a) (Some b)) rk ≡ true → is_le (slice_cmp nat_cmp rk b) ≡ true
  go true e h = le_trans rk a b h e
  go false e h = h

lesser_both : (a b : Option (List ℕ)) (rk : List ℕ) → is_upto a rk ≡ true → is_upto b rk ≡ true → is_upto (lesser a b) rk ≡ true
lesser_both None b rk h k = k
lesser_both (Some a) None rk h k = h
lesser_both (Some a) (Some b) rk h k = go (is_le (slice_cmp nat_cmp a b)) where
  go : (x : Bool) → is_upto (cond x (Some a) (Some b)) rk ≡ true
  go true = h
  go false = k

-- ---- markers of a sound pair

no_bad_old : (m : Mode) → IsWhole m → old_in m ≡ BadOld → ⊥
no_bad_old Empty w h = cc
no_bad_old AtOld w h = cc
no_bad_old Prepared w h = cc
no_bad_old Copying w h = cc
no_bad_old Overlaid w h = cc
no_bad_old Settled w h = cc
no_bad_old NewOnly w h = cc
no_bad_old Broken w h = w

no_bad_new : (m : Mode) → IsWhole m → new_in m ≡ BadNew → ⊥
no_bad_new Empty w h = cc
no_bad_new AtOld w h = cc
no_bad_new Prepared w h = cc
no_bad_new Copying w h = cc
no_bad_new Overlaid w h = cc
no_bad_new Settled w h = cc
no_bad_new NewOnly w h = cc
no_bad_new Broken w h = w

no_fill_alone : (m : Mode) → IsWhole m → old_in m ≡ NoOld → new_in m ≡ AtFilling → ⊥
no_fill_alone Empty w h k = cc
no_fill_alone AtOld w h k = cc
no_fill_alone Prepared w h k = cc
no_fill_alone Copying w h k = cc
no_fill_alone Overlaid w h k = cc
no_fill_alone Settled w h k = cc
no_fill_alone NewOnly w h k = cc
no_fill_alone Broken w h k = w

module _ (bounds : Bounds) (pk : List ℕ) (row : Option (List ℕ)) (p : Pair) (retired : Bool) (sound : IsSound p) where
  abbrev limits : Range
  limits = range_at bounds row

  abbrev Finds : Found → Contents → Type 0
  Finds found c = IsFound (record { pk = pk; named = marker_key ∷ []; range = Some limits }) found c

  -- up to where it ends a read has the rows of its range
  read_row : (c : Contents) (found : Found) → IsContents c → Finds found c → (rk : List ℕ) → is_within limits rk ≡ true → is_upto (read_end found.rows found.more) rk ≡ true → option_map (shown rk) (row_at c.rows pk rk) ≡ row_in found.rows rk
  read_row c found rise is rk within end =
      let all = rows_within c.rows pk limits in
      let ended : is_upto (read_end (take 100 all) (nat_lt 100 (length all))) rk ≡ true =
      ap (λ (x : List StoredRow). is_upto (read_end x (nat_lt 100 (length all))) rk) (sym is.rows) ∙ ap (λ (b : Bool). is_upto (read_end found.rows b) rk) (sym is.more) ∙ end in
      sym (in_whole c.rows pk limits rk within)
      ∙ sym (up_to_end 100 all rk (omega arith) (rising_within c.rows pk limits rise.rising) ended)
      ∙ ap (λ l. row_in l rk) (sym is.rows)

  kept_read : (c : Contents) (found : Found) → IsContents c → Finds found c → (rk : List ℕ) → is_within limits rk ≡ true → is_upto (read_end found.rows found.more) rk ≡ true → row_at c.rows pk rk ≡ kept_in found.rows rk
  kept_read c found rise is rk within end = sym (kept_shown rk (row_at c.rows pk rk)) ∙ ap (option_map kept_row) (read_row c found rise is rk within end)

  -- what holds where a read leads there: never to the beginning, and to another call only where fewer are left
  abbrev pub IsLed : ℕ → Lead → Type 0
  IsLed left again = ⊥
  IsLed left (on half) = AllHold p retired (half_facts bounds (at.Rows pk row) half) × (calls_left half < left)
  IsLed left (chunk phase old new) = Agrees p pk limits phase old new
  IsLed left (gap next) = ⊥

  nothing_led : (left : ℕ) → ((rk : List ℕ) → logical p pk rk ≡ None) → IsLed left nothing
  nothing_led left none rk other within short = none rk

  -- ---- of old
  module _ (found : Found) (rise : IsContents p.old) (is : Finds found p.old) where
    old_led : is_write_state (old_state_at p pk) ≡ true → IsLed 2 (chunk Filling (Some found) None)
    old_led writes rk other within short =
        shows_old p pk rk sound writes other
        ∙ ap (λ r. shown_over Filling r None) (kept_read p.old found rise is rk within (lesser_left (read_end found.rows found.more) None rk short))

    turned_led : is_prefer_new (old_state_at p pk) ≡ true → IsLed 2 (on (Turned found))
    turned_led turned = (
      (
        turned_known p pk _ found.rows sound turned (λ rk part. read_row p.old found rise is rk
            (ap (λ b. b && is_upto limits.upto rk) part.0 ∙ lesser_left limits.upto (read_end found.rows found.more) rk part.1)
            (lesser_right limits.upto (read_end found.rows found.more) rk part.1)),
        tt,
      ),
      omega arith,
    )

    says_led : (phase : Option Phase) (sealed : Bool) → old_state_at p pk ≡ old_says phase → IsLed 2 (saw_old found (Some phase) sealed)
    says_led (Some UseOld) sealed state = old_led (ap is_write_state state)
    says_led (Some PreferOld) sealed state = old_led (ap is_write_state state)
    says_led (Some PreferNew) sealed state = turned_led (ap is_prefer_new state)
    says_led None sealed state = no_bad_old (mode p pk) (whole p sound pk) (sym (says p sound pk).old ∙ state)

    saw_led : (marker : Option Stored) (sealed : Bool) → old_at p pk marker_key ≡ marker → sealed ≡ p.old.sealed → IsLed 2 (saw_old found (option_map (λ (s : Stored). old_phase_of s.tag.store s.props) marker) sealed)
    saw_led (Some s) sealed there is = says_led (old_phase_of s.tag.store s.props) sealed (ap old_state there)
    saw_led None false there is = nothing_led 2 (λ rk. shows_none p pk rk sound there (sym is))
    saw_led None true there is = ((closed_read p pk sound (sym is) there, tt), omega arith)

    marker_of : old_marker found ≡ option_map (λ (s : Stored). old_phase_of s.tag.store s.props) (old_at p pk marker_key)
    marker_of = ap (λ named. option_map (λ (m : StoredRow). old_phase_of m.tag.store m.props) (row_in named marker_key)) is.named
        ∙ ap (option_map (λ (m : StoredRow). old_phase_of m.tag.store m.props)) (marker_read p.old.rows pk)
        ∙ shown_marker (old_at p pk marker_key) where
          shown_marker : (o : Option Stored) → option_map (λ (m : StoredRow). old_phase_of m.tag.store m.props) (option_map (shown marker_key) o) ≡ option_map (λ (s : Stored). old_phase_of s.tag.store s.props) o
          shown_marker None = refl
          shown_marker (Some s) = refl

    pub first_led : IsLed 2 (saw_rows First found)
    first_led = subst (λ m. IsLed 2 (saw_old found m found.sealed)) (sym marker_of) (saw_led (old_at p pk marker_key) found.sealed refl is.sealed)

  -- ---- of new
  module _ (found : Found) (rise : IsContents p.new) (is : Finds found p.new) where
    fill_led : (old : Found) → AllHold p retired (half_facts bounds (at.Rows pk row) (Turned old)) → new_state_at p pk ≡ AtFilling → IsLed 1 (chunk Filling (Some old) (Some found))
    fill_led old knows fills rk other within short =
        let turned = knows.0 in
        let filling = ap is_filling fills in
        let parts = and_parts (is_from limits.from rk) (is_upto limits.upto rk) within in
        let in_old = lesser_left (read_end old.rows old.more) (read_end found.rows found.more) rk short in
        let in_new = lesser_right (read_end old.rows old.more) (read_end found.rows found.more) rk short in
        shows_fill p pk rk sound fills (turned.turned filling) other
        ∙ ap (λ r. shown_over Filling r (new_at p pk rk)) (turned_row p pk rk _ old.rows turned filling other (parts.0, lesser_both limits.upto (read_end old.rows old.more) rk parts.1 in_old, refl))
        ∙ ap (shown_over Filling (kept_in old.rows rk)) (kept_read p.new found rise is rk within in_new)

    used_led : new_state_at p pk ≡ AtUseNew → IsLed 1 (chunk UseNew None (Some found))
    used_led used rk other within short =
        shows_new p pk rk sound used other
        ∙ ap (shown_over UseNew None) (kept_read p.new found rise is rk within short)

    bad_new : new_state_at p pk ≡ BadNew → ⊥
    bad_new state = no_bad_new (mode p pk) (whole p sound pk) (sym (says p sound pk).new ∙ state)

    turned_by : (old : Found) → AllHold p retired (half_facts bounds (at.Rows pk row) (Turned old)) → (phase : Option NewPhase) → new_state_at p pk ≡ new_says phase → IsLed 1 (saw_turned old found (Some phase))
    turned_by old knows (Some Filling) state = fill_led old knows state
    turned_by old knows (Some UseNew) state = used_led state
    turned_by old knows None state = bad_new state

    closed_by : AllHold p retired (half_facts bounds (at.Rows pk row) Closed) → (phase : Option NewPhase) → new_state_at p pk ≡ new_says phase → IsLed 1 (saw_closed found (Some phase))
    closed_by knows (Some Filling) state = no_fill_alone (mode p pk) (whole p sound pk) (sym (says p sound pk).old ∙ ap old_state (closed_none p pk marker_key knows.0)) (sym (says p sound pk).new ∙ state)
    closed_by knows (Some UseNew) state = used_led state
    closed_by knows None state = bad_new state

    turned_at : (old : Found) → AllHold p retired (half_facts bounds (at.Rows pk row) (Turned old)) → (marker : Option Stored) → new_at p pk marker_key ≡ marker → IsLed 1 (saw_turned old found (option_map (λ (s : Stored). new_phase_of s.props) marker))
    turned_at old knows (Some s) there = turned_by old knows (new_phase_of s.props) (ap new_state there)
    turned_at old knows None there = (let x : false ≡ true = sym (ap (λ o. is_marked (new_state o)) there) ∙ knows.0.marked in cc)

    closed_at : AllHold p retired (half_facts bounds (at.Rows pk row) Closed) → (marker : Option Stored) → new_at p pk marker_key ≡ marker → IsLed 1 (saw_closed found (option_map (λ (s : Stored). new_phase_of s.props) marker))
    closed_at knows (Some s) there = closed_by knows (new_phase_of s.props) (ap new_state there)
    closed_at knows None there = nothing_led 1 (λ rk. shows_nothing p pk rk sound (closed_none p pk marker_key knows.0) there)

    new_marker_of : new_marker found ≡ option_map (λ (s : Stored). new_phase_of s.props) (new_at p pk marker_key)
    new_marker_of = ap (λ named. option_map (λ (m : StoredRow). new_phase_of m.props) (row_in named marker_key)) is.named
        ∙ ap (option_map (λ (m : StoredRow). new_phase_of m.props)) (marker_read p.new.rows pk)
        ∙ shown_marker (new_at p pk marker_key) where
          shown_marker : (o : Option Stored) → option_map (λ (m : StoredRow). new_phase_of m.props) (option_map (shown marker_key) o) ≡ option_map (λ (s : Stored). new_phase_of s.props) o
          shown_marker None = refl
          shown_marker (Some s) = refl

    pub then_turned : (old : Found) → AllHold p retired (half_facts bounds (at.Rows pk row) (Turned old)) → IsLed 1 (saw_rows (Turned old) found)
    then_turned old knows = subst (λ m. IsLed 1 (saw_turned old found m)) (sym new_marker_of) (turned_at old knows (new_at p pk marker_key) refl)

    pub then_closed : AllHold p retired (half_facts bounds (at.Rows pk row) Closed) → IsLed 1 (saw_rows Closed found)
    then_closed knows = subst (λ m. IsLed 1 (saw_closed found m)) (sym new_marker_of) (closed_at knows (new_at p pk marker_key) refl)
