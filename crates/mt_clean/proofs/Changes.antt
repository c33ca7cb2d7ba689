-- Tombstones of new and rows of old go, of a partition that is in new alone: the pair stays sound, and clients see the same.
use Rattle.std.proofs.Common.{◌≡◌, ◌≢◌, ◌⊎◌, ℕ, ◌≤◌, Bool, true, false, cond, ◌||◌, List, [], ◌∷◌, Option, Some, None, refl, sym, ap, ◌∙◌, subst, arith, inl, inr, bytes_eq}
use Rattle.std.proofs.lemmas.Bool.{and_parts, or_cases}
use Rattle.std.specs.List.{AllByRecursion}
use Rattle.mt_model.specs.declared.tag.Tag.{Tag}
use Rattle.mt_chain.specs.declared.ask.Side.TheVariants.{New}
use Rattle.mt_chain.specs.declared.row.Stored.{Stored}
use Rattle.mt_chain.specs.declared.row.StoredRow.{StoredRow}
use Rattle.mt_chain.specs.declared.row.Put.TheVariants.{Check, Delete}
use Rattle.mt_chain.specs.declared.query.RkFrom.TheVariants.{Start}
use Rattle.mt_chain.specs.Rows.{row_in, shown}
use Rattle.mt_chain.specs.Puts.{unmet_from}
use Rattle.mt_chain.specs.StoreCall.{Contents}
use Rattle.mt_chain.proofs.KeyLaws.{text_true, text_same}
use Rattle.mt_chain.proofs.PutLaws.{all_puts, Each, Held, each_held}
use Rattle.mt_chain.proofs.JudgeLaws.{contents_after}
use Rattle.mt_meta.specs.declared.mark.Mark.{Mark}
use Rattle.mt_meta.specs.declared.mark.Mark.TheVariants.{Live, Copy, Tomb}
use Rattle.mt_meta.specs.Markers.{marker_key}
use Rattle.mt_meta.specs.Marks.{mark_of}
use Rattle.mt_meta.specs.Logical.{Pair, NoOld, NewState, NoNew, AtFilling, AtUseNew, BadNew, old_state, new_state, old_at, new_at, old_state_at, new_state_at, from_new, new_by, logical}
use Rattle.mt_meta.specs.Sound.{IsNewMarker, IsEntry, NoTomb, IsSound}
use Rattle.mt_meta.specs.Modes.{Mode, Empty, AtOld, Prepared, Copying, Overlaid, Settled, NewOnly, Broken, mode_of, mode, rank, FitsMode, shown_in}
use Rattle.mt_meta.specs.declared.fact.Keys.TheVariants as keys
use Rattle.mt_meta.specs.declared.fact.Fact.{Fact}
use Rattle.mt_meta.specs.Facts.{is_in, is_use_new, KnowsClean}
use Rattle.mt_meta.specs.Steps.{AllHold, row_facts, StepIn, with_old, with_new}
use Rattle.mt_meta.proofs.Rules.{key_cases, to_modes}
use Rattle.mt_meta.proofs.ShownLaws.{logical_in}
use Rattle.mt_meta.proofs.ModeLaws.{IsWhole, whole, rank_from, use_new_rank}
use Rattle.mt_meta.proofs.StorePuts.{moves_puts, seen}
use Rattle.mt_meta.proofs.Parts.{FormsAt, KeptAt, kept_on, old_late, new_step}
use Rattle.mt_clean.specs.Cleanings.{is_data, is_tomb, is_tombstone, deletes_of, ArePurged, AreDropped}
use Rattle.mt_clean.specs.Known.{keys_of}
use Rattle.mt_clean.proofs.RowLists.{after_deletes, no_marker}

-- a step in one partition after which clients see the same
pub record Shows (own : List Fact) (p q : Pair) (pk : List ℕ) : Type 0 where
  pub step : StepIn own p q pk
  pub same : (rk : List ℕ) → logical q pk rk ≡ logical p pk rk

-- it is shown at clients' keys
same_at : (p q : Pair) (pk : List ℕ) → ((rk : List ℕ) → rk ≢ marker_key → logical q pk rk ≡ logical p pk rk) → (rk : List ℕ) → logical q pk rk ≡ logical p pk rk
same_at p q pk h rk = elim (key_cases rk) as (λ _. logical q pk rk ≡ logical p pk rk) [
  | inl e ↦ ap (logical q pk) e ∙ ap (logical p pk) (sym e)
  | inr other ↦ h rk other
]

-- ---- once new is used alone

late_shows : (m : Mode) → IsWhole m → 5 ≤ rank m → (row entry : Option Stored) → shown_in m row entry ≡ from_new entry
late_shows Empty w low row entry = absurd (omega arith)
late_shows AtOld w low row entry = absurd (omega arith)
late_shows Prepared w low row entry = absurd (omega arith)
late_shows Copying w low row entry = absurd (omega arith)
late_shows Overlaid w low row entry = absurd (omega arith)
late_shows Settled w low row entry = refl
late_shows NewOnly w low row entry = refl
late_shows Broken w low row entry = absurd w

whole_rank : (m : Mode) → IsWhole m → rank m ≤ 6
whole_rank Empty w = omega arith
whole_rank AtOld w = omega arith
whole_rank Prepared w = omega arith
whole_rank Copying w = omega arith
whole_rank Overlaid w = omega arith
whole_rank Settled w = omega arith
whole_rank NewOnly w = omega arith
whole_rank Broken w = absurd w

-- a row or an entry may go
late_fits : (m : Mode) → 5 ≤ rank m → (row row' entry entry' : Option Stored) → FitsMode m row entry → (row' ≡ row) ⊎ (row' ≡ None) → (NoTomb entry → NoTomb entry') → FitsMode m row' entry'
late_fits Empty low row row' entry entry' h r e = absurd (omega arith)
late_fits AtOld low row row' entry entry' h r e = absurd (omega arith)
late_fits Prepared low row row' entry entry' h r e = absurd (omega arith)
late_fits Copying low row row' entry entry' h r e = absurd (omega arith)
late_fits Overlaid low row row' entry entry' h r e = absurd (omega arith)
late_fits Settled low row row' entry entry' h r e = tt
late_fits NewOnly low row row' entry entry' h (inl same) e = (same ∙ h.0, e h.1)
late_fits NewOnly low row row' entry entry' h (inr none) e = (none, e h.1)
late_fits Broken low row row' entry entry' h r e = absurd h

use_new_is : (n : NewState) → is_use_new n ≡ true → n ≡ AtUseNew
use_new_is NoNew h = absurd cc
use_new_is AtFilling h = absurd cc
use_new_is AtUseNew h = refl
use_new_is BadNew h = absurd cc

-- ---- keys of rows

not_among : (k : List ℕ) (ks : List (List ℕ)) → AllByRecursion (λ y. bytes_eq k y ≡ false) ks → is_in k ks ≡ false
not_among k [] h = refl
not_among k (y ∷ ks) h = ap (λ b. b || is_in k ks) h.0 ∙ not_among k ks h.1

marker_out : (rows : List StoredRow) → AllByRecursion (λ r. is_data r ≡ true) rows → is_in marker_key (keys_of rows) ≡ false
marker_out rows h = not_among marker_key (keys_of rows) (no_marker rows h)

tombs_data : (rows : List StoredRow) → AllByRecursion (λ r. is_tombstone r ≡ true) rows → AllByRecursion (λ r. is_data r ≡ true) rows
tombs_data [] h = tt
tombs_data (r ∷ rows) h = ((and_parts (is_data r) (is_tomb (mark_of r.props)) h.0).0, tombs_data rows h.1)

the_tomb : (m : Option Mark) → is_tomb m ≡ true → m ≡ Some Tomb
the_tomb (Some Tomb) h = refl
the_tomb (Some Live) h = absurd (let e = h in cc)
the_tomb (Some (Copy tag)) h = absurd (let e = h in cc)
the_tomb None h = absurd (let e = h in cc)

-- where the deletes of tombstones hold, the entries that they name show nothing
gone_shows : (p : Pair) (retired : Bool) (pk : List ℕ) (tombs : List StoredRow) → AllByRecursion (λ r. is_tombstone r ≡ true) tombs → AllHold p retired (row_facts New pk tombs) → Each (Held p.new.rows pk) (deletes_of tombs)
    → (rk : List ℕ) → is_in rk (keys_of tombs) ≡ true → from_new (new_at p pk rk) ≡ None
gone_shows p retired pk [] each know held rk there = absurd (let e = there in cc)
gone_shows p retired pk (t ∷ tombs) each know held rk there = elim (or_cases (bytes_eq rk t.rk) (is_in rk (keys_of tombs)) there) as (λ _. from_new (new_at p pk rk) ≡ None) [
  | inl e ↦
      let x = seen p.new pk t.rk t.props t.tag know.0 held.0 in
      let tomb : mark_of x.row.props ≡ Some Tomb = ap mark_of x.props ∙ the_tomb (mark_of t.props) (and_parts (is_data t) (is_tomb (mark_of t.props)) each.0).1 in
      ap (λ k. from_new (new_at p pk k)) (text_true rk t.rk e) ∙ ap from_new x.is ∙ ap (λ m. new_by m x.row) tomb
  | inr e ↦ gone_shows p retired pk tombs each.1 know.1 held.1 rk e
]

-- ---- tombstones go

module _ (own : List Fact) (p : Pair) (retired : Bool) (pk : List ℕ) (tombs : List StoredRow) (s : IsSound p) (moved : is_use_new (new_state_at p pk) ≡ true)
    (fits : ArePurged tombs) (know : AllHold p retired (row_facts New pk tombs)) (met : unmet_from 0 p.new.rows pk (deletes_of tombs) ≡ None) where
  abbrev purged_new : Contents
  purged_new = contents_after p.new_number p.new pk (deletes_of tombs)

  abbrev purged_pair : Pair
  purged_pair = with_new p purged_new

  pub purge_row : (rk : List ℕ) → new_at purged_pair pk rk ≡ cond (is_in rk (keys_of tombs)) None (new_at p pk rk)
  purge_row rk = all_puts p.new_number p.new.counter pk (deletes_of tombs) p.new.rows rk ∙ after_deletes p.new_number p.new.counter tombs rk (new_at p pk rk)

  pub purge_marker : new_at purged_pair pk marker_key ≡ new_at p pk marker_key
  purge_marker = purge_row marker_key ∙ ap (λ b. cond b None (new_at p pk marker_key)) (marker_out tombs (tombs_data tombs fits.each))

  purge_mode : mode purged_pair pk ≡ mode p pk
  purge_mode = ap (λ x. mode_of (old_state_at p pk) (new_state x) p.old.sealed) purge_marker

  low : 5 ≤ rank (mode p pk)
  low = rank_from (λ o n. is_use_new n) 5 use_new_rank p pk s moved

  same_or_gone : (rk : List ℕ) → (new_at purged_pair pk rk ≡ new_at p pk rk) ⊎ ((new_at purged_pair pk rk ≡ None) × (from_new (new_at p pk rk) ≡ None))
  same_or_gone rk = go (is_in rk (keys_of tombs)) refl where
    go : (b : Bool) → is_in rk (keys_of tombs) ≡ b → (new_at purged_pair pk rk ≡ new_at p pk rk) ⊎ ((new_at purged_pair pk rk ≡ None) × (from_new (new_at p pk rk) ≡ None))
    go false e = inl (purge_row rk ∙ ap (λ b. cond b None (new_at p pk rk)) e)
    go true e = inr (purge_row rk ∙ ap (λ b. cond b None (new_at p pk rk)) e, gone_shows p retired pk tombs fits.each know (each_held 0 p.new.rows pk (deletes_of tombs) met) rk e)

  was : (rk : List ℕ) (row : Stored) → new_at purged_pair pk rk ≡ Some row → new_at p pk rk ≡ Some row
  was rk row is = elim (same_or_gone rk) as (λ _. new_at p pk rk ≡ Some row) [
    | inl e ↦ sym e ∙ is
    | inr gone ↦ absurd (let x = sym gone.0 ∙ is in cc)
  ]

  pub still_no_tomb : (rk : List ℕ) → NoTomb (new_at p pk rk) → NoTomb (new_at purged_pair pk rk)
  still_no_tomb rk h = elim (same_or_gone rk) as (λ _. NoTomb (new_at purged_pair pk rk)) [
    | inl e ↦ subst NoTomb (sym e) h
    | inr gone ↦ subst NoTomb (sym gone.0) tt
  ]

  shows_alike : (rk : List ℕ) → from_new (new_at purged_pair pk rk) ≡ from_new (new_at p pk rk)
  shows_alike rk = elim (same_or_gone rk) as (λ _. from_new (new_at purged_pair pk rk) ≡ from_new (new_at p pk rk)) [
    | inl e ↦ ap from_new e
    | inr gone ↦ ap from_new gone.0 ∙ sym gone.1
  ]

  purge_forms : FormsAt IsNewMarker IsEntry purged_new pk
  purge_forms = record {
    marker = λ row is. s.forms.1.markers pk row (sym purge_marker ∙ is);
    data_rows = λ rk row other is. s.forms.1.data_rows pk rk row other (was rk row is);
  }

  purge_kept : KeptAt purged_pair p.new_number purged_new pk
  purge_kept rk row t is copy = kept_on p p.new_number t p.old purged_new (omega arith) (s.tags.3 pk rk row t (was rk row is) copy)

  pub purges : Shows own p purged_pair pk
  purges =
      let step = new_step own p pk purged_new (mode p pk) (mode p pk) s (moves_puts p.new_number pk (deletes_of tombs) p.new) refl purge_mode (omega arith) purge_forms purge_kept
      (λ rk other. late_fits (mode p pk) low (old_at p pk rk) (old_at p pk rk) (new_at p pk rk) (new_at purged_pair pk rk) ((to_modes p s).keys pk rk other) (inl refl) (still_no_tomb rk))
      (λ a b w there le apart rk other. absurd (let e : rank (mode p pk) ≡ 4 = ap rank a in omega (arith, e, low)))
      (λ le rk other h. still_no_tomb rk h) in
      record {
        step = step;
        same = same_at p purged_pair pk (λ rk other.
            logical_in purged_pair pk rk other step.sound
            ∙ ap (λ m. shown_in m (old_at p pk rk) (new_at purged_pair pk rk)) purge_mode
            ∙ late_shows (mode p pk) (whole p s pk) low (old_at p pk rk) (new_at purged_pair pk rk)
            ∙ shows_alike rk
            ∙ sym (late_shows (mode p pk) (whole p s pk) low (old_at p pk rk) (new_at p pk rk))
            ∙ sym (logical_in p pk rk other s));
      }

-- ---- some of old's rows go, under a check of the marker

module _ (own : List Fact) (p : Pair) (pk : List ℕ) (marker : Tag) (rows : List StoredRow) (s : IsSound p) (moved : is_use_new (new_state_at p pk) ≡ true) (fits : AreDropped rows) where
  abbrev thinned_old : Contents
  thinned_old = contents_after p.old_number p.old pk (Check marker_key marker ∷ deletes_of rows)

  abbrev thinned_pair : Pair
  thinned_pair = with_old p thinned_old

  thin_row : (rk : List ℕ) → old_at thinned_pair pk rk ≡ cond (is_in rk (keys_of rows)) None (old_at p pk rk)
  thin_row rk = all_puts p.old_number p.old.counter pk (deletes_of rows) p.old.rows rk ∙ after_deletes p.old_number p.old.counter rows rk (old_at p pk rk)

  pub thin_marker : old_at thinned_pair pk marker_key ≡ old_at p pk marker_key
  thin_marker = thin_row marker_key ∙ ap (λ b. cond b None (old_at p pk marker_key)) (marker_out rows fits.each)

  thin_mode : mode thinned_pair pk ≡ mode p pk
  thin_mode = ap (λ x. mode_of (old_state x) (new_state_at p pk) p.old.sealed) thin_marker

  thin_low : 5 ≤ rank (mode p pk)
  thin_low = rank_from (λ o n. is_use_new n) 5 use_new_rank p pk s moved

  left_or_gone : (rk : List ℕ) → (old_at thinned_pair pk rk ≡ old_at p pk rk) ⊎ (old_at thinned_pair pk rk ≡ None)
  left_or_gone rk = go (is_in rk (keys_of rows)) refl where
    go : (b : Bool) → is_in rk (keys_of rows) ≡ b → (old_at thinned_pair pk rk ≡ old_at p pk rk) ⊎ (old_at thinned_pair pk rk ≡ None)
    go false e = inl (thin_row rk ∙ ap (λ b. cond b None (old_at p pk rk)) e)
    go true e = inr (thin_row rk ∙ ap (λ b. cond b None (old_at p pk rk)) e)

  pub thins : Shows own p thinned_pair pk
  thins =
      let step = old_late own p pk thinned_old (mode p pk) (mode p pk) s (moves_puts p.old_number pk (Check marker_key marker ∷ deletes_of rows) p.old) refl thin_mode (omega arith) thin_low
      (λ rk other. late_fits (mode p pk) thin_low (old_at p pk rk) (old_at thinned_pair pk rk) (new_at p pk rk) (new_at p pk rk) ((to_modes p s).keys pk rk other) (left_or_gone rk) (λ h. h))
      left_or_gone in
      record {
        step = step;
        same = same_at p thinned_pair pk (λ rk other.
            logical_in thinned_pair pk rk other step.sound
            ∙ ap (λ m. shown_in m (old_at thinned_pair pk rk) (new_at p pk rk)) thin_mode
            ∙ late_shows (mode p pk) (whole p s pk) thin_low (old_at thinned_pair pk rk) (new_at p pk rk)
            ∙ sym (late_shows (mode p pk) (whole p s pk) thin_low (old_at p pk rk) (new_at p pk rk))
            ∙ sym (logical_in p pk rk other s));
      }

-- ---- the last of old's rows go, and the marker

listed : (rows : List StoredRow) (rk : List ℕ) (r : StoredRow) → row_in rows rk ≡ Some r → is_in rk (keys_of rows) ≡ true
listed [] rk r is = absurd (let e = is in cc)
listed (x ∷ rows) rk r is = go (bytes_eq rk x.rk) (λ e. listed rows rk r e) is where
  go : (b : Bool) → (row_in rows rk ≡ Some r → is_in rk (keys_of rows) ≡ true) → cond b (Some x) (row_in rows rk) ≡ Some r → (b || is_in rk (keys_of rows)) ≡ true
  go true rest is = refl
  go false rest is = rest is

module _ (own : List Fact) (p : Pair) (pk : List ℕ) (marker : Tag) (rows : List StoredRow) (s : IsSound p) (sealed : p.old.sealed ≡ true) (clean : KnowsClean p pk (keys.Within Start None []) (Some rows)) where
  abbrev dropped_old : Contents
  dropped_old = contents_after p.old_number p.old pk (Delete marker_key marker ∷ deletes_of rows)

  abbrev dropped_pair : Pair
  dropped_pair = with_old p dropped_old

  drop_row : (rk : List ℕ) → old_at dropped_pair pk rk ≡ cond (is_in rk (keys_of rows)) None (cond (bytes_eq marker_key rk) None (old_at p pk rk))
  drop_row rk = all_puts p.old_number p.old.counter pk (Delete marker_key marker ∷ deletes_of rows) p.old.rows rk ∙ after_deletes p.old_number p.old.counter rows rk (cond (bytes_eq marker_key rk) None (old_at p pk rk))

  pub all_gone : (rk : List ℕ) → old_at dropped_pair pk rk ≡ None
  all_gone rk = drop_row rk ∙ go (is_in rk (keys_of rows)) (bytes_eq marker_key rk) refl refl where
    by_row : (x : Option Stored) → old_at p pk rk ≡ x → is_in rk (keys_of rows) ≡ false → bytes_eq marker_key rk ≡ false → old_at p pk rk ≡ None
    by_row None is out other = is
    by_row (Some r) is out other =
        let there = listed rows rk (shown rk r) (clean.left rk r (λ e. (let x : true ≡ false = sym (text_same marker_key) ∙ ap (bytes_eq marker_key) (sym e) ∙ other in cc)) is) in
        absurd (let x : true ≡ false = sym there ∙ out in cc)

    go : (a b : Bool) → is_in rk (keys_of rows) ≡ a → bytes_eq marker_key rk ≡ b → cond a None (cond b None (old_at p pk rk)) ≡ None
    go true b ea eb = refl
    go false true ea eb = refl
    go false false ea eb = by_row (old_at p pk rk) refl ea eb

  drop_mode : mode dropped_pair pk ≡ NewOnly
  drop_mode =
      ap (λ x. mode_of (old_state x) (new_state_at p pk) p.old.sealed) (all_gone marker_key)
      ∙ ap (λ x. mode_of NoOld x p.old.sealed) (use_new_is (new_state_at p pk) clean.moved)
      ∙ ap (λ x. mode_of NoOld AtUseNew x) sealed

  drop_low : 5 ≤ rank (mode p pk)
  drop_low = rank_from (λ o n. is_use_new n) 5 use_new_rank p pk s clean.moved

  pub drops : Shows own p dropped_pair pk
  drops =
      let step = old_late own p pk dropped_old (mode p pk) NewOnly s (moves_puts p.old_number pk (Delete marker_key marker ∷ deletes_of rows) p.old) refl drop_mode (whole_rank (mode p pk) (whole p s pk)) drop_low
      (λ rk other. (all_gone rk, clean.tombs rk other (refl, refl, refl)))
      (λ rk. inr (all_gone rk)) in
      record {
        step = step;
        same = same_at p dropped_pair pk (λ rk other.
            logical_in dropped_pair pk rk other step.sound
            ∙ ap (λ m. shown_in m (old_at dropped_pair pk rk) (new_at p pk rk)) drop_mode
            ∙ sym (late_shows (mode p pk) (whole p s pk) drop_low (old_at p pk rk) (new_at p pk rk))
            ∙ sym (logical_in p pk rk other s));
      }
