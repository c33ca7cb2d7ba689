-- The rows of a chunk are the reply to its scan at the logical table, and its end is past its beginning.
use Rattle.std.proofs.Common.{◌≡◌, ◌≢◌, ℕ, ◌≤◌, arith, Bool, true, false, cond, ◌&&◌, nat_lt, List, [], ◌∷◌, length, Option, Some, None, refl, sym, ap, subst, ◌∙◌, bytes_eq}
use Rattle.std.specs.Prelude.{option_map, IfSome}
use Rattle.std.proofs.lemmas.Bool.Decides.{nat_tests}
use Rattle.std.specs.List.{AllByRecursion}
use Rattle.std.specs.Ordering.{nat_cmp, is_le}
use Rattle.std.specs.Cmp.Lexicographic.{slice_cmp}
use Rattle.mt_model.specs.declared.key.Key.{Key}
use Rattle.mt_model.specs.declared.value.Prop.{Prop}
use Rattle.mt_model.specs.declared.entity.Entity.{Entity}
use Rattle.mt_filter.specs.declared.filter.Filter.{Filter}
use Rattle.mt_filter.specs.Tree.{tree_of}
use Rattle.mt_match.specs.declared.bounds.Bounds.{Bounds}
use Rattle.mt_match.proofs.Conjuncts.{lies_within}
use Rattle.mt_match.proofs.Texts.{empty_at_most}
use Rattle.mt_chain.specs.declared.row.Stored.{Stored}
use Rattle.mt_chain.specs.declared.query.Found.{Found}
use Rattle.mt_chain.specs.declared.query.RkFrom.{RkFrom}
use Rattle.mt_chain.specs.declared.query.RkFrom.TheVariants as start
use Rattle.mt_chain.specs.declared.query.Range.{Range}
use Rattle.mt_chain.specs.Rows.{is_from, is_upto, is_within}
use Rattle.mt_chain.specs.Table.{IsListing}
use Rattle.mt_chain.proofs.KeyLaws.{text_true, text_differs}
use Rattle.mt_chain.proofs.TextOrder.{text_cmp, le_trans}
use Rattle.mt_history.specs.Replies.{in_range, is_matched, kept_if, selected}
use Rattle.mt_meta.specs.declared.marker.NewPhase.{NewPhase}
use Rattle.mt_meta.specs.Markers.{marker_key}
use Rattle.mt_meta.specs.Logical.{Pair, old_at, new_at, old_state_at, new_state_at, row_by, shown_over, logical}
use Rattle.mt_meta.specs.ReadRows.{kept_in}
use Rattle.mt_meta.specs.Steps.{as_row, logical_table}
use Rattle.mt_query_plan.specs.Answers.{read_table}
use Rattle.mt_scan.specs.Units.{from_row}
use Rattle.mt_scan.specs.Chunks.{asked_from, rows_of as found_rows, reads_end, last_of, cut_at, Chunk, IsChunk}
use Rattle.mt_scan.specs.Pages.{AreBounds, range_at}
use Rattle.mt_scan.proofs.RowLaws.{Usable, seen_good}
use Rattle.mt_scan.proofs.ChunkLaws.{has_last}
use Rattle.mt_scan.proofs.FitLaws.{past_row}

-- what the filter matches lies within the row bounds
bounded : (filter : Option Filter) (bounds : Bounds) (key : Key) (props : List Prop) → AreBounds filter bounds → is_matched filter key props ≡ true → (is_le (slice_cmp nat_cmp bounds.rk_low key.rk) ≡ true) × (is_upto bounds.rk_high key.rk ≡ true)
bounded None bounds key props are h = (ap (λ (b : Bounds). is_le (slice_cmp nat_cmp b.rk_low key.rk)) are ∙ empty_at_most key.rk, ap (λ (b : Bounds). is_upto b.rk_high key.rk) are)
bounded (Some filter) bounds key props are h = (let within = lies_within (tree_of filter) bounds are key props h in (within.rk_low, high bounds.rk_high within.rk_high)) where
  high : (o : Option (List ℕ)) → IfSome o (λ end. is_le (slice_cmp nat_cmp key.rk end) ≡ true) → is_upto o key.rk ≡ true
  high None h = refl
  high (Some end) h = h

asked_in : (low : List ℕ) (place : RkFrom) (rk : List ℕ) → is_le (slice_cmp nat_cmp low rk) ≡ true → is_from place rk ≡ true → is_from (asked_from low place) rk ≡ true
asked_in [] place rk le from = from
asked_in (b ∷ bs) place rk le from = go (is_from place (b ∷ bs)) where
  go : (t : Bool) → is_from (cond t (start.From (b ∷ bs)) place) rk ≡ true
  go true = le
  go false = from

-- what lies up to where a chunk ends lies up to where its reads end
up_to_cut : (room : ℕ) (end : Option (List ℕ)) (es : List Entity) (rk : List ℕ) → AllByRecursion (λ (e : Entity). is_upto end e.key.rk ≡ true) es → is_upto (cut_at room end es) rk ≡ true → ((nat_lt (length es) room ≡ false) → last_of es ≢ None) → is_upto end rk ≡ true
up_to_cut room end es rk short h some = either (nat_lt (length es) room) refl h where
  of_last : (es : List Entity) (k : List ℕ) → AllByRecursion (λ (e : Entity). is_upto end e.key.rk ≡ true) es → last_of es ≡ Some k → is_upto end k ≡ true
  of_last [] k all e = absurd (let x = e in cc)
  of_last (e ∷ []) k all is = subst (λ x. is_upto end x ≡ true) (same e.key.rk k is) all.0 where
    same : (a b : List ℕ) → Some a ≡ Some b → a ≡ b
    same a b e = cc
  of_last (e ∷ f ∷ es) k all is = of_last (f ∷ es) k all.1 is

  upto_trans : (end : Option (List ℕ)) (k : List ℕ) → is_upto end k ≡ true → is_le (text_cmp rk k) ≡ true → is_upto end rk ≡ true
  upto_trans None k h le = refl
  upto_trans (Some e) k h le = le_trans rk k e le h

  by : (o : Option (List ℕ)) → last_of es ≡ o → last_of es ≢ None → is_upto (last_of es) rk ≡ true → is_upto end rk ≡ true
  by None e some h = absurd (some e)
  by (Some k) e some h = upto_trans end k (of_last es k short e) (sym (ap (λ o. is_upto o rk) e) ∙ h)

  either : (t : Bool) → nat_lt (length es) room ≡ t → is_upto (cond t end (last_of es)) rk ≡ true → is_upto end rk ≡ true
  either true e h = h
  either false e h = by (last_of es) refl (some e) h

-- a chunk that fills the room has a last row
pub some_last : (room : ℕ) (es : List Entity) → 1 ≤ room → nat_lt (length es) room ≡ false → last_of es ≢ None
some_last room [] some full none = (let x : nat_lt 0 room ≡ true = grind (arith, nat_tests) in let y : true ≡ false = sym x ∙ full in cc)
some_last room (e ∷ es) some full none = has_last e es none

-- the rows that were read are those that clients see, in the range up to where the reads end
abbrev pub Agrees : Pair → List ℕ → Range → NewPhase → Option Found → Option Found → Type 0
Agrees p pk range phase old new = (rk : List ℕ) → rk ≢ marker_key → is_within range rk ≡ true → is_upto (reads_end old new) rk ≡ true
    → logical p pk rk ≡ shown_over phase (kept_in (found_rows old) rk) (kept_in (found_rows new) rk)

module _ (bounds : Bounds) (pk : List ℕ) (row : Option (List ℕ)) (filter : Option Filter) (room : ℕ) (phase : NewPhase) (old new : Option Found) (p : Pair)
    (are : AreBounds filter bounds) (a : Usable (range_at bounds row) old) (b : Usable (range_at bounds row) new) (agrees : Agrees p pk (range_at bounds row) phase old new) where
  abbrev limits : Range
  limits = range_at bounds row

  same_row : (key : Key) → pk ≡ key.pk → is_within limits key.rk ≡ true → is_upto (reads_end old new) key.rk ≡ true → read_table phase (found_rows old) (found_rows new) key ≡ logical_table p key
  same_row key same within short = go (bytes_eq key.rk marker_key) refl where
    go : (t : Bool) → bytes_eq key.rk marker_key ≡ t
        → cond t None (option_map as_row (shown_over phase (kept_in (found_rows old) key.rk) (kept_in (found_rows new) key.rk))) ≡ logical_table p key
    go true e = sym (ap (λ (t : Bool). option_map as_row (cond t None (row_by (old_state_at p key.pk) (new_state_at p key.pk) (old_at p key.pk key.rk) (new_at p key.pk key.rk)))) e)
    go false e = ap (option_map as_row) (sym (agrees key.rk (text_differs key.rk marker_key e) within short) ∙ ap (λ k. logical p k key.rk) same)

  -- what lies outside the row bounds is not matched
  outside : (key : Key) (o : Option Stored) → is_from (from_row row) key.rk ≡ true → is_within limits key.rk ≡ false → kept_if (λ s. is_matched filter key s.props) o ≡ None
  outside key None from out = refl
  outside key (Some s) from out = go (is_matched filter key s.props) refl where
    go : (t : Bool) → is_matched filter key s.props ≡ t → cond t (Some s) None ≡ None
    go false e = refl
    go true e = absurd (
        let in_bounds = bounded filter bounds key s.props are e in
        let within : is_within limits key.rk ≡ true = ap (λ x. x && is_upto bounds.rk_high key.rk) (asked_in bounds.rk_low (from_row row) key.rk in_bounds.0 from) ∙ in_bounds.1 in
        let x : true ≡ false = sym within ∙ out in cc)

  -- nothing was read before the place
  before : (key : Key) (o : Option Stored) → read_table phase (found_rows old) (found_rows new) key ≡ o → is_from (from_row row) key.rk ≡ false → kept_if (λ s. is_matched filter key s.props) o ≡ None
  before key None e out = refl
  before key (Some s) e out = absurd (
      let good = seen_good phase limits old new key.rk s a b e in
      let x : true ≡ false = sym (past_row bounds.rk_low bounds.rk_high row key.rk good.0) ∙ out in cc)

  pub scan_rows : 1 ≤ room → (c : Chunk) → IsChunk pk filter phase room old new c → IsListing c.rows (selected (in_range pk (from_row row) c.upto) filter (logical_table p))
  scan_rows some c is = record {
    rising = is.rows.listing.rising;
    rows = λ key. is.rows.listing.rows key ∙ ap (λ o. selected (in_range pk start.Start o) filter (read_table phase (found_rows old) (found_rows new)) key) (sym is.ends) ∙ go key (bytes_eq pk key.pk) (is_upto c.upto key.rk) (is_from (from_row row) key.rk) refl refl refl;
  } where
    within_end : (rk : List ℕ) → is_upto c.upto rk ≡ true → is_upto (reads_end old new) rk ≡ true
    within_end rk h = up_to_cut room (reads_end old new) c.rows rk is.rows.short (sym (ap (λ o. is_upto o rk) is.ends) ∙ h) (some_last room c.rows some)

    read : Key → Option Stored
    read key = kept_if (λ s. is_matched filter key s.props) (read_table phase (found_rows old) (found_rows new) key)

    logic : Key → Option Stored
    logic key = kept_if (λ s. is_matched filter key s.props) (logical_table p key)

    inside : (key : Key) → pk ≡ key.pk → is_upto c.upto key.rk ≡ true → is_from (from_row row) key.rk ≡ true → (w : Bool) → is_within limits key.rk ≡ w → read key ≡ logic key
    inside key same u f true w = ap (kept_if (λ s. is_matched filter key s.props)) (same_row key same w (within_end key.rk u))
    inside key same u f false w = outside key (read_table phase (found_rows old) (found_rows new) key) f w ∙ sym (outside key (logical_table p key) f w)

    go : (key : Key) (s u f : Bool) → bytes_eq pk key.pk ≡ s → is_upto c.upto key.rk ≡ u → is_from (from_row row) key.rk ≡ f → cond (s && u) (read key) None ≡ cond (s && (f && u)) (logic key) None
    go key false u f es eu ef = refl
    go key true false true es eu ef = refl
    go key true false false es eu ef = refl
    go key true true false es eu ef = before key (read_table phase (found_rows old) (found_rows new) key) refl ef
    go key true true true es eu ef = inside key (text_true pk key.pk es) eu ef (is_within limits key.rk) refl
