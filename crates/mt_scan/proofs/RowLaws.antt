-- The rows of a chunk, and where it ends: in the range that was asked, with keys of clients.
use Rattle.std.proofs.Common.{◌≡◌, ℕ, Bool, true, false, cond, ◌&&◌, ◌||◌, nat_lt, List, [], ◌∷◌, length, Option, Some, None, refl, sym, ap, subst, ◌∙◌, bytes_eq, Less}
use Rattle.std.specs.Prelude.{option_map}
use Rattle.std.proofs.lemmas.Bool.{and_parts}
use Rattle.std.specs.List.{AllByRecursion, list_all}
use Rattle.std.specs.Ordering.{nat_cmp, is_lt, is_le, is_eq}
use Rattle.std.specs.Cmp.Lexicographic.{slice_cmp}
use Rattle.std.specs.FinMap.Entries.{below_all}
use Rattle.mt_model.specs.declared.key.Key.{Key}
use Rattle.mt_model.specs.declared.entity.Entity.{Entity}
use Rattle.mt_model.specs.Key.{key_cmp}
use Rattle.mt_filter.specs.declared.filter.Filter.{Filter}
use Rattle.mt_chain.specs.declared.row.Stored.{Stored}
use Rattle.mt_chain.specs.declared.row.StoredRow.{StoredRow}
use Rattle.mt_chain.specs.declared.query.Found.{Found}
use Rattle.mt_chain.specs.declared.query.RkFrom.TheVariants.{Start}
use Rattle.mt_chain.specs.declared.query.Range.{Range}
use Rattle.mt_chain.specs.Rows.{are_rising, row_in, last_key, read_end, is_upto, is_within}
use Rattle.mt_chain.specs.Table.{Table, IsListing, table_of, rows_of}
use Rattle.mt_chain.proofs.KeyLaws.{text_true, text_same, is_tied}
use Rattle.mt_chain.proofs.OrderLaws.{lt_less, reversed}
use Rattle.mt_history.specs.Replies.{in_range, is_matched, kept_if, selected}
use Rattle.mt_meta.specs.declared.marker.NewPhase.{NewPhase}
use Rattle.mt_meta.specs.declared.marker.NewPhase.TheVariants.{Filling, UseNew}
use Rattle.mt_meta.specs.Markers.{marker_key}
use Rattle.mt_meta.specs.Logical.{shown_over}
use Rattle.mt_meta.specs.ReadRows.{kept_row}
use Rattle.mt_meta.specs.Steps.{as_row}
use Rattle.mt_query_plan.specs.Answers.{seen_over, read_table}
use Rattle.mt_scan.specs.Chunks.{is_row_key, is_readable, ends_at_row, is_fair, rows_of as found_rows, end_of, lesser, reads_end, last_of, cut_at, Chunk, IsChunk}
use Rattle.mt_scan.specs.Pages.{AreIn}

-- ---- rows of a list

-- each row of a list that rises stands at its key
pub each_there : (es : List Entity) → are_rising (rows_of es) ≡ true → AllByRecursion (λ e. table_of (rows_of es) e.key ≡ Some (record { props = e.props; tag = e.tag })) es
each_there [] rising = tt
each_there (x ∷ es) rising = (
  ap (λ b. cond b (Some (record { props = x.props; tag = x.tag })) (table_of (rows_of es) x.key)) (is_tied x.key x.key ∙ ap (λ b. b && bytes_eq x.key.rk x.key.rk) (text_same x.key.pk) ∙ text_same x.key.rk),
  later es (head_below_of x es rising) (each_there es (and_parts (below_all key_cmp x.key (rows_of es)) (are_rising (rows_of es)) rising).1),
) where
  head_below_of : (x : Entity) (es : List Entity) → are_rising (rows_of (x ∷ es)) ≡ true → below_all key_cmp x.key (rows_of es) ≡ true
  head_below_of x es h = (and_parts (below_all key_cmp x.key (rows_of es)) (are_rising (rows_of es)) h).0

  past : (o : Option Stored) (y : Entity) → key_cmp x.key y.key ≡ Less → table_of (rows_of es) y.key ≡ o → table_of (rows_of (x ∷ es)) y.key ≡ o
  past o y less h = ap (λ b. cond b (Some (record { props = x.props; tag = x.tag })) (table_of (rows_of es) y.key)) (ap is_eq (reversed x.key y.key Less less)) ∙ h

  later : (ys : List Entity) → below_all key_cmp x.key (rows_of ys) ≡ true → AllByRecursion (λ e. table_of (rows_of es) e.key ≡ Some (record { props = e.props; tag = e.tag })) ys → AllByRecursion (λ e. table_of (rows_of (x ∷ es)) e.key ≡ Some (record { props = e.props; tag = e.tag })) ys
  later [] below h = tt
  later (y ∷ ys) below h = (let parts = and_parts (is_lt (key_cmp x.key y.key)) (below_all key_cmp x.key (rows_of ys)) below in
      (past _ y (lt_less _ parts.0) h.0, later ys parts.1 h.1))

-- what the table has at keys, a listing of it has of its rows
all_listed : (P : Key → Type 0) (es : List Entity) (table : Table) → IsListing es table → ((key : Key) (s : Stored) → table key ≡ Some s → P key) → AllByRecursion (λ e. P e.key) es
all_listed P es table is h = go es (each_there es is.rising) where
  go : (ys : List Entity) → AllByRecursion (λ e. table_of (rows_of es) e.key ≡ Some (record { props = e.props; tag = e.tag })) ys → AllByRecursion (λ e. P e.key) ys
  go [] all = tt
  go (y ∷ ys) all = (h y.key _ (sym (is.rows y.key) ∙ all.0), go ys all.1)

-- ---- reads that may be used

-- the row's key lies in the range, and is one of a client
abbrev pub IsGood : Range → List ℕ → Type 0
IsGood range rk = (is_within range rk ≡ true) × (is_row_key rk ≡ true)

abbrev pub Usable : Range → Option Found → Type 0
Usable range None = Unit {0}
Usable range (Some found) = AreIn range found.rows × (is_fair found ≡ true)

abbrev pub MayBeGood : Range → Option (List ℕ) → Type 0
MayBeGood range None = Unit {0}
MayBeGood range (Some rk) = IsGood range rk

-- where a read that may be used ends
end_good : (range : Range) (o : Option Found) → Usable range o → MayBeGood range (end_of o)
end_good range None h = tt
end_good range (Some found) h = by found.more refl where
  last_within : (rows : List StoredRow) (k : List ℕ) → AreIn range rows → last_key rows ≡ Some k → is_within range k ≡ true
  last_within [] k all e = absurd (let x = e in cc)
  last_within (r ∷ []) k all e = subst (λ x. is_within range x ≡ true) (same r.rk k e) all.0 where
    same : (a b : List ℕ) → Some a ≡ Some b → a ≡ b
    same a b e = cc
  last_within (r ∷ s ∷ rows) k all e = last_within (s ∷ rows) k all.1 e

  keyed : ends_at_row found.more (read_end found.rows found.more) ≡ true
  keyed = (and_parts (list_all is_readable found.rows) (ends_at_row found.more (read_end found.rows found.more)) h.1).1

  at_last : (o : Option (List ℕ)) → last_key found.rows ≡ o → ends_at_row true o ≡ true → MayBeGood range o
  at_last None e k = tt
  at_last (Some rk) e k = (last_within found.rows rk h.0 e, k)

  by : (more : Bool) → found.more ≡ more → MayBeGood range (read_end found.rows found.more)
  by true e = subst (λ b. MayBeGood range (read_end found.rows b)) (sym e) (at_last (last_key found.rows) refl (sym (ap (λ b. ends_at_row b (read_end found.rows b)) e) ∙ keyed))
  by false e = subst (λ b. MayBeGood range (read_end found.rows b)) (sym e) tt

lesser_good : (range : Range) (a b : Option (List ℕ)) → MayBeGood range a → MayBeGood range b → MayBeGood range (lesser a b)
lesser_good range None b h k = k
lesser_good range (Some a) None h k = h
lesser_good range (Some a) (Some b) h k = go (is_le (slice_cmp nat_cmp a b)) where
  go : (t : Bool) → MayBeGood range (cond t (Some a) (Some b))
  go true = h
  go false = k

-- a row that was read
read_in : (range : Range) (rows : List StoredRow) (rk : List ℕ) (r : StoredRow) → AreIn range rows → row_in rows rk ≡ Some r → is_within range rk ≡ true
read_in range [] rk r all e = absurd (let x = e in cc)
read_in range (s ∷ rows) rk r all e = go (λ x. read_in range rows rk r all.1 x) (bytes_eq rk s.rk) refl e where
  go : (row_in rows rk ≡ Some r → is_within range rk ≡ true) → (b : Bool) → bytes_eq rk s.rk ≡ b → cond b (Some s) (row_in rows rk) ≡ Some r → is_within range rk ≡ true
  go rest true t e = subst (λ x. is_within range x ≡ true) (sym (text_true rk s.rk t)) all.0
  go rest false t e = rest e

read_keyed : (rows : List StoredRow) (rk : List ℕ) (r : StoredRow) → list_all is_readable rows ≡ true → row_in rows rk ≡ Some r → bytes_eq rk marker_key ≡ false → is_row_key rk ≡ true
read_keyed [] rk r all e other = absurd (let x = e in cc)
read_keyed (s ∷ rows) rk r all e other = go (λ x. read_keyed rows rk r parts.1 x other) (bytes_eq rk s.rk) refl e where
  parts : (is_readable s ≡ true) × (list_all is_readable rows ≡ true)
  parts = and_parts (is_readable s) (list_all is_readable rows) all

  go : (row_in rows rk ≡ Some r → is_row_key rk ≡ true) → (b : Bool) → bytes_eq rk s.rk ≡ b → cond b (Some s) (row_in rows rk) ≡ Some r → is_row_key rk ≡ true
  go rest true t e = (let same = text_true rk s.rk t in
      sym (ap (λ b. b || is_row_key rk) other) ∙ subst (λ x. (bytes_eq x marker_key || is_row_key x) ≡ true) (sym same) parts.0)
  go rest false t e = rest e

good_row : (range : Range) (o : Option Found) (rk : List ℕ) (r : StoredRow) → Usable range o → row_in (found_rows o) rk ≡ Some r → bytes_eq rk marker_key ≡ false → IsGood range rk
good_row range None rk r h e other = absurd (let x = e in cc)
good_row range (Some found) rk r h e other = (
  read_in range found.rows rk r h.0 e,
  read_keyed found.rows rk r (and_parts (list_all is_readable found.rows) (ends_at_row found.more (read_end found.rows found.more)) h.1).0 e other,
)

-- ---- the rows of a chunk

-- the key is one of the partition, up to the end, in the range, and a client's
abbrev pub IsOf : List ℕ → Range → Option (List ℕ) → Key → Type 0
IsOf pk range upto key = (pk ≡ key.pk) × (is_upto upto key.rk ≡ true) × IsGood range key.rk

pub seen_good : (phase : NewPhase) (range : Range) (old new : Option Found) (rk : List ℕ) (s : Stored) → Usable range old → Usable range new → seen_over phase rk (row_in (found_rows old) rk) (row_in (found_rows new) rk) ≡ Some s → IsGood range rk
seen_good phase range old new rk s a b h = by (bytes_eq rk marker_key) refl h where
  none : (phase : NewPhase) (x : Stored) → option_map as_row (shown_over phase None None) ≡ Some x → ⊥
  none Filling x h = cc
  none UseNew x h = cc

  read : bytes_eq rk marker_key ≡ false → (row entry : Option StoredRow) → row_in (found_rows old) rk ≡ row → row_in (found_rows new) rk ≡ entry → option_map as_row (shown_over phase (option_map kept_row row) (option_map kept_row entry)) ≡ Some s → IsGood range rk
  read other (Some r) entry e f h = good_row range old rk r a e other
  read other None (Some r) e f h = good_row range new rk r b f other
  read other None None e f h = absurd (none phase s h)

  by : (t : Bool) → bytes_eq rk marker_key ≡ t → cond t None (option_map as_row (shown_over phase (option_map kept_row (row_in (found_rows old) rk)) (option_map kept_row (row_in (found_rows new) rk)))) ≡ Some s → IsGood range rk
  by true t h = absurd (let x = h in cc)
  by false t h = read t (row_in (found_rows old) rk) (row_in (found_rows new) rk) refl refl h

module _ (pk : List ℕ) (range : Range) (filter : Option Filter) (phase : NewPhase) (room : ℕ) (old new : Option Found) (a : Usable range old) (b : Usable range new) where
  of_key : (upto : Option (List ℕ)) (key : Key) (s : Stored) → selected (in_range pk Start upto) filter (read_table phase (found_rows old) (found_rows new)) key ≡ Some s → IsOf pk range upto key
  of_key upto key s h = by (bytes_eq pk key.pk) (is_upto upto key.rk) refl refl (read_table phase (found_rows old) (found_rows new) key) refl h where
    by : (p u : Bool) → bytes_eq pk key.pk ≡ p → is_upto upto key.rk ≡ u → (o : Option Stored) → read_table phase (found_rows old) (found_rows new) key ≡ o → cond (p && u) (kept_if (λ x. is_matched filter key x.props) o) None ≡ Some s → IsOf pk range upto key
    by false u ep eu o eo h = absurd (let x = h in cc)
    by true false ep eu o eo h = absurd (let x = h in cc)
    by true true ep eu None eo h = absurd (let x = h in cc)
    by true true ep eu (Some x) eo h = (text_true pk key.pk ep, eu, seen_good phase range old new key.rk x a b eo)

  pub of_chunk : (c : Chunk) → IsChunk pk filter phase room old new c → AllByRecursion (λ e. IsOf pk range c.upto e.key) c.rows
  of_chunk c is = subst (λ upto. AllByRecursion (λ e. IsOf pk range upto e.key) c.rows) (sym is.ends)
      (all_listed (IsOf pk range (cut_at room (reads_end old new) c.rows)) c.rows _ is.rows.listing (of_key (cut_at room (reads_end old new) c.rows)))

  -- where a chunk ends
  pub chunk_end : (c : Chunk) → IsChunk pk filter phase room old new c → MayBeGood range c.upto
  chunk_end c is = subst (MayBeGood range) (sym is.ends) (by (nat_lt (length c.rows) room)) where
    last_good : (es : List Entity) → AllByRecursion (λ e. IsOf pk range c.upto e.key) es → MayBeGood range (last_of es)
    last_good [] h = tt
    last_good (e ∷ []) h = h.0.2
    last_good (e ∷ f ∷ es) h = last_good (f ∷ es) h.1

    by : (t : Bool) → MayBeGood range (cond t (reads_end old new) (last_of c.rows))
    by true = lesser_good range (end_of old) (end_of new) (end_good range old a) (end_good range new b)
    by false = last_good c.rows (of_chunk c is)
