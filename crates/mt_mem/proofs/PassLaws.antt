-- Changes made in one pass: where the rows below a key end, and what one change more comes to.
use Rattle.std.proofs.Common.{◌≡◌, ℕ, suc, ◌+◌, ◌<◌, ◌≤◌, true, List, [], ◌∷◌, ◌++◌, take, drop, get_or, sym, ap, ◌∙◌, subst, arith, append_assoc, IsTrue, Some, None, Option, Less, Ok, Err}
use Rattle.std.proofs.lemmas.Bool.{and_parts}
use Rattle.std.proofs.lemmas.List.{map-append, take-map, drop-map, drop-drop, set_split, get_or-take, length-take-le, take-append-drop}
use Rattle.std.proofs.lemmas.List.Elements.{recursion_from_All}
use Rattle.std.specs.List.{AllByRecursion}
use Rattle.std.specs.Ordering.{is_le}
use Rattle.std.specs.Cmp.{alike_right, tied_itself}
use Rattle.std.specs.FinMap.Entries.{is_sorted, below_all}
use Rattle.mt_model.specs.declared.key.Key.{Key}
use Rattle.mt_model.specs.Key.{key_cmp}
use Rattle.mt_chain.specs.declared.row.Stored.{Stored}
use Rattle.mt_chain.specs.Rows.{Rows, are_rising}
use Rattle.mt_chain.specs.Places.{EndsAt}
use Rattle.mt_chain.proofs.KeyLaws.{key_total}
use Rattle.mt_chain.proofs.SearchLaws.{rises, put_at, put_gap, without_at, without_gap}
use Rattle.mt_mem.specs.Entries.{Row, entry, entries, stored}
use Rattle.mt_mem.specs.Rewriting.{Rewriting}
use Rattle.mt_mem.specs.Changes.{Edit, rows_with, edited, with_first, ReadsTo, Makes}
use Rattle.mt_mem.proofs.EditLaws.{past_all, rising_with, last_rising}

abbrev Entry : Type 0
Entry = Key × Stored

-- ---- the rows below a key

below_found : (key : Key) (rows : Rows) (at : ℕ) → are_rising rows ≡ true → EndsAt (λ k. key_cmp k key) rows (Ok at) → AllByRecursion (λ (e : Entry). key_cmp e.0 key ≡ Less) (take at rows)
below_found key rows at h ends = recursion_from_All (λ (e : Entry). key_cmp e.0 key ≡ Less) (take at rows) (λ k d l.
    let long = length-take-le at rows (omega (arith, ends.0)) in
    let below : k < at = omega (arith, l, long) in
    subst (λ (e : Entry). key_cmp e.0 key ≡ Less) (sym (get_or-take at rows k d below))
    (sym (alike_right key_total (get_or rows at d).0 key (get_or rows k d).0 (ends.1 d)) ∙ rises rows k at d h below ends.0))

below_gap : (key : Key) (rows : Rows) (at : ℕ) → EndsAt (λ k. key_cmp k key) rows (Err at) → AllByRecursion (λ (e : Entry). key_cmp e.0 key ≡ Less) (take at rows)
below_gap key rows at ends = recursion_from_All (λ (e : Entry). key_cmp e.0 key ≡ Less) (take at rows) (λ k d l.
    let long = length-take-le at rows ends.0 in
    let below : k < at = omega (arith, l, long) in
    subst (λ (e : Entry). key_cmp e.0 key ≡ Less) (sym (get_or-take at rows k d below)) (ends.1.0 k d (omega arith) below))

-- where a row is at the key
with_found : (key : Key) (o : Option Stored) (rows : Rows) (at : ℕ) → are_rising rows ≡ true → EndsAt (λ k. key_cmp k key) rows (Ok at) → rows_with key o rows ≡ take at rows ++ with_first key o (drop (suc at) rows)
with_found key (Some s) rows at h ends = put_at key s rows at (key, s) h ends.0 (ends.1 (key, s)) ∙ set_split rows at (key, s) ends.0
with_found key None rows at h ends = (let any : Entry = (key, record { props = []; tag = record { store = 0; n = 0 } }) in without_at key rows at any h ends.0 (ends.1 any))

-- where none is
with_gap : (key : Key) (o : Option Stored) (rows : Rows) (at : ℕ) → EndsAt (λ k. key_cmp k key) rows (Err at) → rows_with key o rows ≡ take at rows ++ with_first key o (drop at rows)
with_gap key (Some s) rows at ends = put_gap key s rows at ends
with_gap key None rows at ends = without_gap key rows at ends ∙ sym (take-append-drop at rows)

-- ---- up to a key

pub reads_found : (key : Key) (s t : Rewriting) (at : ℕ) → are_rising (entries s.left) ≡ true → EndsAt (λ k. key_cmp k key) (entries s.left) (Ok at)
    → t.written ≡ s.written ++ take at s.left → t.left ≡ drop 1 (drop at s.left) → s.spare ≤ t.spare → ReadsTo key s t
reads_found key s t at h ends written left spare = record {
  passed = take at s.left;
  written = written;
  below = subst (AllByRecursion (λ (e : Entry). key_cmp e.0 key ≡ Less)) (take-map entry at s.left) (below_found key (entries s.left) at h ends);
  rest = λ o.
      with_found key o (entries s.left) at h ends
      ∙ ap (λ rs. rs ++ with_first key o (drop (suc at) (entries s.left))) (take-map entry at s.left)
      ∙ ap (λ rs. entries (take at s.left) ++ with_first key o rs) (drop-map entry (suc at) s.left ∙ ap (λ n. entries (drop n s.left)) (let e : suc at ≡ at + 1 = omega arith in e) ∙ ap entries (sym (left ∙ drop-drop 1 at s.left)));
  spare = spare;
}

pub reads_gap : (key : Key) (s t : Rewriting) (at : ℕ) → EndsAt (λ k. key_cmp k key) (entries s.left) (Err at)
    → t.written ≡ s.written ++ take at s.left → t.left ≡ drop at s.left → s.spare ≤ t.spare → ReadsTo key s t
reads_gap key s t at ends written left spare = record {
  passed = take at s.left;
  written = written;
  below = subst (AllByRecursion (λ (e : Entry). key_cmp e.0 key ≡ Less)) (take-map entry at s.left) (below_gap key (entries s.left) at ends);
  rest = λ o.
      with_gap key o (entries s.left) at ends
      ∙ ap (λ rs. rs ++ with_first key o (drop at (entries s.left))) (take-map entry at s.left)
      ∙ ap (λ rs. entries (take at s.left) ++ with_first key o rs) (drop-map entry at s.left ∙ ap entries (sym left));
  spare = spare;
}

-- ---- one change

upto_less : (key : Key) (rows : Rows) → AllByRecursion (λ (e : Entry). key_cmp e.0 key ≡ Less) rows → AllByRecursion (λ (e : Entry). is_le (key_cmp e.0 key) ≡ true) rows
upto_less key [] h = tt
upto_less key (e ∷ rows) h = (ap is_le h.0, upto_less key rows h.1)

upto_more : (key : Key) (rows others : Rows) → AllByRecursion (λ (e : Entry). is_le (key_cmp e.0 key) ≡ true) rows → AllByRecursion (λ (e : Entry). is_le (key_cmp e.0 key) ≡ true) others → AllByRecursion (λ (e : Entry). is_le (key_cmp e.0 key) ≡ true) (rows ++ others)
upto_more key [] others h g = g
upto_more key (e ∷ rows) others h g = (h.0, upto_more key rows others h.1 g)

pub makes_removal : (key : Key) (s t : Rewriting) → ReadsTo key s t → Makes (key, None) s t
makes_removal key s t r = record {
  passed = r.passed;
  written = r.written;
  upto = upto_less key (entries r.passed) r.below;
  rest = r.rest None;
  spare = (let more = r.spare in omega arith);
}

pub makes_writing : (row : Row) (s m t : Rewriting) → ReadsTo (entry row).0 s m → t.written ≡ m.written ++ row ∷ [] → t.left ≡ m.left → m.spare ≤ t.spare + 1 → Makes ((entry row).0, Some (stored row.1)) s t
makes_writing row s m t r written left spare = record {
  passed = r.passed ++ row ∷ [];
  written = written ∙ ap (λ ws. ws ++ row ∷ []) r.written ∙ append_assoc s.written r.passed (row ∷ []);
  upto = subst (AllByRecursion (λ (e : Entry). is_le (key_cmp e.0 (entry row).0) ≡ true)) (sym more)
      (upto_more (entry row).0 (entries r.passed) (entry row ∷ []) (upto_less (entry row).0 (entries r.passed) r.below) (ap is_le (tied_itself key_total (entry row).0), tt));
  rest = r.rest (Some (stored row.1))
      ∙ ap (λ ls. entries r.passed ++ entry row ∷ entries ls) (sym left)
      ∙ sym (append_assoc (entries r.passed) (entry row ∷ []) (entries t.left))
      ∙ ap (λ rs. rs ++ entries t.left) (sym more);
  spare = (let kept = r.spare in omega (arith, kept, spare));
} where
  more : entries (r.passed ++ row ∷ []) ≡ entries r.passed ++ entry row ∷ []
  more = map-append entry r.passed (row ∷ [])

-- ---- all changes

-- what the edits that are left make of the rows that are left stands behind what was written
pub made_more : (edit : Edit) (es : List Edit) (s t : Rewriting) → is_sorted key_cmp (edit ∷ es) ≡ true → Makes edit s t
    → entries t.written ++ edited es (entries t.left) ≡ entries s.written ++ edited (edit ∷ es) (entries s.left)
made_more edit es s t up m =
    ap (λ ws. entries ws ++ edited es (entries t.left)) m.written
    ∙ ap (λ ws. ws ++ edited es (entries t.left)) (map-append entry s.written m.passed)
    ∙ append_assoc (entries s.written) (entries m.passed) (edited es (entries t.left))
    ∙ sym (ap (λ rs. entries s.written ++ rs) (past_all edit.0 es (entries m.passed) (entries t.left) (and_parts (below_all key_cmp edit.0 es) (is_sorted key_cmp es) up).0 m.upto))
    ∙ sym (ap (λ rs. entries s.written ++ edited es rs) m.rest)

-- the rows that are left rise
pub rising_more : (edit : Edit) (s t : Rewriting) → IsTrue (are_rising (entries s.left)) → Makes edit s t → IsTrue (are_rising (entries t.left))
rising_more edit s t h m = last_rising (entries m.passed) (entries t.left) (sym (ap are_rising m.rest) ∙ rising_with edit.0 edit.1 (entries s.left) h)

pub sorted_more : (edit : Edit) (es : List Edit) → is_sorted key_cmp (edit ∷ es) ≡ true → is_sorted key_cmp es ≡ true
sorted_more edit es up = (and_parts (below_all key_cmp edit.0 es) (is_sorted key_cmp es) up).1
