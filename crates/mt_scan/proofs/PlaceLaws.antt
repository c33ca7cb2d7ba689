-- A unit parts the keys that are not behind its place into its own and those that are not behind it.
use Rattle.std.proofs.Common.{◌≡◌, ℕ, Bool, true, false, not, ◌&&◌, ◌||◌, cond, List, [], ◌∷◌, Option, Some, None, refl, sym, ap, subst, ◌∙◌, inl, inr, bytes_eq, Less, Equal, Greater, Ordering}
use Rattle.std.specs.Prelude.{IfSome}
use Rattle.std.proofs.lemmas.Bool.{and_parts}
use Rattle.std.specs.Ordering.{nat_cmp, is_lt, is_le, is_eq, ordering_then, ordering_reverse}
use Rattle.std.specs.Cmp.{tied_itself}
use Rattle.std.specs.Cmp.Lexicographic.{slice_cmp, nat_list_cmp_total, texts_ties}
use Rattle.mt_model.specs.declared.key.Key.{Key}
use Rattle.mt_model.specs.Key.{key_cmp}
use Rattle.mt_match.specs.declared.bounds.Bounds.{Bounds}
use Rattle.mt_match.specs.Bounds.{IsWithin}
use Rattle.mt_chain.specs.declared.query.PkFrom.{PkFrom}
use Rattle.mt_chain.specs.declared.query.PkFrom.TheVariants as part
use Rattle.mt_chain.specs.Rows.{key_at, is_from, is_upto, is_past}
use Rattle.mt_chain.proofs.KeyLaws.{key_total, key_ties, text_true}
use Rattle.mt_chain.proofs.OrderLaws.{key_less, lt_less, past_climbs}
use Rattle.mt_chain.proofs.TextOrder.{text_cmp, not_le}
use Rattle.mt_history.specs.Legal.{is_short_of}
use Rattle.mt_scan.specs.declared.unit.Unit.{Unit as PageUnit}
use Rattle.mt_scan.specs.declared.unit.Unit.TheVariants.{Scan, Gap}
use Rattle.mt_scan.specs.declared.unit.Place.{Place}
use Rattle.mt_scan.specs.declared.unit.Place.TheVariants as at
use Rattle.mt_scan.specs.declared.unit.Token.{Token}
use Rattle.mt_scan.specs.Units.{from_row, after_scan, after_gap, after_unit, place_of, token_of, IsNext}
use Rattle.mt_scan.specs.Pages.{is_behind}
use Rattle.mt_scan.specs.Streams.{in_unit}
use Rattle.mt_scan.proofs.FitLaws.{less_le}

-- a key that is less than one behind is behind
abbrev pub Downward : (Key → Bool) → Type 0
Downward m = (x y : Key) → key_cmp x y ≡ Less → m y ≡ true → m x ≡ true

-- a unit parts the keys within the bounds that are not behind
pub record Cut (bounds : Bounds) (a : Key → Bool) (unit : PageUnit) (m : Key → Bool) : Type 0 where
  pub parts : (key : Key) → IsWithin bounds key → not (a key) ≡ (in_unit unit key || not (m key))
  pub apart : (key : Key) → IsWithin bounds key → in_unit unit key ≡ true → m key ≡ true

-- ---- what lies behind a place

-- partitions of keys that rise do not fall
part_le : (x y : Key) (pk : List ℕ) → key_cmp x y ≡ Less → is_lt (text_cmp y.pk pk) ≡ true → is_lt (text_cmp x.pk pk) ≡ true
part_le x y pk less h = elim (key_less x y less) as (λ _. is_lt (text_cmp x.pk pk) ≡ true) [
  | inl below ↦ ap is_lt (nat_list_cmp_total.trans x.pk y.pk pk below (lt_less _ h))
  | inr same ↦ subst (λ p. is_lt (text_cmp p pk) ≡ true) (sym same.0) h
]

not_past_before : (from : PkFrom) (x y : Key) → key_cmp x y ≡ Less → not (is_past from y.pk) ≡ true → not (is_past from x.pk) ≡ true
not_past_before from x y less h = elim (key_less x y less) as (λ _. not (is_past from x.pk) ≡ true) [
  | inl below ↦ by (is_past from x.pk) refl below
  | inr same ↦ subst (λ p. not (is_past from p) ≡ true) (sym same.0) h
] where
  by : (t : Bool) → is_past from x.pk ≡ t → text_cmp x.pk y.pk ≡ Less → not t ≡ true
  by false e below = refl
  by true e below = (let up = past_climbs from x.pk y.pk below e in let no : not (is_past from y.pk) ≡ false = ap not up in absurd (let z : true ≡ false = sym h ∙ no in cc))

pub downward : (place : Place) → Downward (is_behind place)
downward (at.Rows pk (Some rk)) x y less h = ap is_le (less_le_key x y (key_at pk rk) less h) where
  less_le_key : (a b c : Key) → key_cmp a b ≡ Less → is_le (key_cmp b c) ≡ true → key_cmp a c ≡ Less
  less_le_key a b c less le = go (key_cmp b c) refl le where
    go : (o : Ordering) → key_cmp b c ≡ o → is_le o ≡ true → key_cmp a c ≡ Less
    go Less e h = key_total.trans a b c less e
    go Equal e h = subst (λ k. key_cmp a k ≡ Less) (key_ties b c e) less
    go Greater e h = absurd (let z = h in cc)
downward (at.Rows pk None) x y less h = part_le x y pk less h
downward (at.Parts from) x y less h = not_past_before from x y less h
downward at.End x y less h = refl

-- ---- keys by their partition, and in this one by a test

-- those before it are behind, those past it are not
record Lexi (pk : List ℕ) (f : List ℕ → Bool) (a : Key → Bool) : Type 0 where
  pub less : (key : Key) → text_cmp key.pk pk ≡ Less → a key ≡ true
  pub equal : (key : Key) → key.pk ≡ pk → a key ≡ f key.rk
  pub greater : (key : Key) → text_cmp key.pk pk ≡ Greater → a key ≡ false

-- behind a row, or behind the start
abbrev row_behind : Option (List ℕ) → List ℕ → Bool
row_behind None r = false
row_behind (Some rk) r = is_le (text_cmp r rk)

turned : (a b : List ℕ) (o : Ordering) → text_cmp a b ≡ o → text_cmp b a ≡ ordering_reverse o
turned a b o e = nat_list_cmp_total.antisymm b a ∙ ap ordering_reverse e

itself : (a : List ℕ) → text_cmp a a ≡ Equal
itself a = tied_itself nat_list_cmp_total a

rows_lexi : (pk : List ℕ) (row : Option (List ℕ)) → Lexi pk (row_behind row) (is_behind (at.Rows pk row))
rows_lexi pk None = record {
  less = λ key e. ap is_lt e;
  equal = λ key e. ap (λ p. is_lt (text_cmp p pk)) e ∙ ap is_lt (itself pk);
  greater = λ key e. ap is_lt e;
}
rows_lexi pk (Some rk) = record {
  less = λ key e. ap (λ o. is_le (ordering_then o (text_cmp key.rk rk))) e;
  equal = λ key e. ap (λ p. is_le (ordering_then (text_cmp p pk) (text_cmp key.rk rk))) e ∙ ap (λ o. is_le (ordering_then o (text_cmp key.rk rk))) (itself pk);
  greater = λ key e. ap (λ o. is_le (ordering_then o (text_cmp key.rk rk))) e;
}

abbrev all_behind : List ℕ → Bool
all_behind r = true

after_lexi : (pk : List ℕ) → Lexi pk all_behind (is_behind (at.Parts (part.After pk)))
after_lexi pk = record {
  less = λ key e. ap (λ o. not (is_lt o)) (turned key.pk pk Less e);
  equal = λ key e. ap (λ p. not (is_lt (text_cmp pk p))) e ∙ ap (λ o. not (is_lt o)) (itself pk);
  greater = λ key e. ap (λ o. not (is_lt o)) (turned key.pk pk Greater e);
}

module _ (pk : List ℕ) (f g w : List ℕ → Bool) (a m : Key → Bool) (la : Lexi pk f a) (lm : Lexi pk g m) (parts : (r : List ℕ) → not (f r) ≡ (w r || not (g r))) (apart : (r : List ℕ) → w r ≡ true → g r ≡ true) where
  lexi_parts : (key : Key) → not (a key) ≡ ((bytes_eq pk key.pk && w key.rk) || not (m key))
  lexi_parts key = go (text_cmp key.pk pk) refl where
    here : (o : Ordering) → text_cmp key.pk pk ≡ o → bytes_eq pk key.pk ≡ is_eq (ordering_reverse o)
    here o e = texts_ties pk key.pk ∙ ap is_eq (turned key.pk pk o e)

    go : (o : Ordering) → text_cmp key.pk pk ≡ o → not (a key) ≡ ((bytes_eq pk key.pk && w key.rk) || not (m key))
    go Less e = ap not (la.less key e) ∙ sym (ap (λ t. (t && w key.rk) || not (m key)) (here Less e) ∙ ap not (lm.less key e))
    go Equal e =
        let same : key.pk ≡ pk = text_true key.pk pk (texts_ties key.pk pk ∙ ap is_eq e) in
        ap not (la.equal key same) ∙ parts key.rk ∙ sym (ap (λ t. (t && w key.rk) || not (m key)) (here Equal e) ∙ ap (λ t. w key.rk || not t) (lm.equal key same))
    go Greater e = ap not (la.greater key e) ∙ sym (ap (λ t. (t && w key.rk) || not (m key)) (here Greater e) ∙ ap not (lm.greater key e))

  lexi_apart : (key : Key) → (bytes_eq pk key.pk && w key.rk) ≡ true → m key ≡ true
  lexi_apart key h =
      let both = and_parts (bytes_eq pk key.pk) (w key.rk) h in
      lm.equal key (sym (text_true pk key.pk both.0)) ∙ apart key.rk both.1

-- ---- a scan

and_true : (x : Bool) → x ≡ ((x && true) || false)
and_true true = refl
and_true false = refl

all_parts : (y : Bool) → true ≡ ((true && y) || not y)
all_parts true = refl
all_parts false = refl

past_is : (rk r : List ℕ) → not (is_le (text_cmp r rk)) ≡ is_lt (text_cmp rk r)
past_is rk r = go (text_cmp r rk) refl where
  go : (o : Ordering) → text_cmp r rk ≡ o → not (is_le o) ≡ is_lt (text_cmp rk r)
  go Less e = sym (ap is_lt (turned r rk Less e))
  go Equal e = sym (ap is_lt (turned r rk Equal e))
  go Greater e = sym (ap is_lt (turned r rk Greater e))

row_parts : (rk end r : List ℕ) → is_lt (text_cmp rk end) ≡ true → not (is_le (text_cmp r rk)) ≡ ((is_lt (text_cmp rk r) && is_le (text_cmp r end)) || not (is_le (text_cmp r end)))
row_parts rk end r h = past_is rk r ∙ by (is_le (text_cmp r end)) refl where
  by : (t : Bool) → is_le (text_cmp r end) ≡ t → is_lt (text_cmp rk r) ≡ ((is_lt (text_cmp rk r) && t) || not t)
  by true e = and_true (is_lt (text_cmp rk r))
  by false e = (let above : is_lt (text_cmp rk r) ≡ true = ap is_lt (nat_list_cmp_total.trans rk end r (lt_less _ h) (not_le r end e)) in ap (λ x. x) above ∙ sym (or_true (is_lt (text_cmp rk r) && false))) where
    or_true : (x : Bool) → (x || true) ≡ true
    or_true true = refl
    or_true false = refl

-- the rows of a scan
abbrev rows_in : Option (List ℕ) → Option (List ℕ) → List ℕ → Bool
rows_in row upto r = is_from (from_row row) r && is_upto upto r

scan_parts : (row : Option (List ℕ)) (end r : List ℕ) → is_from (from_row row) end ≡ true → not (row_behind row r) ≡ (rows_in row (Some end) r || not (row_behind (Some end) r))
scan_parts None end r h = all_parts (is_le (text_cmp r end))
scan_parts (Some rk) end r h = row_parts rk end r h

scan_rest : (row : Option (List ℕ)) (r : List ℕ) → not (row_behind row r) ≡ (rows_in row None r || not (all_behind r))
scan_rest None r = refl
scan_rest (Some rk) r = past_is rk r ∙ and_true (is_lt (text_cmp rk r))

scan_cut : (bounds : Bounds) (pk : List ℕ) (row upto : Option (List ℕ)) → IfSome upto (λ end. is_from (from_row row) end ≡ true) → Cut bounds (is_behind (at.Rows pk row)) (Scan pk (from_row row) upto) (is_behind (after_scan pk upto))
scan_cut bounds pk row None h = record {
  parts = λ key within. lexi_parts pk (row_behind row) all_behind (rows_in row None) (is_behind (at.Rows pk row)) (is_behind (at.Parts (part.After pk))) (rows_lexi pk row) (after_lexi pk) (λ r. scan_rest row r) (λ r w. refl) key;
  apart = λ key within. lexi_apart pk (row_behind row) all_behind (rows_in row None) (is_behind (at.Rows pk row)) (is_behind (at.Parts (part.After pk))) (rows_lexi pk row) (after_lexi pk) (λ r. scan_rest row r) (λ r w. refl) key;
}
scan_cut bounds pk row (Some end) h = record {
  parts = λ key within. lexi_parts pk (row_behind row) (row_behind (Some end)) (rows_in row (Some end)) (is_behind (at.Rows pk row)) (is_behind (at.Rows pk (Some end))) (rows_lexi pk row) (rows_lexi pk (Some end)) (λ r. scan_parts row end r h) (λ r w. (and_parts (is_from (from_row row) r) (is_le (text_cmp r end)) w).1) key;
  apart = λ key within. lexi_apart pk (row_behind row) (row_behind (Some end)) (rows_in row (Some end)) (is_behind (at.Rows pk row)) (is_behind (at.Rows pk (Some end))) (rows_lexi pk row) (rows_lexi pk (Some end)) (λ r. scan_parts row end r h) (λ r w. (and_parts (is_from (from_row row) r) (is_le (text_cmp r end)) w).1) key;
}

-- ---- a gap

not_not : (x : Bool) → not (not x) ≡ x
not_not true = refl
not_not false = refl

gap_parts : (from : PkFrom) (pk k : List ℕ) → is_past from pk ≡ true → not (not (is_past from k)) ≡ ((is_past from k && is_lt (text_cmp k pk)) || not (is_lt (text_cmp k pk)))
gap_parts from pk k h = not_not (is_past from k) ∙ by (is_lt (text_cmp k pk)) refl where
  climbed : (o : Ordering) → text_cmp pk k ≡ o → is_lt (ordering_reverse o) ≡ false → is_past from k ≡ true
  climbed Less e x = past_climbs from pk k e h
  climbed Equal e x = subst (λ p. is_past from p ≡ true) (text_true pk k (texts_ties pk k ∙ ap is_eq e)) h
  climbed Greater e x = absurd (let z = x in cc)

  by : (t : Bool) → is_lt (text_cmp k pk) ≡ t → is_past from k ≡ ((is_past from k && t) || not t)
  by true e = and_true (is_past from k)
  by false e = (let past = climbed (text_cmp pk k) refl (sym (ap is_lt (turned pk k (text_cmp pk k) refl)) ∙ e) in rw past refl)

below_high : (high : Option (List ℕ)) (k pk : List ℕ) → IfSome high (λ h. is_le (text_cmp k h) ≡ true) → is_upto high pk ≡ false → is_lt (text_cmp k pk) ≡ true
below_high None k pk h e = absurd (let z = e in cc)
below_high (Some high) k pk h e = ap is_lt (le_less k high pk h (not_le pk high e)) where
  le_less : (a b c : List ℕ) → is_le (text_cmp a b) ≡ true → text_cmp b c ≡ Less → text_cmp a c ≡ Less
  le_less a b c le less = go (text_cmp a b) refl le where
    go : (o : Ordering) → text_cmp a b ≡ o → is_le o ≡ true → text_cmp a c ≡ Less
    go Less e h = nat_list_cmp_total.trans a b c e less
    go Equal e h = subst (λ x. text_cmp x c ≡ Less) (sym (text_true a b (texts_ties a b ∙ ap is_eq e))) less
    go Greater e h = absurd (let z = h in cc)

gap_cut : (bounds : Bounds) (from : PkFrom) (to : Option (List ℕ)) → IfSome to (λ pk. is_past from pk ≡ true) → Cut bounds (is_behind (at.Parts from)) (Gap from to) (is_behind (after_gap bounds to))
gap_cut bounds from None h = record { parts = λ key within. not_not (is_past from key.pk) ∙ and_true (is_past from key.pk); apart = λ key within w. refl }
gap_cut bounds from (Some pk) h = by (is_upto bounds.pk_high pk) refl where
  by : (t : Bool) → is_upto bounds.pk_high pk ≡ t → Cut bounds (is_behind (at.Parts from)) (Gap from (Some pk)) (is_behind (cond t (at.Rows pk None) at.End))
  by true e = record { parts = λ key within. gap_parts from pk key.pk h; apart = λ key within w. (and_parts (is_past from key.pk) (is_lt (text_cmp key.pk pk)) w).1 }
  by false e = record {
    parts = λ key within. (
        let short = below_high bounds.pk_high key.pk pk within.pk_high e in
        not_not (is_past from key.pk) ∙ and_true (is_past from key.pk) ∙ ap (λ t. (is_past from key.pk && t) || false) (sym short));
    apart = λ key within w. refl;
  }

-- ---- units and tokens

-- the unit that comes next at a place parts the keys that are not behind it
pub unit_cut : (bounds : Bounds) (place : Place) (unit : PageUnit) → IsNext place unit → Cut bounds (is_behind place) unit (is_behind (after_unit bounds unit))
unit_cut bounds (at.Rows p row) (Scan pk from upto) n =
    subst (λ f. Cut bounds (is_behind (at.Rows p row)) (Scan pk f upto) (is_behind (after_scan pk upto))) (sym n.1)
    (subst (λ x. Cut bounds (is_behind (at.Rows x row)) (Scan pk (from_row row) upto) (is_behind (after_scan pk upto))) n.0
    (scan_cut bounds pk row upto (subst (λ f. IfSome upto (λ end. is_from f end ≡ true)) n.1 n.2)))
unit_cut bounds (at.Rows p row) (Gap from to) n = absurd n
unit_cut bounds (at.Parts start) (Scan pk from upto) n = absurd n
unit_cut bounds (at.Parts start) (Gap from to) n = subst (λ f. Cut bounds (is_behind (at.Parts f)) (Gap from to) (is_behind (after_gap bounds to))) n.0 (gap_cut bounds from to n.1)
unit_cut bounds at.End (Scan pk from upto) n = absurd n
unit_cut bounds at.End (Gap from to) n = absurd n

-- the same keys lie behind the place of a token
pub token_behind_is : (bounds : Bounds) (place : Place) (t : Token) → token_of place ≡ Some t → (key : Key) → is_behind place key ≡ is_behind (place_of bounds (Some t)) key
token_behind_is bounds (at.Rows pk (Some rk)) t e key = ap (λ o. is_behind (place_of bounds o) key) e
token_behind_is bounds (at.Rows pk None) t e key = from_start ∙ ap (λ o. is_behind (place_of bounds o) key) e where
  from_start : is_lt (text_cmp key.pk pk) ≡ not (is_le (text_cmp pk key.pk))
  from_start = go (text_cmp key.pk pk) refl where
    go : (o : Ordering) → text_cmp key.pk pk ≡ o → is_lt o ≡ not (is_le (text_cmp pk key.pk))
    go Less e = sym (ap (λ o. not (is_le o)) (turned key.pk pk Less e))
    go Equal e = sym (ap (λ o. not (is_le o)) (turned key.pk pk Equal e))
    go Greater e = sym (ap (λ o. not (is_le o)) (turned key.pk pk Greater e))
token_behind_is bounds (at.Parts from) t e key = ap (λ o. is_behind (place_of bounds o) key) e
token_behind_is bounds at.End t e key = absurd (let z = e in cc)

pub end_behind : (place : Place) → token_of place ≡ None → (key : Key) → is_behind place key ≡ true
end_behind (at.Rows pk (Some rk)) e key = absurd (let z = e in cc)
end_behind (at.Rows pk None) e key = absurd (let z = e in cc)
end_behind (at.Parts from) e key = absurd (let z = e in cc)
end_behind at.End e key = refl

-- at the start no key within the bounds lies behind
pub start_before : (bounds : Bounds) (key : Key) → IsWithin bounds key → is_behind (place_of bounds None) key ≡ false
start_before bounds key within = ap not within.pk_low
