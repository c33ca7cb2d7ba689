-- Tests of keys that pass below a place and fail from it on.
use Rattle.std.proofs.Common.{◌≡◌, ◌⊎◌, ℕ, ◌≤◌, Bool, true, false, not, ◌&&◌, ◌||◌, List, refl, sym, ap, ◌∙◌, subst, inl, inr, arith, bytes_eq, Some, None, Option, Less, Equal, Greater, Ordering}
use Rattle.std.proofs.lemmas.Bool.{and_parts, or_cases, not-true}
use Rattle.std.specs.Ordering.{is_lt, is_le, is_eq, ordering_then, ordering_index, ordering_reverse}
use Rattle.std.specs.Cmp.{alike_right}
use Rattle.std.specs.Cmp.Lexicographic.{nat_list_cmp_total, nat_list_eq_equiv, texts_ties}
use Rattle.mt_model.specs.declared.key.Key.{Key}
use Rattle.mt_model.specs.Key.{key_cmp}
use Rattle.mt_chain.specs.declared.query.RkFrom.{RkFrom}
use Rattle.mt_chain.specs.declared.query.RkFrom.TheVariants as place
use Rattle.mt_chain.specs.declared.query.PkFrom.{PkFrom}
use Rattle.mt_chain.specs.declared.query.PkFrom.TheVariants as start
use Rattle.mt_chain.specs.declared.query.Range.{Range}
use Rattle.mt_chain.specs.Rows.{is_from, is_upto, is_within, is_past}
use Rattle.mt_chain.specs.Places.{is_before, is_not_past, is_passed}
use Rattle.mt_chain.proofs.KeyLaws.{key_total, text_true}
use Rattle.mt_chain.proofs.TextOrder.{text_cmp, or_left, or_right}
use Rattle.mt_chain.proofs.Searches.{climbs}

pub lt_less : (o : Ordering) → is_lt o ≡ true → o ≡ Less
lt_less Less e = refl
lt_less Equal e = absurd cc
lt_less Greater e = absurd cc

pub eq_equal : (o : Ordering) → is_eq o ≡ true → o ≡ Equal
eq_equal Less e = absurd cc
eq_equal Equal e = refl
eq_equal Greater e = absurd cc

pub reversed : (x y : Key) (o : Ordering) → key_cmp x y ≡ o → key_cmp y x ≡ ordering_reverse o
reversed x y o e = key_total.antisymm y x ∙ ap ordering_reverse e

-- ---- texts

lt_on : (a b c : List ℕ) → is_lt (text_cmp a b) ≡ true → text_cmp b c ≡ Less → is_lt (text_cmp a c) ≡ true
lt_on a b c p q = ap is_lt (nat_list_cmp_total.trans a b c (lt_less _ p) q)

le_on : (a b c : List ℕ) → is_le (text_cmp a b) ≡ true → text_cmp b c ≡ Less → is_le (text_cmp a c) ≡ true
le_on a b c p q = go (text_cmp a b) refl p where
  go : (o : Ordering) → text_cmp a b ≡ o → is_le o ≡ true → is_le (text_cmp a c) ≡ true
  go Less e p = ap is_le (nat_list_cmp_total.trans a b c e q)
  go Equal e p = ap is_le (nat_list_cmp_total.congr a b c e ∙ q)
  go Greater e p = absurd cc

on_le : (a b c : List ℕ) → text_cmp a b ≡ Less → is_le (text_cmp b c) ≡ true → is_le (text_cmp a c) ≡ true
on_le a b c q p = go (text_cmp b c) refl p where
  go : (o : Ordering) → text_cmp b c ≡ o → is_le o ≡ true → is_le (text_cmp a c) ≡ true
  go Less e p = ap is_le (nat_list_cmp_total.trans a b c q e)
  go Equal e p = ap is_le (sym (alike_right nat_list_cmp_total b c a e) ∙ q)
  go Greater e p = absurd cc

-- a test of texts that goes on downwards
abbrev pub Falls : (List ℕ → Bool) → Type 0
Falls test = (a b : List ℕ) → text_cmp a b ≡ Less → test b ≡ true → test a ≡ true

-- a test of texts that goes on upwards
abbrev pub Climbs : (List ℕ → Bool) → Type 0
Climbs test = (a b : List ℕ) → text_cmp a b ≡ Less → test a ≡ true → test b ≡ true

turned : (test : List ℕ → Bool) → Climbs test → Falls (λ a. not (test a))
turned test climbs a b l e = go (test a) refl where
  go : (x : Bool) → test a ≡ x → not x ≡ true
  go false ex = refl
  go true ex = (let up = climbs a b l ex in let down = not-true (test b) e in absurd cc)

from_climbs : (from : RkFrom) → Climbs (is_from from)
from_climbs place.Start a b l e = refl
from_climbs (place.From low) a b l e = le_on low a b e l
from_climbs (place.After low) a b l e = lt_on low a b e l

upto_falls : (upto : Option (List ℕ)) → Falls (is_upto upto)
upto_falls None a b l e = refl
upto_falls (Some high) a b l e = on_le a b high l e

pub past_climbs : (at : PkFrom) → Climbs (is_past at)
past_climbs (start.From low) a b l e = le_on low a b e l
past_climbs (start.After low) a b l e = lt_on low a b e l

-- ---- keys

-- a test of keys that goes on downwards
abbrev pub FallsByKey : (Key → Bool) → Type 0
FallsByKey test = (x y : Key) → key_cmp x y ≡ Less → test y ≡ true → test x ≡ true

-- a key is less by its partition, or in its partition
pub key_less : (x y : Key) → key_cmp x y ≡ Less → (text_cmp x.pk y.pk ≡ Less) ⊎ ((x.pk ≡ y.pk) × (text_cmp x.rk y.rk ≡ Less))
key_less x y h = go (text_cmp x.pk y.pk) refl h where
  go : (o : Ordering) → text_cmp x.pk y.pk ≡ o → ordering_then o (text_cmp x.rk y.rk) ≡ Less → (text_cmp x.pk y.pk ≡ Less) ⊎ ((x.pk ≡ y.pk) × (text_cmp x.rk y.rk ≡ Less))
  go Less e h = inl e
  go Equal e h = inr (text_true x.pk y.pk (texts_ties x.pk y.pk ∙ ap is_eq e), h)
  go Greater e h = absurd cc

-- the key lies before a partition, or in it where the test passes
abbrev in_order : List ℕ → (List ℕ → Bool) → Key → Bool
in_order pk test key = is_lt (text_cmp key.pk pk) || (bytes_eq key.pk pk && test key.rk)

ordered_falls : (pk : List ℕ) (test : List ℕ → Bool) → Falls test → FallsByKey (in_order pk test)
ordered_falls pk test falls x y l h = elim (or_cases (is_lt (text_cmp y.pk pk)) (bytes_eq y.pk pk && test y.rk) h) as (λ _. in_order pk test x ≡ true) [
  | inl before ↦ or_left _ _ (elim (key_less x y l) as (λ _. is_lt (text_cmp x.pk pk) ≡ true) [
    | inl less ↦ ap is_lt (nat_list_cmp_total.trans x.pk y.pk pk less (lt_less _ before))
    | inr same ↦ subst (λ a. is_lt (text_cmp a pk) ≡ true) (sym same.0) before
  ])
  | inr here ↦ (let parts = and_parts (bytes_eq y.pk pk) (test y.rk) here in elim (key_less x y l) as (λ _. in_order pk test x ≡ true) [
    | inl less ↦ or_left _ _ (ap is_lt (subst (λ a. text_cmp x.pk a ≡ Less) (text_true y.pk pk parts.0) less))
    | inr same ↦ or_right _ _ (ap (λ t. t && test x.rk) (subst (λ a. bytes_eq a pk ≡ true) (sym same.0) parts.0) ∙ falls x.rk y.rk same.1 parts.1)
  ])
]

pub before_falls : (pk : List ℕ) (from : RkFrom) → FallsByKey (is_before pk from)
before_falls pk from = ordered_falls pk (λ rk. not (is_from from rk)) (turned (is_from from) (from_climbs from))

pub not_past_falls : (pk : List ℕ) (upto : Option (List ℕ)) → FallsByKey (is_not_past pk upto)
not_past_falls pk upto = ordered_falls pk (is_upto upto) (upto_falls upto)

pub passed_falls : (at : PkFrom) → FallsByKey (is_passed at)
passed_falls at x y l h = elim (key_less x y l) as (λ _. is_passed at x ≡ true) [
  | inl less ↦ turned (is_past at) (past_climbs at) x.pk y.pk less h
  | inr same ↦ subst (λ a. not (is_past at a) ≡ true) (sym same.0) h
]

-- a key lies in a range of a partition where it is neither before it nor past it
pub in_range : (pk : List ℕ) (range : Range) (key : Key) → (bytes_eq pk key.pk && is_within range key.rk) ≡ (not (is_before pk range.from key) && is_not_past pk range.upto key)
in_range pk range key = go (text_cmp key.pk pk) refl where
  eq_is : (o : Ordering) → text_cmp key.pk pk ≡ o → bytes_eq key.pk pk ≡ is_eq o
  eq_is o e = texts_ties key.pk pk ∙ ap is_eq e

  flipped : (o : Ordering) → text_cmp key.pk pk ≡ o → bytes_eq pk key.pk ≡ is_eq o
  flipped o e = nat_list_eq_equiv.symm pk key.pk ∙ eq_is o e

  twice : (a b : Bool) → (a && b) ≡ (not (not a) && b)
  twice true b = refl
  twice false b = refl

  go : (o : Ordering) → text_cmp key.pk pk ≡ o → (bytes_eq pk key.pk && is_within range key.rk) ≡ (not (is_before pk range.from key) && is_not_past pk range.upto key)
  go Less e = ap (λ t. t && is_within range key.rk) (flipped Less e)
      ∙ sym (ap (λ t. not (is_lt t || (bytes_eq key.pk pk && not (is_from range.from key.rk))) && is_not_past pk range.upto key) e)
  go Equal e = ap (λ t. t && is_within range key.rk) (flipped Equal e)
      ∙ twice (is_from range.from key.rk) (is_upto range.upto key.rk)
      ∙ sym (ap (λ t. not (is_lt t || (bytes_eq key.pk pk && not (is_from range.from key.rk))) && (is_lt t || (bytes_eq key.pk pk && is_upto range.upto key.rk))) e
      ∙ ap (λ t. not (t && not (is_from range.from key.rk)) && (t && is_upto range.upto key.rk)) (eq_is Equal e))
  go Greater e = ap (λ t. t && is_within range key.rk) (flipped Greater e)
      ∙ sym (ap (λ t. not (is_lt t || (bytes_eq key.pk pk && not (is_from range.from key.rk))) && (is_lt t || (bytes_eq key.pk pk && is_upto range.upto key.rk))) e
      ∙ ap (λ t. not (t && not (is_from range.from key.rk)) && (t && is_upto range.upto key.rk)) (eq_is Greater e))

-- ---- orders that rise along the keys, by which a search may go

abbrev pub RisesByKey : (Key → Ordering) → Type 0
RisesByKey ord = (x y : Key) → key_cmp x y ≡ Less → ordering_index (ord x) ≤ ordering_index (ord y)

pub key_rises : (key : Key) → RisesByKey (λ x. key_cmp x key)
key_rises key x y less = climbs key_total (λ k. k) key x y less

pub partition_rises : (pk : List ℕ) → RisesByKey (λ x. text_cmp x.pk pk)
partition_rises pk x y l = elim (key_less x y l) as (λ _. ordering_index (text_cmp x.pk pk) ≤ ordering_index (text_cmp y.pk pk)) [
  | inl less ↦ climbs nat_list_cmp_total (λ a. a) pk x.pk y.pk less
  | inr same ↦ (let e = ap (λ a. ordering_index (text_cmp a pk)) same.0 in omega (arith, e))
]
