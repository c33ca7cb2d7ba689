-- The bounds that a filter gives for keys.
use Rattle.std.specs.Prelude.{◌≡◌, ℕ, Bool, true, false, IsTrue, List, [], ◌∷◌, Option, Some, None, IfSome, if◌then◌else◌}
use Rattle.std.specs.List.{All, Contains, filter_map}
use Rattle.std.specs.Ordering.{nat_cmp, is_le}
use Rattle.std.specs.Cmp.Lexicographic.{slice_cmp}
use Rattle.mt_model.specs.declared.key.Key.{Key}
use Rattle.mt_model.specs.declared.key.KeyPart.{KeyPart}
use Rattle.mt_model.specs.declared.key.KeyPart.TheVariants.{Partition, Row}
use Rattle.mt_model.specs.declared.value.Value.{Value}
use Rattle.mt_model.specs.declared.value.Value.TheVariants.{Str}
use Rattle.mt_filter.specs.declared.filter.Compare.{Compare}
use Rattle.mt_filter.specs.declared.filter.Compare.TheVariants.{Eq, Gt, Ge, Lt, Le}
use Rattle.mt_filter.specs.declared.filter.Field.{Field}
use Rattle.mt_filter.specs.declared.filter.Field.TheVariants.{PartitionKey, RowKey}
use Rattle.mt_filter.specs.Tree.{Tree, test}
use Rattle.mt_match.specs.Partition.{conjuncts}
use Rattle.mt_match.specs.declared.bounds.Bounds.{Bounds}

-- the one text is equal to the other or below it, by their bytes
abbrev pub IsAtMost : List ℕ → List ℕ → Type 0
IsAtMost a b = IsTrue (is_le (slice_cmp nat_cmp a b))

-- the literal of a test of that part of the key, where it is a text
abbrev pub key_text : KeyPart → Field → Value → Option (List ℕ)
key_text Partition PartitionKey (Str text) = Some text
key_text Row RowKey (Str text) = Some text
key_text _ _ _ = None

-- eq, ge and gt: nothing below the literal passes
abbrev pub bounds_below : Compare → Bool
bounds_below Eq = true
bounds_below Ge = true
bounds_below Gt = true
bounds_below _ = false

-- eq, le and lt: nothing above the literal passes
abbrev pub bounds_above : Compare → Bool
bounds_above Eq = true
bounds_above Le = true
bounds_above Lt = true
bounds_above _ = false

-- the text below which a conjunct leaves nothing
abbrev pub low_text : KeyPart → Tree → Option (List ℕ)
low_text part (test field compare literal) = if bounds_below compare then key_text part field literal else None
low_text part _ = None

-- the text above which a conjunct leaves nothing
abbrev pub high_text : KeyPart → Tree → Option (List ℕ)
high_text part (test field compare literal) = if bounds_above compare then key_text part field literal else None
high_text part _ = None

-- the lower texts of a part of the key, of the outermost conjuncts
abbrev pub low_texts : KeyPart → Tree → List (List ℕ)
low_texts part t = filter_map (low_text part) (conjuncts t)

-- the upper texts of a part of the key, of the outermost conjuncts
abbrev pub high_texts : KeyPart → Tree → List (List ℕ)
high_texts part t = filter_map (high_text part) (conjuncts t)

-- one of the texts, and none is greater
abbrev pub IsGreatestOf : List ℕ → List (List ℕ) → Type 0
IsGreatestOf text texts = Contains texts text × All (λ other. IsAtMost other text) texts

-- one of the texts, and none is less
abbrev pub IsLeastOf : List ℕ → List (List ℕ) → Type 0
IsLeastOf text texts = Contains texts text × All (λ other. IsAtMost text other) texts

-- the greatest of the texts, or the empty text where there is none
abbrev pub IsLowEnd : List ℕ → List (List ℕ) → Type 0
IsLowEnd end [] = end ≡ []
IsLowEnd end (text ∷ texts) = IsGreatestOf end (text ∷ texts)

-- the greatest of the texts, or none where there is none
abbrev pub IsGreatest : Option (List ℕ) → List (List ℕ) → Type 0
IsGreatest None texts = texts ≡ []
IsGreatest (Some text) texts = IsGreatestOf text texts

-- the least of the texts, or none where there is none
abbrev pub IsLeast : Option (List ℕ) → List (List ℕ) → Type 0
IsLeast None texts = texts ≡ []
IsLeast (Some text) texts = IsLeastOf text texts

-- ---- those texts themselves

-- the greatest of the texts, or the empty text where there is none
abbrev pub greatest : List (List ℕ) → List ℕ
greatest [] = []
greatest (text ∷ texts) = if is_le (slice_cmp nat_cmp text (greatest texts)) then greatest texts else text

-- the least of a text and others
abbrev pub least_of : List ℕ → List (List ℕ) → List ℕ
least_of text [] = text
least_of text (other ∷ texts) = if is_le (slice_cmp nat_cmp text (least_of other texts)) then text else least_of other texts

-- the least of the texts, or none where there is none
abbrev pub least : List (List ℕ) → Option (List ℕ)
least [] = None
least (text ∷ texts) = Some (least_of text texts)

-- ---- the bounds of a filter

-- the narrowest bounds that the outermost conjuncts of the filter give
pub record IsNarrowest (t : Tree) (b : Bounds) : Type 0 where
  pub pk_low : IsLowEnd b.pk_low (low_texts Partition t)
  pub pk_high : IsLeast b.pk_high (high_texts Partition t)
  pub rk_low : IsLowEnd b.rk_low (low_texts Row t)
  pub rk_high : IsLeast b.rk_high (high_texts Row t)

-- the key lies within the bounds
pub record IsWithin (b : Bounds) (key : Key) : Type 0 where
  pub pk_low : IsAtMost b.pk_low key.pk
  pub pk_high : IfSome b.pk_high (λ high. IsAtMost key.pk high)
  pub rk_low : IsAtMost b.rk_low key.rk
  pub rk_high : IfSome b.rk_high (λ high. IsAtMost key.rk high)
