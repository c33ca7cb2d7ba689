-- The least key of the rows that fail, and the first place over both stores and all rules.
use Rattle.std.proofs.Common.{◌≡◌, ℕ, suc, ◌+◌, ◌<◌, ◌≤◌, Bool, true, false, not, cond, [], ◌∷◌, length, get_or, Some, None, refl, sym, ap, subst, ◌∙◌, inl, inr, arith, Less, Equal}
use Rattle.std.specs.Prelude.{IsTrue}
use Rattle.std.specs.Ordering.{is_le, eq_by_cmp}
use Rattle.std.specs.FinMap.Entries.{find}
use Rattle.std.proofs.lemmas.Bool.{cases_lt, cases_eq}
use Rattle.std.proofs.lemmas.List.{get_or_default}
use Rattle.mt_model.specs.declared.key.Key.{Key}
use Rattle.mt_model.specs.Key.{key_cmp}
use Rattle.mt_chain.specs.declared.row.Stored.{Stored}
use Rattle.mt_chain.specs.Rows.{Rows, are_rising}
use Rattle.mt_chain.proofs.SearchLaws.{find_at, rises}
use Rattle.mt_meta.specs.Logical.{Pair}
use Rattle.mt_open.specs.declared.damage.Rule.{Rule}
use Rattle.mt_chain.specs.declared.ask.Side.{Side}
use Rattle.mt_meta.specs.Steps.{contents_of}
use Rattle.mt_open.specs.Damage.{RowFails, FailsByRow, place, IsLeastIn}
use Rattle.mt_open.proofs.RepeatLaws.{self_tied, tied_true, eq_equal}

abbrev Entry : Type 0
Entry = Key × Stored

-- the place of a row that is found
found_at : (rows : Rows) (k : Key) (r : Stored) → find key_cmp k rows ≡ Some r → (i : ℕ) × (i < length rows) × ((d : Entry) → get_or rows i d ≡ (k, r))
found_at [] k r found = absurd (let x = found in cc)
found_at (e ∷ rows) k r found = go (eq_by_cmp key_cmp k e.0) refl found (found_at rows k r) where
  go : (b : Bool) → eq_by_cmp key_cmp k e.0 ≡ b → cond b (Some e.1) (find key_cmp k rows) ≡ Some r
      → (find key_cmp k rows ≡ Some r → (i : ℕ) × (i < length rows) × ((d : Entry) → get_or rows i d ≡ (k, r)))
      → (i : ℕ) × (i < length (e ∷ rows)) × ((d : Entry) → get_or (e ∷ rows) i d ≡ (k, r))
  go true eb found rest = (let same : e.1 ≡ r = (let x : Some e.1 ≡ Some r = found in cc) in (0, omega arith, λ d. λ i. (sym (tied_true k e.0 (eq_equal _ eb)) i, same i)))
  go false eb found rest = (let x = rest found in (suc x.0, omega (arith, x.1), x.2))

-- the row at a place is found at its key
pub at_found : (rows : Rows) (i : ℕ) (e : Entry) → are_rising rows ≡ true → i < length rows → e ≡ get_or rows i e → find key_cmp e.0 rows ≡ Some e.1
at_found rows i e rising inside is =
    find_at e.0 rows i e rising inside (subst (λ (x : Entry). key_cmp x.0 e.0 ≡ Equal) is (self_tied e.0))
    ∙ ap (λ (x : Entry). Some x.1) (sym is)

-- no row before a place fails
abbrev pub NoneBefore : Pair → Rule → Side → Rows → ℕ → Type 0
NoneBefore p r side rows i = (k : ℕ) (e : Entry) → k < i → k < length rows → e ≡ get_or rows k e → ¬ RowFails p r side e.0 e.1

pub none_at_start : (p : Pair) (r : Rule) (side : Side) (rows : Rows) → NoneBefore p r side rows 0
none_at_start p r side rows k e before inside is = absurd (omega (arith, before))

pub none_more : (p : Pair) (r : Rule) (side : Side) (rows : Rows) (i : ℕ) (e : Entry) → e ≡ get_or rows i e → (¬ RowFails p r side e.0 e.1) → NoneBefore p r side rows i → NoneBefore p r side rows (i + 1)
none_more p r side rows i e is fine none k x before inside at = elim (cases_eq k i) as (λ _. ¬ RowFails p r side x.0 x.1) [
  | inl same ↦ (
      let here : x ≡ e = at ∙ ap (λ n. get_or rows n x) same ∙ get_or_default rows i x e (omega (arith, same, inside)) ∙ sym is in
      subst (λ (y : Entry). ¬ RowFails p r side y.0 y.1) (sym here) fine)
  | inr other ↦ none k x (omega (arith, before, other)) inside at
]

pub least_none : (p : Pair) (r : Rule) (side : Side) (i : ℕ) → length (contents_of p side).rows ≤ i → NoneBefore p r side (contents_of p side).rows i → IsLeastIn p r side None
least_none p r side i whole none key f =
    let at = found_at (contents_of p side).rows key f.0 f.1 in
    none at.0 (key, f.0) (omega (arith, at.1, whole)) at.1 (sym (at.2 (key, f.0))) f.2

pub least_some : (p : Pair) (r : Rule) (side : Side) (i : ℕ) (e : Entry) → are_rising (contents_of p side).rows ≡ true → i < length (contents_of p side).rows → e ≡ get_or (contents_of p side).rows i e
    → RowFails p r side e.0 e.1 → NoneBefore p r side (contents_of p side).rows i → IsLeastIn p r side (Some e.0)
least_some p r side i e rising inside is fails none = ((e.1, at_found (contents_of p side).rows i e rising inside is, fails), λ other f. least other f (found_at (contents_of p side).rows other f.0 f.1)) where
  least : (other : Key) (f : FailsByRow p (place r side other)) → (j : ℕ) × (j < length (contents_of p side).rows) × ((d : Entry) → get_or (contents_of p side).rows j d ≡ (other, f.0)) → IsTrue (is_le (key_cmp e.0 other))
  least other f at = elim (cases_lt at.0 i) as (λ _. IsTrue (is_le (key_cmp e.0 other))) [
    | inl before ↦ absurd (none at.0 (other, f.0) before at.1 (sym (at.2 (other, f.0))) f.2)
    | inr from ↦ elim (cases_eq at.0 i) as (λ _. IsTrue (is_le (key_cmp e.0 other))) [
      | inl same ↦ (
          let here : e ≡ (other, f.0) = is ∙ ap (λ n. get_or (contents_of p side).rows n e) (sym same) ∙ at.2 e in
          subst (λ (y : Entry). IsTrue (is_le (key_cmp e.0 y.0))) here (ap is_le (self_tied e.0)))
      | inr differ ↦ (
          let less = rises (contents_of p side).rows i at.0 e rising (omega (arith, from, differ)) at.1 in
          let on : key_cmp e.0 other ≡ Less = subst (λ (y : Entry). key_cmp y.0 other ≡ Less) (sym is) (subst (λ (y : Entry). key_cmp (get_or (contents_of p side).rows i e).0 y.0 ≡ Less) (at.2 e) less) in
          ap is_le on)
    ]
  ]

-- a test that fails where another passes
pub fails_not : {P : Type 0} (b : Bool) → (IsTrue b → P) × (P → IsTrue b) → (IsTrue (not b) → ¬ P) × ((¬ P) → IsTrue (not b))
fails_not true h = ((λ e p. let x = e in cc), (λ n. absurd (n (h.0 refl))))
fails_not false h = ((λ e p. let x = h.1 p in cc), (λ n. refl))
