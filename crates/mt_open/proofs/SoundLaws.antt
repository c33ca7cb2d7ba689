-- A sound pair is one that fails nowhere.
use Rattle.std.proofs.Common.{◌≡◌, ◌≢◌, ◌⊎◌, ℕ, ◌<◌, ◌≤◌, Bool, true, false, List, [], Option, Some, None, refl, sym, ap, subst, ◌∙◌, inl, inr, arith}
use Rattle.std.proofs.lemmas.Bool.{cases_lt, cases_eq}
use Rattle.mt_model.specs.declared.key.Key.{Key}
use Rattle.mt_model.specs.declared.tag.Tag.{Tag}
use Rattle.mt_chain.specs.declared.row.Stored.{Stored}
use Rattle.mt_chain.specs.Rows.{row_at, key_at}
use Rattle.mt_meta.specs.declared.mark.Mark.{Mark}
use Rattle.mt_meta.specs.declared.mark.Mark.TheVariants.{Live, Copy, Tomb}
use Rattle.mt_meta.specs.Markers.{marker_key}
use Rattle.mt_meta.specs.Marks.{mark_of}
use Rattle.mt_meta.specs.Logical.{Pair, NoOld, AtPreferOld, AtPreferNew, NewState, NoNew, AtFilling, AtUseNew, BadNew, old_state, new_state, old_at, new_at, old_state_at, new_state_at}
use Rattle.mt_meta.specs.Sound.{IsSound, HaveForms, AreMarked, AreTags, AreKept, IsKept, IsCopyOrNone, NoTomb}
use Rattle.mt_meta.proofs.Rules.{old_none, new_none}
use Rattle.mt_open.specs.declared.damage.Rule.{Rule}
use Rattle.mt_open.specs.declared.damage.Rule.TheVariants as rule
use Rattle.mt_chain.specs.declared.ask.Side.{Side}
use Rattle.mt_chain.specs.declared.ask.Side.TheVariants.{Old, New}
use Rattle.mt_meta.specs.Steps.{number_of, contents_of}
use Rattle.mt_open.specs.Damage.{Place, row_in, marker_of, IsMarkerIn, IsRowIn, HasForm, FailsKept, FailsOwn, RowFails, FailsAt}
use Rattle.mt_open.proofs.Deciding.{Either, stable, form_or_not, same_numbers as cases_numbers, same_texts as cases_texts}

-- ---- a sound pair fails nowhere

-- the rules that are said of each store
forms_in : (p : Pair) → IsSound p → (side : Side) → HaveForms (IsMarkerIn p side) (IsRowIn p side) (contents_of p side)
forms_in p h Old = h.forms.0
forms_in p h New = h.forms.1

marked_in : (p : Pair) → IsSound p → (side : Side) → AreMarked (contents_of p side)
marked_in p h Old = h.markers.0
marked_in p h New = h.markers.1

tags_in : (p : Pair) → IsSound p → (side : Side) → AreTags (number_of p side) (contents_of p side)
tags_in p h Old = h.tags.0
tags_in p h New = h.tags.1

kept_in : (p : Pair) → IsSound p → (side : Side) → AreKept p (number_of p side) (contents_of p side)
kept_in p h Old = h.tags.2
kept_in p h New = h.tags.3

has_form : (p : Pair) → IsSound p → (side : Side) (key : Key) (row : Stored) → row_in p side key ≡ Some row → HasForm p side key row.props
has_form p h side key row found = (
  λ e. (forms_in p h side).markers key.pk row (subst (λ rk. row_at (contents_of p side).rows key.pk rk ≡ Some row) e found),
  λ ne. (forms_in p h side).data_rows key.pk key.rk row ne found,
)

there : (x : Option Stored) (row : Stored) → x ≡ Some row → x ≢ None
there x row e none = (let c = sym e ∙ none in cc)

same_key : (a b : Key) → a.pk ≡ b.pk → a.rk ≡ b.rk → a ≡ b
same_key a b e f = λ i. key_at (e i) (f i)

own_holds : (p : Pair) → IsSound p → (side : Side) (key : Key) (row : Stored) → row_in p side key ≡ Some row → ¬ FailsOwn p side key row.tag
own_holds p h side key row found (inl (inl number)) = number ((tags_in p h side).number key.pk key.rk row found)
own_holds p h side key row found (inl (inr (inl zero))) = (let r = (tags_in p h side).range key.pk key.rk row found in omega (arith, r.0, zero))
own_holds p h side key row found (inl (inr (inr above))) = (let r = (tags_in p h side).range key.pk key.rk row found in omega (arith, r.1, above))
own_holds p h side key row found (inr s) =
    (let same = (tags_in p h side).differ s.0.pk s.0.rk key.pk key.rk s.1 row s.3 found s.4 in s.2 (same_key s.0 key same.0 same.1))

kept_holds : (p : Pair) (store : ℕ) (tag : Tag) → IsKept p store tag → ¬ FailsKept p store tag
kept_holds p store tag h (inl above) = omega (arith, h.below, above)
kept_holds p store tag h (inr (inl zero)) = omega (arith, h.from_one, zero)
kept_holds p store tag h (inr (inr late)) = (let given = h.given late.0 in omega (arith, given, late.1))

-- a row of new at the marker's key is what the marker's state is read of
marker_state : (p : Pair) (key : Key) (row : Stored) → key.rk ≡ marker_key → new_at p key.pk key.rk ≡ Some row → new_state_at p key.pk ≡ new_state (Some row)
marker_state p key row e found = ap new_state (subst (λ rk. new_at p key.pk rk ≡ Some row) e found)

no_state : (row : Stored) → ¬ (new_state (Some row) ≡ NoNew)
no_state row e = (let none = new_none (Some row) e in cc)

prefer_old_holds : (p : Pair) → IsSound p → (key : Key) (row : Stored) → row_in p New key ≡ Some row → ¬ RowFails p rule.PreferOld New key row
prefer_old_holds p h key row found f = go f.1 where
  state : (new_state_at p key.pk ≡ NoNew) ⊎ (new_state_at p key.pk ≡ AtFilling)
  state = (h.prefer_old key.pk f.0).0

  at_marker : key.rk ≡ marker_key → (new_state_at p key.pk ≡ NoNew) ⊎ (new_state_at p key.pk ≡ AtFilling) → new_state (Some row) ≢ AtFilling → ⊥
  at_marker e (inl none) other = no_state row (sym (marker_state p key row e found) ∙ none)
  at_marker e (inr filling) other = other (sym (marker_state p key row e found) ∙ filling)

  go : ((key.rk ≡ marker_key) × (new_state (Some row) ≢ AtFilling)) ⊎ ((key.rk ≢ marker_key) × (¬ IsCopyOrNone (Some row))) → ⊥
  go (inl m) = at_marker m.0 state m.1
  go (inr d) = d.1 (subst IsCopyOrNone found ((h.prefer_old key.pk f.0).1 key.rk d.0))

no_old_holds : (p : Pair) → IsSound p → (key : Key) (row : Stored) → row_in p New key ≡ Some row → ¬ RowFails p rule.NoOld New key row
no_old_holds p h key row found f = go f.1 where
  both : ((new_state_at p key.pk ≡ NoNew) ⊎ ((new_state_at p key.pk ≡ AtUseNew) × (p.old.sealed ≡ true))) × ((rk : List ℕ) → rk ≢ marker_key → NoTomb (new_at p key.pk rk))
  both = h.no_old key.pk (ap old_state f.0)

  at_marker : key.rk ≡ marker_key → (new_state_at p key.pk ≡ NoNew) ⊎ ((new_state_at p key.pk ≡ AtUseNew) × (p.old.sealed ≡ true))
      → (new_state (Some row) ≢ AtUseNew) ⊎ (p.old.sealed ≡ false) → ⊥
  at_marker e (inl none) x = no_state row (sym (marker_state p key row e found) ∙ none)
  at_marker e (inr alone) (inl other) = other (sym (marker_state p key row e found) ∙ alone.0)
  at_marker e (inr alone) (inr unsealed) = (let x = sym alone.1 ∙ unsealed in cc)

  go : ((key.rk ≡ marker_key) × ((new_state (Some row) ≢ AtUseNew) ⊎ (p.old.sealed ≡ false))) ⊎ ((key.rk ≢ marker_key) × (mark_of row.props ≡ Some Tomb)) → ⊥
  go (inl m) = at_marker m.0 both.0 m.1
  go (inr d) = subst NoTomb found (both.1 key.rk d.0) d.1

row_holds : (p : Pair) → IsSound p → (r : Rule) (side : Side) (key : Key) (row : Stored) → row_in p side key ≡ Some row → ¬ RowFails p r side key row
row_holds p h rule.Forms side key row found f = f (has_form p h side key row found)
row_holds p h rule.Marked side key row found f = marked_in p h side key.pk key.rk (there _ row found) f
row_holds p h rule.UseOld Old key row found f = f
row_holds p h rule.UseOld New key row found f = no_state row (sym (marker_state p key row f.0 found) ∙ h.use_old key.pk f.1)
row_holds p h rule.PreferOld Old key row found f = f
row_holds p h rule.PreferOld New key row found f = prefer_old_holds p h key row found f
row_holds p h rule.PreferNew Old key row found f = h.prefer_new key.pk f.1 (ap new_state f.2)
row_holds p h rule.PreferNew New key row found f = f
row_holds p h rule.NoOld Old key row found f = f
row_holds p h rule.NoOld New key row found f = no_old_holds p h key row found f
row_holds p h rule.Tags side key row found (inl own) = own_holds p h side key row found own
row_holds p h rule.Tags side key row found (inr copy) = kept_holds p (number_of p side) copy.0 (kept_in p h side key.pk key.rk row copy.0 found copy.1) copy.2
row_holds p h rule.Unsealed side key row found f = f

pub sound_holds : (p : Pair) → IsSound p → (at : Place) → ¬ FailsAt p at
sound_holds p h at (inl row) = row_holds p h at.rule at.side at.key row.0 row.1 row.2
sound_holds p h at (inr sealed) = (let x = sym h.unsealed ∙ sealed.3 in cc)

-- ---- and back

abbrev Nowhere : Pair → Type 0
Nowhere p = (at : Place) → ¬ FailsAt p at

-- the row that is there does not fail the rule
fine : (p : Pair) → Nowhere p → (r : Rule) (side : Side) (key : Key) (row : Stored) → row_in p side key ≡ Some row → ¬ RowFails p r side key row
fine p h r side key row found f = h (record { rule = r; side = side; key = key }) (inl (row, found, f))

form_of : (p : Pair) → Nowhere p → (side : Side) (key : Key) (row : Stored) → row_in p side key ≡ Some row → HasForm p side key row.props
form_of p h side key row found = stable (form_or_not p side key row.props) (fine p h rule.Forms side key row found)

forms_from : (p : Pair) → Nowhere p → (side : Side) → HaveForms (IsMarkerIn p side) (IsRowIn p side) (contents_of p side)
forms_from p h side = record {
  markers = λ pk row found. (form_of p h side (marker_of pk) row found).0 refl;
  data_rows = λ pk rk row other found. (form_of p h side (key_at pk rk) row found).1 other;
}

found_by : (x : Option Stored) → x ≢ None → (row : Stored) × (x ≡ Some row)
found_by None h = absurd (h refl)
found_by (Some row) h = (row, refl)

marked_from : (p : Pair) → Nowhere p → (side : Side) → AreMarked (contents_of p side)
marked_from p h side pk rk some none = (let row = found_by (row_in p side (key_at pk rk)) some in fine p h rule.Marked side (key_at pk rk) row.0 row.1 none)

no_new_from : (p : Pair) (pk : List ℕ) → ((row : Stored) → new_at p pk marker_key ≡ Some row → ⊥) → new_state_at p pk ≡ NoNew
no_new_from p pk h = go (new_at p pk marker_key) refl where
  go : (x : Option Stored) → new_at p pk marker_key ≡ x → new_state x ≡ NoNew
  go None e = refl
  go (Some row) e = absurd (h row e)

is_filling_or_not : (s : NewState) → Either (s ≡ AtFilling)
is_filling_or_not NoNew = inr (λ e. cc)
is_filling_or_not AtFilling = inl refl
is_filling_or_not AtUseNew = inr (λ e. cc)
is_filling_or_not BadNew = inr (λ e. cc)

is_use_new_or_not : (s : NewState) → Either (s ≡ AtUseNew)
is_use_new_or_not NoNew = inr (λ e. cc)
is_use_new_or_not AtFilling = inr (λ e. cc)
is_use_new_or_not AtUseNew = inl refl
is_use_new_or_not BadNew = inr (λ e. cc)

copy_or_none : (x : Option Stored) → Either (IsCopyOrNone x)
copy_or_none None = inl tt
copy_or_none (Some row) = go (mark_of row.props) refl where
  go : (m : Option Mark) → mark_of row.props ≡ m → Either ((tag : Tag) × (mark_of row.props ≡ Some (Copy tag)))
  go None e = inr (λ c. let x = sym e ∙ c.1 in cc)
  go (Some Live) e = inr (λ c. let x = sym e ∙ c.1 in cc)
  go (Some (Copy tag)) e = inl (tag, e)
  go (Some Tomb) e = inr (λ c. let x = sym e ∙ c.1 in cc)

prefer_old_from : (p : Pair) → Nowhere p → (pk : List ℕ) → old_state_at p pk ≡ AtPreferOld
    → ((new_state_at p pk ≡ NoNew) ⊎ (new_state_at p pk ≡ AtFilling)) × ((rk : List ℕ) → rk ≢ marker_key → IsCopyOrNone (new_at p pk rk))
prefer_old_from p h pk e = (marker (new_at p pk marker_key) refl, λ rk other. row rk other (new_at p pk rk) refl) where
  marker : (x : Option Stored) → new_at p pk marker_key ≡ x → (new_state x ≡ NoNew) ⊎ (new_state x ≡ AtFilling)
  marker None ex = inl refl
  marker (Some m) ex = inr (stable (is_filling_or_not (new_state (Some m))) (λ other. fine p h rule.PreferOld New (marker_of pk) m ex (e, inl (refl, other))))

  row : (rk : List ℕ) → rk ≢ marker_key → (x : Option Stored) → new_at p pk rk ≡ x → IsCopyOrNone x
  row rk other None ex = tt
  row rk other (Some r) ex = stable (copy_or_none (Some r)) (λ no. fine p h rule.PreferOld New (key_at pk rk) r ex (e, inr (other, no)))

sealed_or_not : (b : Bool) → b ≢ false → b ≡ true
sealed_or_not true h = refl
sealed_or_not false h = absurd (h refl)

no_old_from : (p : Pair) → Nowhere p → (pk : List ℕ) → old_state_at p pk ≡ NoOld
    → ((new_state_at p pk ≡ NoNew) ⊎ ((new_state_at p pk ≡ AtUseNew) × (p.old.sealed ≡ true))) × ((rk : List ℕ) → rk ≢ marker_key → NoTomb (new_at p pk rk))
no_old_from p h pk e = (marker (new_at p pk marker_key) refl, λ rk other. row rk other (new_at p pk rk) refl) where
  none : old_at p pk marker_key ≡ None
  none = old_none (old_at p pk marker_key) e

  marker : (x : Option Stored) → new_at p pk marker_key ≡ x → (new_state x ≡ NoNew) ⊎ ((new_state x ≡ AtUseNew) × (p.old.sealed ≡ true))
  marker None ex = inl refl
  marker (Some m) ex = inr (
    stable (is_use_new_or_not (new_state (Some m))) (λ other. fine p h rule.NoOld New (marker_of pk) m ex (none, inl (refl, inl other))),
    sealed_or_not p.old.sealed (λ unsealed. fine p h rule.NoOld New (marker_of pk) m ex (none, inl (refl, inr unsealed))),
  )

  row : (rk : List ℕ) → rk ≢ marker_key → (x : Option Stored) → new_at p pk rk ≡ x → NoTomb x
  row rk other None ex = tt
  row rk other (Some r) ex = λ tomb. fine p h rule.NoOld New (key_at pk rk) r ex (none, inr (other, tomb))

pub key_or_not : (a b : Key) → Either (a ≡ b)
key_or_not a b = go (cases_texts a.pk b.pk) (cases_texts a.rk b.rk) where
  go : Either (a.pk ≡ b.pk) → Either (a.rk ≡ b.rk) → Either (a ≡ b)
  go (inl e) (inl f) = inl (same_key a b e f)
  go (inl e) (inr nf) = inr (λ s. nf (ap (λ (k : Key). k.rk) s))
  go (inr ne) f = inr (λ s. ne (ap (λ (k : Key). k.pk) s))

tags_from : (p : Pair) → Nowhere p → (side : Side) → AreTags (number_of p side) (contents_of p side)
tags_from p h side = record {
  number = λ pk rk row found. stable (cases_numbers row.tag.store (number_of p side)) (λ other. fine p h rule.Tags side (key_at pk rk) row found (inl (inl (inl other))));
  range = λ pk rk row found. (from_one pk rk row found, upto pk rk row found);
  differ = λ pk rk a b row other found also same.
      let k = stable (key_or_not (key_at pk rk) (key_at a b)) (λ ne. fine p h rule.Tags side (key_at a b) other also (inl (inr (key_at pk rk, row, ne, found, same)))) in
      (ap (λ (x : Key). x.pk) k, ap (λ (x : Key). x.rk) k);
} where
  from_one : (pk rk : List ℕ) (row : Stored) → row_in p side (key_at pk rk) ≡ Some row → 1 ≤ row.tag.n
  from_one pk rk row found = elim (cases_eq row.tag.n 0) as (λ _. 1 ≤ row.tag.n) [
    | inl zero ↦ absurd (fine p h rule.Tags side (key_at pk rk) row found (inl (inl (inr (inl zero)))))
    | inr ne ↦ omega (arith, ne)
  ]

  upto : (pk rk : List ℕ) (row : Stored) → row_in p side (key_at pk rk) ≡ Some row → row.tag.n ≤ (contents_of p side).counter
  upto pk rk row found = elim (cases_lt (contents_of p side).counter row.tag.n) as (λ _. row.tag.n ≤ (contents_of p side).counter) [
    | inl above ↦ absurd (fine p h rule.Tags side (key_at pk rk) row found (inl (inl (inr (inr above)))))
    | inr le ↦ omega (arith, le)
  ]

kept_by : (p : Pair) (store : ℕ) (tag : Tag) → (¬ FailsKept p store tag) → IsKept p store tag
kept_by p store tag h = record { below = below; from_one = from_one; given = given } where
  below : tag.store < store
  below = elim (cases_lt tag.store store) as (λ _. tag.store < store) [
    | inl lt ↦ lt
    | inr ge ↦ absurd (h (inl (omega (arith, ge))))
  ]

  from_one : 1 ≤ tag.n
  from_one = elim (cases_eq tag.n 0) as (λ _. 1 ≤ tag.n) [
    | inl zero ↦ absurd (h (inr (inl zero)))
    | inr ne ↦ omega (arith, ne)
  ]

  given : tag.store ≡ p.old_number → tag.n ≤ p.old.counter
  given e = elim (cases_lt p.old.counter tag.n) as (λ _. tag.n ≤ p.old.counter) [
    | inl late ↦ absurd (h (inr (inr (e, late))))
    | inr le ↦ omega (arith, le)
  ]

kept_from : (p : Pair) → Nowhere p → (side : Side) → AreKept p (number_of p side) (contents_of p side)
kept_from p h side pk rk row tag found copy = kept_by p (number_of p side) tag (λ f. fine p h rule.Tags side (key_at pk rk) row found (inr (tag, copy, f)))

pub sound_from : (p : Pair) → Nowhere p → IsSound p
sound_from p h = record {
  forms = (forms_from p h Old, forms_from p h New);
  markers = (marked_from p h Old, marked_from p h New);
  use_old = λ pk e. no_new_from p pk (λ row found. fine p h rule.UseOld New (marker_of pk) row found (refl, e));
  prefer_old = prefer_old_from p h;
  prefer_new = λ pk e none.
      let row = old_marked (old_at p pk marker_key) e in
      fine p h rule.PreferNew Old (marker_of pk) row.0 row.1 (refl, e, new_none (new_at p pk marker_key) none);
  no_old = no_old_from p h;
  tags = (tags_from p h Old, tags_from p h New, kept_from p h Old, kept_from p h New);
  unsealed = unsealed_from p.new.sealed refl;
} where
  old_marked : (x : Option Stored) → old_state x ≡ AtPreferNew → (row : Stored) × (x ≡ Some row)
  old_marked None e = absurd cc
  old_marked (Some row) e = (row, refl)

  unsealed_from : (b : Bool) → p.new.sealed ≡ b → b ≡ false
  unsealed_from true e = absurd (h (record { rule = rule.Unsealed; side = New; key = key_at [] [] }) (inr (refl, refl, refl, e)))
  unsealed_from false e = refl
