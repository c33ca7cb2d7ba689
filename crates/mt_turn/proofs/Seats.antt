-- Facts of the views of all seats, where one view changes or one more is there.
use Rattle.std.proofs.Common.{◌≡◌, ◌≢◌, ◌⊎◌, ℕ, zero, suc, true, List, [], ◌∷◌, ◌++◌, length, set, sym, refl, ap, ◌∙◌, subst, inl, inr, ⊎_elim, All, Option, Some, None, IfSome}
use Rattle.std.proofs.lemmas.List.Elements.{All-nil, All-tail}
use Rattle.std.specs.Option.{is_some}
use Rattle.std.proofs.lemmas.Bool.{false≢true}
use mathlib.Core.Option.{some, some-injective, some-ne-none}
use lib.ListN.{get_elem?}
use Rattle.atomic_table.proofs.Lists.{at_set}
use Rattle.mt_turn.specs.declared.view.View.{View}
use Rattle.mt_turn.specs.Windows.{last_of}
use Rattle.mt_turn.specs.Rule.{AreApart}
use Rattle.mt_turn.proofs.WindowLaws.{last_snoc}

module _ {A : Type 0} where
  pub weaken : (P Q : A → Type 0) → ((x : A) → P x → Q x) → (o : Option A) → IfSome o P → IfSome o Q
  weaken P Q f None h = h
  weaken P Q f (Some x) h = f x h

  pub at_last : (P : A → Type 0) (xs : List A) (x : A) → P x → IfSome (last_of (xs ++ x ∷ [])) P
  at_last P xs x h = subst (λ o. IfSome o P) (sym (last_snoc xs x)) h

  -- a pass that saw one more window has seen one
  pub begun_after : (seen xs : List A) (x : A) → seen ≡ xs ++ x ∷ [] → is_some (last_of seen) ≡ true
  begun_after seen xs x e = ap (λ l. is_some (last_of l)) e ∙ ap is_some (last_snoc xs x)

  pub item_there : (o : Option A) → is_some o ≡ true → (x : A) × (o ≡ Some x)
  item_there None e = absurd (false≢true e)
  item_there (Some x) e = (x, refl)

  pub All_right : (P : A → Type 0) (z y : List A) → All P (z ++ y) → All P y
  All_right P [] y h = h
  All_right P (c ∷ z) y h = All_right P z y (All-tail P c (z ++ y) h)

  pub where_one_changes : (K : ℕ → A → Type 0) (vs : List A) (me : ℕ) (w : A) → K me w → ((j : ℕ) (v : A) → j ≢ me → get_elem? vs j ≡ some v → K j v) → (j : ℕ) (v : A) → get_elem? (set vs me w) j ≡ some v → K j v
  where_one_changes K vs me w mine others j v e = ⊎_elim (λ (t : (j ≡ me) × (w ≡ v)). subst (λ (x : ℕ × A). K x.0 x.1) (λ i. (sym t.0 i, t.1 i)) mine)
      (λ (t : (j ≢ me) × (get_elem? vs j ≡ some v)). others j v t.0 t.1) (at_set vs me j w v e)

  at_end : (l : List A) (a b : A) (j : ℕ) → get_elem? (l ++ a ∷ []) j ≡ some b → (get_elem? l j ≡ some b) ⊎ ((j ≡ length l) × (a ≡ b))
  at_end [] a b zero e = inr (refl, some-injective a b e)
  at_end [] a b (suc j) e = absurd (some-ne-none b (sym e))
  at_end (x ∷ xs) a b zero e = inl e
  at_end (x ∷ xs) a b (suc j) e = ⊎_elim inl (λ t. inr (ap suc t.0, t.1)) (at_end xs a b j e)

  pub where_one_comes : (K : ℕ → A → Type 0) (vs : List A) (u : A) → ((j : ℕ) (v : A) → get_elem? vs j ≡ some v → K j v) → K (length vs) u → (j : ℕ) (v : A) → get_elem? (vs ++ u ∷ []) j ≡ some v → K j v
  where_one_comes K vs u old new j v e = ⊎_elim (old j v) (λ (t : (j ≡ length vs) × (u ≡ v)). subst (λ (x : ℕ × A). K x.0 x.1) (λ i. (sym t.0 i, t.1 i)) new) (at_end vs u v j e)

module _ {F : Type 0} (apart : F → F → Type 0) where
  pub apart_back : ((f g : F) → apart f g → apart g f) → (fs gs : List F) → AreApart apart fs gs → AreApart apart gs fs
  apart_back both fs gs h i d lt j c lt' = both _ _ (h j c lt' i d lt)

module _ {W E B X F : Type 0} where
  -- ---- no two passes have one number

  abbrev pub Differ : List (View W E B X F) → Type 0
  Differ vs = (i j : ℕ) (v w : View W E B X F) → get_elem? vs i ≡ some v → get_elem? vs j ≡ some w → v.numbered ≡ true → w.numbered ≡ true → v.caller ≡ w.caller → i ≡ j

  pub differ_still : (vs : List (View W E B X F)) (me : ℕ) (old new : View W E B X F) → get_elem? vs me ≡ some old → (new.numbered ≡ true → (old.numbered ≡ true) × (new.caller ≡ old.caller)) → Differ vs → Differ (set vs me new)
  differ_still vs me old new at same differ i j v w ei ej nv nw e =
      where_one_changes (λ i v. v.numbered ≡ true → v.caller ≡ w.caller → i ≡ j) vs me new
      (λ nn e'. where_one_changes (λ j w. w.numbered ≡ true → new.caller ≡ w.caller → me ≡ j) vs me new (λ _ _. refl)
      (λ j w ne ej nw e'. differ me j old w at ej (same nn).0 nw (sym (same nn).1 ∙ e')) j w ej nw e')
      (λ i v ne ei nv e'. where_one_changes (λ j w. w.numbered ≡ true → v.caller ≡ w.caller → i ≡ j) vs me new (λ nn e'. differ i me v old ei at nv (same nn).0 (e' ∙ (same nn).1))
      (λ j w ne ej nw e'. differ i j v w ei ej nv nw e') j w ej nw e')
      i v ei nv e

  pub differ_more : (vs : List (View W E B X F)) (u : View W E B X F) → Differ vs → ((i : ℕ) (v : View W E B X F) → get_elem? vs i ≡ some v → v.numbered ≡ true → u.numbered ≡ true → v.caller ≢ u.caller) → Differ (vs ++ u ∷ [])
  differ_more vs u differ new i j v w ei ej nv nw e =
      where_one_comes (λ i v. v.numbered ≡ true → v.caller ≡ w.caller → i ≡ j) vs u
      (λ i v ei nv e'. where_one_comes (λ j w. w.numbered ≡ true → v.caller ≡ w.caller → i ≡ j) vs u (λ j w ej nw e''. differ i j v w ei ej nv nw e'') (λ nu e''. absurd (new i v ei nv nu e'')) j w ej nw e')
      (λ nu e'. where_one_comes (λ j w. w.numbered ≡ true → u.caller ≡ w.caller → length vs ≡ j) vs u (λ j w ej nw e''. absurd (new j w ej nw nu (sym e''))) (λ _ _. refl) j w ej nw e')
      i v ei nv e

  -- ---- the facts of each two passes are apart

  module _ (apart : F → F → Type 0) where
    abbrev pub Separated : List (View W E B X F) → Type 0
    Separated vs = (i j : ℕ) (v w : View W E B X F) → get_elem? vs i ≡ some v → get_elem? vs j ≡ some w → i ≢ j → AreApart apart v.facts w.facts

    abbrev pub ApartBothWays : View W E B X F → View W E B X F → Type 0
    ApartBothWays v w = AreApart apart v.facts w.facts × AreApart apart w.facts v.facts

    pub separated_still : (vs : List (View W E B X F)) (me : ℕ) (new : View W E B X F) → ((j : ℕ) (w : View W E B X F) → get_elem? vs j ≡ some w → j ≢ me → ApartBothWays new w) → Separated vs → Separated (set vs me new)
    separated_still vs me new fresh before i j v w ei ej ne =
        where_one_changes (λ i v. i ≢ j → AreApart apart v.facts w.facts) vs me new
        (λ ne'. where_one_changes (λ j w. me ≢ j → AreApart apart new.facts w.facts) vs me new (λ no. absurd (no refl)) (λ j w nj ej _. (fresh j w ej nj).0) j w ej ne')
        (λ i v ni ei ne'. where_one_changes (λ j w. i ≢ j → AreApart apart v.facts w.facts) vs me new (λ _. (fresh i v ei ni).1) (λ j w nj ej ne'. before i j v w ei ej ne') j w ej ne')
        i v ei ne

    pub separated_more : (vs : List (View W E B X F)) (u : View W E B X F) → u.facts ≡ [] → Separated vs → Separated (vs ++ u ∷ [])
    separated_more vs u none' before i j v w ei ej ne =
        where_one_comes (λ i v. i ≢ j → AreApart apart v.facts w.facts) vs u
        (λ i v ei ne'. where_one_comes (λ j w. i ≢ j → AreApart apart v.facts w.facts) vs u (λ j w ej ne''. before i j v w ei ej ne'') (λ _. subst (AreApart apart v.facts) (sym none') (λ i d lt. All-nil _)) j w ej ne')
        (λ _. subst (λ fs. AreApart apart fs w.facts) (sym none') (All-nil _))
        i v ei ne
