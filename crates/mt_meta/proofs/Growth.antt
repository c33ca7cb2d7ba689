-- Facts outlast the steps of others.
use Rattle.std.proofs.Common.{◌≡◌, ◌≢◌, ◌⊎◌, ℕ, ◌<◌, ◌≤◌, Bool, true, List, [], ◌∷◌, Option, Some, None, refl, sym, ap, ◌∙◌, subst, arith, inl, inr}
use Rattle.std.specs.Prelude.{option_map, is_some, IfSome}
use Rattle.mt_model.specs.declared.tag.Tag.{Tag}
use Rattle.mt_model.specs.declared.value.Prop.{Prop}
use Rattle.mt_chain.specs.declared.ask.Side.TheVariants.{Old, New}
use Rattle.mt_chain.specs.declared.row.Stored.{Stored}
use Rattle.mt_chain.specs.declared.row.StoredRow.{StoredRow}
use Rattle.mt_chain.specs.declared.query.PkFrom.{PkFrom}
use Rattle.mt_chain.specs.Rows.{row_in, shown}
use Rattle.mt_chain.specs.StoreCall.{Contents}
use Rattle.mt_meta.specs.declared.mark.Mark.TheVariants.{Copy}
use Rattle.mt_meta.specs.Markers.{marker_key}
use Rattle.mt_meta.specs.Marks.{mark_of}
use Rattle.mt_meta.specs.Logical.{Pair, NoOld, shown_as, from_old, old_state, new_state, new_says, old_at, new_at, old_state_at, new_state_at}
use Rattle.mt_meta.specs.Sound.{IsSound}
use Rattle.mt_meta.specs.Modes.{Mode, Empty, AtOld, Prepared, Copying, Overlaid, Settled, NewOnly, Broken, mode, rank, FitsMode}
use Rattle.mt_meta.specs.declared.fact.Keys.{Keys}
use Rattle.mt_meta.specs.declared.fact.Keys.TheVariants as keys
use Rattle.mt_meta.specs.declared.fact.Fact.{Fact}
use Rattle.mt_meta.specs.declared.fact.Fact.TheVariants.{Row, Kept, Begun, There, Turned, Closed, Moved, Epoch, Clean, Swept, Retired}
use Rattle.mt_meta.specs.Facts.{InKeys, is_begun, is_there, is_prefer_new, is_marked, is_filling, is_use_new, KnowsRow, KnowsKept, KnowsTurned, Exact, KnowsEpoch, KnowsClean, KnowsSwept, Holds, Apart, ApartFrom, EntryStays, Ages, Grows}
use Rattle.mt_meta.proofs.Rules.{to_modes, key_cases}
use Rattle.mt_meta.proofs.ModeLaws.{old_in, says, begun_rank, there_rank, marked_rank, use_new_rank, up, rank_from, filling_ranks, prefer_new_ranks, ranks_filling, is_overlaid, overlaid_turned}

pub ages_self : (a : Contents) → Ages a a
ages_self a = record { counter = omega arith; past = λ pk rk r is le. is }

pub stays_self : (x : Option Stored) → EntryStays x x
stays_self x = record { there = λ h. h; copies = λ e tag is c. (e, is, refl) }

none_in : (m : Mode) (row entry : Option Stored) → old_in m ≡ NoOld → FitsMode m row entry → row ≡ None
none_in Empty row entry e h = h.0
none_in AtOld row entry e h = absurd cc
none_in Prepared row entry e h = absurd cc
none_in Copying row entry e h = absurd cc
none_in Overlaid row entry e h = absurd cc
none_in Settled row entry e h = absurd cc
none_in NewOnly row entry e h = h.0
none_in Broken row entry e h = absurd cc

-- a partition without a marker has no rows
pub no_rows : (p : Pair) → IsSound p → (pk : List ℕ) → old_at p pk marker_key ≡ None → (rk : List ℕ) → old_at p pk rk ≡ None
no_rows p s pk none rk = elim (key_cases rk) as (λ _. old_at p pk rk ≡ None) [
  | inl e ↦ ap (old_at p pk) e ∙ none
  | inr ne ↦ none_in (mode p pk) (old_at p pk rk) (new_at p pk rk) (sym (says p s pk).old ∙ ap old_state none) ((to_modes p s).keys pk rk ne)
]

pub grows_self : (own : List Fact) (p : Pair) → IsSound p → Grows own p p
grows_self own p s = record {
  numbers = (refl, refl);
  modes = λ pk. omega arith;
  old = ages_self p.old;
  new = ages_self p.new;
  sealed = λ h. h;
  births = λ is pk none. no_rows p s pk none;
  turned = λ pk a b rk. refl;
  entries = λ pk m a b is le ap rk other. stays_self (new_at p pk rk);
  tombs = λ pk le rk other h. h;
  dropped = λ pk le rk. inl refl;
}

row_kept : (a b : Contents) (pk rk : List ℕ) (props : List Prop) (tag : Tag) → Ages a b → KnowsRow a pk rk props tag → KnowsRow b pk rk props tag
row_kept a b pk rk props tag g h = record {
  past = omega (arith, h.past, g.counter);
  same = λ r is t. h.same r (g.past pk rk r is (let n : r.tag.n ≡ tag.n = ap (λ (x : Tag). x.n) t in omega (arith, h.past, n))) t;
}

kept_kept : (own : List Fact) (p q : Pair) (pk rk : List ℕ) (tag : Tag) → Grows own p q → KnowsKept p pk rk tag → KnowsKept q pk rk tag
kept_kept own p q pk rk tag g h = record {
  key = h.key;
  tag_is = record {
    below = subst (λ (n : ℕ). tag.store < n) (sym g.numbers.1) h.tag_is.below;
    from_one = h.tag_is.from_one;
    given = λ e. (let n = h.tag_is.given (e ∙ g.numbers.0) in omega (arith, n, g.old.counter));
  };
}

-- a marker that is there keeps filling only where it was, and where old was turned both are overlaid
pub record StaysTurned (p q : Pair) (part : List ℕ) : Type 0 where
  pub before : is_filling (new_state_at p part) ≡ true
  pub overlaid : is_prefer_new (old_state_at p part) ≡ true → (mode p part ≡ Overlaid) × (mode q part ≡ Overlaid)

stays_turned : (own : List Fact) (p q : Pair) (pk : List ℕ) → IsSound p → IsSound q → Grows own p q → is_marked (new_state_at p pk) ≡ true → is_filling (new_state_at q pk) ≡ true → StaysTurned p q pk
stays_turned own p q pk s t g marked fills =
    let low = rank_from (λ o n. is_marked n) 3 marked_rank p pk s marked in
    let now = filling_ranks q pk t fills in
    let le = g.modes pk in
    let before = ranks_filling p pk s low (omega (arith, now.1, le)) in record {
      before = before;
      overlaid = λ turned. (let r = prefer_new_ranks p pk s turned in
          (is_overlaid (mode p pk) r.0 (omega (arith, now.1, le)), is_overlaid (mode q pk) (omega (arith, r.0, le)) now.1));
    }

turned_kept : (own : List Fact) (p q : Pair) (pk : List ℕ) (part : Keys) (rows : List StoredRow) → IsSound p → IsSound q → Grows own p q → KnowsTurned p pk part rows → KnowsTurned q pk part rows
turned_kept own p q pk part rows s t g h = record {
  marked = up (λ o n. is_marked n) 3 marked_rank p q pk s t (g.modes pk) h.marked;
  turned = λ fills. (let k = stays_turned own p q pk s t g h.marked fills in overlaid_turned q pk t (k.overlaid (h.turned k.before)).1);
  rows = λ fills rk pos in_keys. (let k = stays_turned own p q pk s t g h.marked fills in let o = k.overlaid (h.turned k.before) in ap (option_map (shown rk)) (g.turned pk o.0 o.1 rk) ∙ h.rows k.before rk pos in_keys);
}

pub some_or : (x : Option Stored) → (x ≡ None) ⊎ (is_some x ≡ true)
some_or None = inl refl
some_or (Some r) = inr refl

exact_kept : (row row' entry entry' : Option Stored) → row' ≡ row → EntryStays entry entry' → Exact row entry → Exact row' entry'
exact_kept row row' entry entry' same st x = record {
  covered = λ h. st.there (x.covered (sym (ap is_some same) ∙ h));
  copies = λ e tag is c. (let b = st.copies e tag is c in
      let mark : mark_of b.0.props ≡ Some (Copy tag) = ap mark_of b.2 ∙ c in
      ap from_old same ∙ x.copies b.0 tag b.1 mark ∙ ap (λ (ps : List Prop). Some (shown_as ps tag)) b.2);
}

-- what is known of an epoch while others act
pub epoch_kept : (own : List Fact) (p q : Pair) (pk : List ℕ) (tag : Tag) (part : Keys) → IsSound p → IsSound q → Grows own p q → ApartFrom (Epoch pk tag keys.None) own → KnowsEpoch p pk tag part → KnowsEpoch q pk tag part
epoch_kept own p q pk tag part s t g apart h = record {
  past = omega (arith, h.past, g.new.counter);
  marked = up (λ o n. is_marked n) 3 marked_rank p q pk s t (g.modes pk) h.marked;
  filling = λ m is e. h.filling m (was m is e) e;
  turned = λ m is e rk in_keys. overlaid_turned q pk t (over m is e rk in_keys).1;
  exact = λ m is e rk pos in_keys.
      let o = over m is e rk in_keys in
      exact_kept (old_at p pk rk) (old_at q pk rk) (new_at p pk rk) (new_at q pk rk) (g.turned pk o.0 o.1 rk)
      (g.entries pk m o.0 o.1 is (at_most m e) (subst (λ x. ApartFrom (Epoch pk x keys.None) own) (sym e) apart) rk pos)
      (h.exact m (was m is e) e rk pos in_keys);
} where
  at_most : (m : Stored) → m.tag ≡ tag → m.tag.n ≤ p.new.counter
  at_most m e = let n : m.tag.n ≡ tag.n = ap (λ (x : Tag). x.n) e in omega (arith, h.past, n)

  was : (m : Stored) → new_at q pk marker_key ≡ Some m → m.tag ≡ tag → new_at p pk marker_key ≡ Some m
  was m is e = g.new.past pk marker_key m is (at_most m e)

  fills : (m : Stored) → new_at q pk marker_key ≡ Some m → m.tag ≡ tag → is_filling (new_state_at q pk) ≡ true
  fills m is e = ap (λ x. is_filling (new_state x)) is ∙ ap (λ c. is_filling (new_says c)) (h.filling m (was m is e) e)

  over : (m : Stored) → new_at q pk marker_key ≡ Some m → m.tag ≡ tag → (rk : List ℕ) → InKeys part rk → (mode p pk ≡ Overlaid) × (mode q pk ≡ Overlaid)
  over m is e rk in_keys = (stays_turned own p q pk s t g h.marked (fills m is e)).overlaid (h.turned m (was m is e) e rk in_keys)

clean_kept : (own : List Fact) (p q : Pair) (pk : List ℕ) (part : Keys) (rest : Option (List StoredRow)) → IsSound p → IsSound q → Grows own p q → KnowsClean p pk part rest → KnowsClean q pk part rest
clean_kept own p q pk part rest s t g h = record {
  moved = up (λ o n. is_use_new n) 5 use_new_rank p q pk s t (g.modes pk) h.moved;
  tombs = λ rk pos in_keys. g.tombs pk low rk pos (h.tombs rk pos in_keys);
  left = lefts rest h.left;
} where
  low : 5 ≤ rank (mode p pk)
  low = rank_from (λ o n. is_use_new n) 5 use_new_rank p pk s h.moved

  lefts : (x : Option (List StoredRow)) → IfSome x (λ rows. (rk : List ℕ) (r : Stored) → rk ≢ marker_key → old_at p pk rk ≡ Some r → row_in rows rk ≡ Some (shown rk r)) → IfSome x (λ rows. (rk : List ℕ) (r : Stored) → rk ≢ marker_key → old_at q pk rk ≡ Some r → row_in rows rk ≡ Some (shown rk r))
  lefts None h = tt
  lefts (Some rows) h = λ rk r pos is. elim (g.dropped pk low rk) as (λ _. row_in rows rk ≡ Some (shown rk r)) [
    | inl same ↦ h rk r pos (sym same ∙ is)
    | inr none ↦ absurd (let e = sym none ∙ is in cc)
  ]

swept_kept : (own : List Fact) (p q : Pair) (place : Option PkFrom) → IsSound p → IsSound q → Grows own p q → KnowsSwept p place → KnowsSwept q place
swept_kept own p q place s t g h = record {
  sealed = g.sealed h.sealed;
  moved = λ pk before there. elim (some_or (old_at p pk marker_key)) as (λ _. is_use_new (new_state_at q pk) ≡ true) [
    | inl none ↦ absurd (let e = ap is_some (sym (g.births h.sealed pk none marker_key)) ∙ there in cc)
    | inr was ↦ up (λ o n. is_use_new n) 5 use_new_rank p q pk s t (g.modes pk) (h.moved pk before was)
  ];
}

any_keys : (own : List Fact) (pk : List ℕ) (tag : Tag) (part : Keys) → ApartFrom (Epoch pk tag part) own → ApartFrom (Epoch pk tag keys.None) own
any_keys [] pk tag part h = tt
any_keys (f ∷ fs) pk tag part h = (one f h.0, any_keys fs pk tag part h.1) where
  one : (f : Fact) → Apart (Epoch pk tag part) f → Apart (Epoch pk tag keys.None) f
  one (Epoch a b c) h = h
  one (Row a b c d e) h = tt
  one (Kept a b c) h = tt
  one (Begun a) h = tt
  one (There a) h = tt
  one (Turned a b c) h = tt
  one (Closed a b) h = tt
  one (Moved a) h = tt
  one (Clean a b c) h = tt
  one (Swept a) h = tt
  one Retired h = tt

-- a fact that holds, and is apart from the facts of the actor whose step it is, holds after that step
pub fact_kept : (own : List Fact) (p q : Pair) (before after : Bool) → IsSound p → IsSound q → Grows own p q → (before ≡ true → after ≡ true)
    → (f : Fact) → Holds p before f → ApartFrom f own → Holds q after f
fact_kept own p q before after s t g r (Row Old pk rk props tag) h a = row_kept p.old q.old pk rk props tag g.old h
fact_kept own p q before after s t g r (Row New pk rk props tag) h a = row_kept p.new q.new pk rk props tag g.new h
fact_kept own p q before after s t g r (Kept pk rk tag) h a = kept_kept own p q pk rk tag g h
fact_kept own p q before after s t g r (Begun pk) h a = up is_begun 2 begun_rank p q pk s t (g.modes pk) h
fact_kept own p q before after s t g r (There pk) h a = up is_there 1 there_rank p q pk s t (g.modes pk) h
fact_kept own p q before after s t g r (Turned pk part rows) h a = turned_kept own p q pk part rows s t g h
fact_kept own p q before after s t g r (Closed low high) h a = record { sealed = g.sealed h.sealed; empty = λ pk from below. g.births h.sealed pk (h.empty pk from below marker_key) }
fact_kept own p q before after s t g r (Moved pk) h a = up (λ o n. is_use_new n) 5 use_new_rank p q pk s t (g.modes pk) h
fact_kept own p q before after s t g r (Epoch pk tag part) h a = epoch_kept own p q pk tag part s t g (any_keys own pk tag part a) h
fact_kept own p q before after s t g r (Clean pk part rest) h a = clean_kept own p q pk part rest s t g h
fact_kept own p q before after s t g r (Swept place) h a = swept_kept own p q place s t g h
fact_kept own p q before after s t g r Retired h a = r h
