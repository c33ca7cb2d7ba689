-- Two stores that are a sound pair are a world without history, whose table at opening is what they show.
use Rattle.std.proofs.Common.{◌≡◌, ◌∙◌, ◌⊎◌, ℕ, ◌+◌, ◌≤◌, Bool, true, false, cond, ◌==◌, List, [], ◌∷◌, length, refl, sym, ap, subst, arith, inl, inr, bytes_eq, All, Option, Some, None, Ok, IfSome}
use Rattle.std.specs.Prelude.{option_map, codes}
use Rattle.std.proofs.lemmas.Bool.{and_parts}
use Rattle.std.proofs.lemmas.Bool.Decides.{nat_tests}
use Rattle.mt_model.specs.declared.entity.Entity.{Entity}
use Rattle.mt_model.specs.declared.tag.Tag.{Tag}
use Rattle.mt_model.specs.declared.name.Hidden.TheVariants as hidden
use Rattle.mt_model.specs.Props.{hidden_text}
use Rattle.mt_chain.specs.declared.row.Stored.{Stored}
use Rattle.mt_chain.specs.Rows.{Rows, row_at}
use Rattle.mt_chain.specs.StoreCall.{IsContents}
use Rattle.mt_chain.specs.Store.{Store}
use Rattle.mt_chain.specs.Table.{IsListing, table_of, rows_of}
use Rattle.mt_history.specs.Window.{replay}
use Rattle.mt_history.specs.Legal.{HasTag, all_tags}
use Rattle.mt_history.proofs.WindowLaws.{nothing_is_legal}
use Rattle.mt_meta.specs.declared.mark.Mark.{Mark}
use Rattle.mt_meta.specs.declared.mark.Mark.TheVariants.{Live, Copy, Tomb}
use Rattle.mt_meta.specs.Markers.{marker_key}
use Rattle.mt_meta.specs.Marks.{mark_of, kept_tag, seen_in, seen_tag}
use Rattle.mt_meta.specs.Logical.{Pair, Shown, OldState, NoOld, AtUseOld, AtPreferOld, AtPreferNew, BadOld, NewState, NoNew, AtFilling, AtUseNew, BadNew, shown_as, shown_with, from_old, new_by, from_new, filling_by, from_both, row_by, logical, old_at, new_at, old_state_at, new_state_at}
use Rattle.mt_meta.specs.Sound.{IsSound, IsKept}
use Rattle.mt_meta.specs.Steps.{as_row, logical_table, IsEmptied, IsGiven}
use Rattle.mt_open.specs.Opening.{OpensPair, is_emptied}
use Rattle.mt_world.specs.Worlds.{WorldState, IsReplayed, IsWorld, window_of, pair_of, faults_in, next_number, number_due}
use Rattle.mt_world.proofs.PairLaws.{some_of, for_pair, at_pair}
use Rattle.mt_world.proofs.EntryLaws.{no_tags}

-- ---- the tags that clients see of a sound pair were given

-- the tag that is seen of a row of old is its own, or the one that it keeps
seen_from : (kind : Option (List ℕ)) (kept : Option Tag) (own tag : Tag) → seen_in kind kept own ≡ Some tag → (tag ≡ own) ⊎ (kept ≡ Some tag)
seen_from None kept own tag e = inl (let same : tag ≡ own = cc in same)
seen_from (Some kind) kept own tag e = go (bytes_eq kind (codes "live")) e where
  go : (b : Bool) → cond b (Some own) kept ≡ Some tag → (tag ≡ own) ⊎ (kept ≡ Some tag)
  go true e = inl (let same : tag ≡ own = cc in same)
  go false e = inr e

keeps_tag : (m : Option Mark) (tag : Tag) → kept_tag m ≡ Some tag → m ≡ Some (Copy tag)
keeps_tag None tag e = absurd cc
keeps_tag (Some Live) tag e = absurd cc
keeps_tag (Some (Copy kept)) tag e = (let same : kept ≡ tag = cc in ap (λ t. Some (Copy t)) same)
keeps_tag (Some Tomb) tag e = absurd cc

shown_tag : (s : Shown) (x : Shown) → Some x ≡ Some s → s.tag ≡ x.tag
shown_tag s x e = (let same : s ≡ x = cc in ap (λ (y : Shown). y.tag) same)

-- new's number is the next one after old's
module _ (p : Pair) (sound : IsSound p) (next : p.new_number ≡ p.old_number + 1) (pk rk : List ℕ) where
  own_old : (row : Stored) → old_at p pk rk ≡ Some row → IsGiven p row.tag
  own_old row is = inl (sound.tags.0.number pk rk row is, (sound.tags.0.range pk rk row is).1)

  own_new : (row : Stored) → new_at p pk rk ≡ Some row → IsGiven p row.tag
  own_new row is = inr (inl (sound.tags.1.number pk rk row is, (sound.tags.1.range pk rk row is).1))

  kept_new : (tag : Tag) → IsKept p p.new_number tag → IsGiven p tag
  kept_new tag kept = go (tag.store == p.old_number) refl where
    go : (b : Bool) → (tag.store == p.old_number) ≡ b → IsGiven p tag
    go true e = (let same : tag.store ≡ p.old_number = grind (arith, nat_tests) in inl (same, kept.given same))
    go false e = inr (inr (let low = kept.below in let above = next in grind (arith, nat_tests)))

  old_shown : (row : Stored) (s : Shown) → old_at p pk rk ≡ Some row → (seen : Option Tag) → seen_tag row.props row.tag ≡ seen → shown_with row.props seen ≡ Some s → IsGiven p s.tag
  old_shown row s is None sees e = absurd cc
  old_shown row s is (Some tag) sees e = subst (IsGiven p) (sym (shown_tag s (shown_as row.props tag) e))
      (elim (seen_from (hidden_text row.props hidden.Kind) (kept_tag (mark_of row.props)) row.tag tag sees) as (λ _. IsGiven p tag) [
        | inl own ↦ subst (IsGiven p) (sym own) (own_old row is)
        | inr kept ↦ inr (inr (sound.tags.2 pk rk row tag is (keeps_tag (mark_of row.props) tag kept)).below)
      ])

  from_old_given : (o : Option Stored) (s : Shown) → old_at p pk rk ≡ o → from_old o ≡ Some s → IsGiven p s.tag
  from_old_given None s is e = absurd cc
  from_old_given (Some row) s is e = old_shown row s is (seen_tag row.props row.tag) refl e

  entry_given : (row : Stored) (s : Shown) (m : Option Mark) → new_at p pk rk ≡ Some row → mark_of row.props ≡ m → new_by m row ≡ Some s → IsGiven p s.tag
  entry_given row s None is mark e = absurd cc
  entry_given row s (Some Live) is mark e = subst (IsGiven p) (sym (shown_tag s (shown_as row.props row.tag) e)) (own_new row is)
  entry_given row s (Some (Copy kept)) is mark e = subst (IsGiven p) (sym (shown_tag s (shown_as row.props kept) e)) (kept_new kept (sound.tags.3 pk rk row kept is mark))
  entry_given row s (Some Tomb) is mark e = absurd cc

  from_new_given : (o : Option Stored) (s : Shown) → new_at p pk rk ≡ o → from_new o ≡ Some s → IsGiven p s.tag
  from_new_given None s is e = absurd cc
  from_new_given (Some row) s is e = entry_given row s (mark_of row.props) is refl e

  filling_given : (o : Option Stored) (row : Stored) (s : Shown) (m : Option Mark) → old_at p pk rk ≡ o → new_at p pk rk ≡ Some row → filling_by m row (from_old o) ≡ Some s → IsGiven p s.tag
  filling_given o row s None low is e = absurd cc
  filling_given o row s (Some Live) low is e = subst (IsGiven p) (sym (shown_tag s (shown_as row.props row.tag) e)) (own_new row is)
  filling_given o row s (Some (Copy kept)) low is e = from_old_given o s low e
  filling_given o row s (Some Tomb) low is e = absurd cc

  from_both_given : (o n : Option Stored) (s : Shown) → old_at p pk rk ≡ o → new_at p pk rk ≡ n → from_both o n ≡ Some s → IsGiven p s.tag
  from_both_given o None s low high e = from_old_given o s low e
  from_both_given o (Some row) s low high e = filling_given o row s (mark_of row.props) low high e

  by_states : (old : OldState) (new : NewState) (o n : Option Stored) (s : Shown) → old_at p pk rk ≡ o → new_at p pk rk ≡ n → row_by old new o n ≡ Some s → IsGiven p s.tag
  by_states AtUseOld new o n s low high e = from_old_given o s low e
  by_states AtPreferOld new o n s low high e = from_old_given o s low e
  by_states AtPreferNew NoNew o n s low high e = absurd cc
  by_states AtPreferNew AtFilling o n s low high e = from_both_given o n s low high e
  by_states AtPreferNew AtUseNew o n s low high e = from_new_given n s high e
  by_states AtPreferNew BadNew o n s low high e = absurd cc
  by_states NoOld NoNew o n s low high e = absurd cc
  by_states NoOld AtFilling o n s low high e = absurd cc
  by_states NoOld AtUseNew o n s low high e = from_new_given n s high e
  by_states NoOld BadNew o n s low high e = absurd cc
  by_states BadOld NoNew o n s low high e = absurd cc
  by_states BadOld AtFilling o n s low high e = absurd cc
  by_states BadOld AtUseNew o n s low high e = from_new_given n s high e
  by_states BadOld BadNew o n s low high e = absurd cc

  shown_given : (s : Shown) → logical p pk rk ≡ Some s → IsGiven p s.tag
  shown_given s e = go (bytes_eq rk marker_key) e where
    go : (b : Bool) → cond b None (row_by (old_state_at p pk) (new_state_at p pk) (old_at p pk rk) (new_at p pk rk)) ≡ Some s → IsGiven p s.tag
    go true e = absurd cc
    go false e = by_states (old_state_at p pk) (new_state_at p pk) (old_at p pk rk) (new_at p pk rk) s refl refl e

-- a row of the table is one that clients see, with its tag
as_shown : (o : Option Shown) (row : Stored) → option_map as_row o ≡ Some row → (s : Shown) × (o ≡ Some s) × (s.tag ≡ row.tag)
as_shown None row e = absurd cc
as_shown (Some s) row e = (let same : as_row s ≡ row = cc in (s, refl, ap (λ (r : Stored). r.tag) same))

listed_given : (p : Pair) (es : List Entity) → IsSound p → p.new_number ≡ p.old_number + 1 → IsListing es (logical_table p) → (tag : Tag) → HasTag (table_of (rows_of es)) tag → IsGiven p tag
listed_given p es sound next listing tag has =
    let s = as_shown (logical p has.0.pk has.0.rk) has.1 (sym (listing.rows has.0) ∙ has.2) in
    subst (IsGiven p) (s.2 ∙ has.3) (shown_given p sound next has.0.pk has.0.rk s.0 s.1)

-- ---- the world

no_rows : (rows : Rows) → (length rows == 0) ≡ true → (pk rk : List ℕ) → row_at rows pk rk ≡ None
no_rows [] h pk rk = refl
no_rows (r ∷ rows) h pk rk = absurd (let some : (length (r ∷ rows) == 0) ≡ false = grind (arith, nat_tests) in let x : true ≡ false = sym h ∙ some in cc)

emptied : (p : Pair) → is_emptied p.old ≡ true → IsEmptied p
emptied p e = (let both = and_parts p.old.sealed (length p.old.rows == 0) e in record { sealed = both.0; rows = no_rows p.old.rows both.1 })

-- a world without history over a sound pair
opened_replayed : (w : WorldState) (p : Pair) → p.new_number ≡ p.old_number + 1 → IsSound p × IsListing w.base (logical_table p) → IsContents p.old × IsContents p.new → w.history.entries ≡ [] → (w.retired ≡ is_emptied p.old) → IsReplayed w p
opened_replayed w p next found contents entries retired = record {
  sound = found.0;
  contents = contents;
  legal = nothing_is_legal (window_of w) entries;
  table = λ key. sym (found.1.rows key) ∙ sym (ap (λ es. replay (table_of (rows_of w.base)) es key) entries);
  given_before = listed_given p w.base found.0 next found.1;
  given_since = subst (λ es. All (IsGiven p) (all_tags es)) (sym entries) (no_tags (IsGiven p));
  retired = λ r. emptied p (sym retired ∙ r);
}

pub opened_world : (w : WorldState) (s s' : Store) → (w.old_store.number ≡ 0) × (w.new_store.number ≡ 1) → OpensPair s s' (Ok w.base) w.old_store w.new_store → w.history.first ≡ 0 → w.history.entries ≡ [] → w.history.limit ≤ 1048576
    → w.numbers ≡ [] → w.fault_entries ≡ 0 → w.generation ≡ 1 → IfSome w.old_store.told (λ c. w.retired ≡ is_emptied c) → w.opened_faults ≡ w.old_store.faults + w.new_store.faults → IsWorld w
opened_world w s s' numbers opens first entries bounded none no_faults generation retired faults = record {
  numbers = ((let a = numbers.0 in omega (arith, a, generation)), numbers.1 ∙ sym generation);
  whole = first;
  bounded = bounded;
  rising = opens.rising;
  replayed = for_pair w (IsReplayed w) (λ a b ea eb. opened_replayed w (pair_of w a b) next
      (at_pair w (λ p. IsSound p × IsListing w.base (logical_table p)) a b ea eb opens.shows) (some_of IsContents w.old_store.told a ea opens.contents.0, some_of IsContents w.new_store.told b eb opens.contents.1) entries (some_of (λ c. w.retired ≡ is_emptied c) w.old_store.told a ea retired));
  due = λ whole caller. ap (λ ns. next_number ns caller) none ∙ sym (ap (λ es. number_due es caller) entries);
  fault_entries = λ whole. no_faults ∙ sym (ap faults_in entries);
  faults = inl (omega (arith, faults, no_faults));
} where
  next : w.new_store.number ≡ w.old_store.number + 1
  next = (let a = numbers.0 in let b = numbers.1 in omega (arith, a, b))
