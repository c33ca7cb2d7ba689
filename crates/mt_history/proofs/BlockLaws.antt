-- Entries in full blocks, and those behind them.
use Rattle.std.proofs.Common.{◌≡◌, ℕ, zero, suc, ◌+◌, ◌*◌, ◌<◌, ◌≤◌, List, [], ◌∷◌, ◌++◌, length, append_assoc, refl, sym, ap, ◌∙◌, arith}
use Rattle.std.specs.Prelude.{Option, Some, None, Vec, unwrap_or}
use Rattle.std.specs.List.{slice_get}
use Rattle.std.proofs.lemmas.List.{length-append}
use Rattle.std.proofs.lemmas.Option.{none-some, slice_get_past}
use Rattle.mt_history.specs.declared.entry.Entry.{Entry}
use Rattle.mt_history.specs.Stacks.{joined, AreFull}

module _ {X : Type 0} where
  get_first : (xs ys : List X) (i : ℕ) → i < length xs → slice_get (xs ++ ys) i ≡ slice_get xs i
  get_first [] ys i l = absurd (omega arith)
  get_first (x ∷ xs) ys zero l = refl
  get_first (x ∷ xs) ys (suc i) l = get_first xs ys i (omega arith)

  get_second : (xs ys : List X) (i : ℕ) → slice_get (xs ++ ys) (length xs + i) ≡ slice_get ys i
  get_second [] ys i = (let none : 0 + i ≡ i = omega arith in ap (slice_get ys) none)
  get_second (x ∷ xs) ys i =
      let on : length (x ∷ xs) + i ≡ suc (length xs + i) = omega arith in
      ap (slice_get ((x ∷ xs) ++ ys)) on ∙ get_second xs ys i

-- where nothing stands the list has ended
module _ {X : Type 0} where
  pub none_past : (xs : List X) (i : ℕ) → slice_get xs i ≡ None → length xs ≤ i
  none_past [] i none = omega arith
  none_past (x ∷ xs) zero none = absurd (none-some x (sym none))
  none_past (x ∷ xs) (suc i) none = (let rest = none_past xs i none in omega (arith, rest))

module _ {A : Type 0} where
  -- full blocks have 1,024 entries each
  pub joined_length : (bs : List (Vec Entry A)) → AreFull bs → length (joined bs) ≡ length bs * 1024
  joined_length [] full = refl
  joined_length (b ∷ bs) full =
      let both = length-append b.items (joined bs) in
      let rest = joined_length bs full.1 in
      let first = full.0 in
      omega (arith, both, rest, first)

  -- what stands at a place behind full blocks
  pub behind_full : (bs : List (Vec Entry A)) (last : List Entry) (at place : ℕ) → AreFull bs → at ≡ length bs * 1024 + place → slice_get (joined bs ++ last) at ≡ slice_get last place
  behind_full bs last at place full is =
      let long = joined_length bs full in
      let at_is : at ≡ length (joined bs) + place = omega (arith, long, is) in
      ap (slice_get (joined bs ++ last)) at_is ∙ get_second (joined bs) last place

  -- what stands at a place of a full block
  pub in_full : (bs : List (Vec Entry A)) (last : List Entry) (at block place : ℕ) (b : Vec Entry A) → AreFull bs → slice_get bs block ≡ Some b → place < 1024 → at ≡ block * 1024 + place
      → slice_get (joined bs ++ last) at ≡ slice_get b.items place
  in_full [] last at block place b full found inside is = absurd (none-some b found)
  in_full (x ∷ bs) last at zero place b full found inside is =
      let first = full.0 in
      let at_is : at ≡ place = omega (arith, is) in
      ap (slice_get ((x.items ++ joined bs) ++ last)) at_is
      ∙ ap (λ l. slice_get l place) (append_assoc x.items (joined bs) last)
      ∙ get_first x.items (joined bs ++ last) place (omega (arith, first, inside))
      ∙ ap (λ (o : Option (Vec Entry A)). slice_get (unwrap_or o x).items place) found
  in_full (x ∷ bs) last at (suc block) place b full found inside is =
      let first = full.0 in
      let at_is : at ≡ length x.items + (block * 1024 + place) = omega (arith, first, is) in
      ap (slice_get ((x.items ++ joined bs) ++ last)) at_is
      ∙ ap (λ l. slice_get l (length x.items + (block * 1024 + place))) (append_assoc x.items (joined bs) last)
      ∙ get_second x.items (joined bs ++ last) (block * 1024 + place)
      ∙ in_full bs last (block * 1024 + place) block place b full.1 found inside refl

  -- nothing stands past them
  pub past_full : (bs : List (Vec Entry A)) (last : List Entry) (at block : ℕ) → AreFull bs → length last ≤ 1024 → length bs < block → block * 1024 ≤ at → slice_get (joined bs ++ last) at ≡ None
  past_full bs last at block full few over is =
      let long = joined_length bs full in
      let both = length-append (joined bs) last in
      slice_get_past (joined bs ++ last) at (omega (arith, long, both, few, over, is))
