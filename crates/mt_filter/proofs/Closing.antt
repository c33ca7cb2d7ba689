-- The quote that ends an inside.
use Rattle.std.proofs.Common.{◌≡◌, ◌∙◌, ℕ, ◌+◌, ◌==◌, Bool, true, false, List, [], ◌∷◌, ◌++◌, length, take, Option, Some, None, if◌then◌else◌, sym, ap, subst, refl, arith}
use Rattle.std.proofs.lemmas.List.{take_at}
use Rattle.std.proofs.lemmas.Option.{same_Some, none-some}
use Rattle.mt_filter.specs.Quoted.{doubled, begins_quote, Closes}

abbrev mutual
  -- the place of the quote (39) that ends an inside, of which the rest begins at byte `at`
  pub closing : ℕ → List ℕ → Option ℕ
  closing at [] = None
  closing at (b ∷ bs) = if b == 39 then closing_unless_doubled at bs else closing (at + 1) bs

  -- the same where a quote stands at byte `at`
  pub closing_unless_doubled : ℕ → List ℕ → Option ℕ
  closing_unless_doubled at [] = Some at
  closing_unless_doubled at (b ∷ bs) = if b == 39 then closing (at + 2) bs else Some at

ends_there : (rest : List ℕ) (at : ℕ) → begins_quote rest ≡ false → closing_unless_doubled at rest ≡ Some at
ends_there [] at h = refl
ends_there (b ∷ bs) at h = rw h refl

passes_one : (c : ℕ) (text rest : List ℕ) (at : ℕ) (b : Bool) → (c == 39) ≡ b
    → ((at : ℕ) → closing at (doubled text ++ (39 ∷ rest)) ≡ Some (at + length (doubled text)))
    → closing at (doubled (c ∷ text) ++ (39 ∷ rest)) ≡ Some (at + length (doubled (c ∷ text)))
passes_one c text rest at true e ih =
    let size : at + 2 + length (doubled text) ≡ at + length (39 ∷ 39 ∷ doubled text) = omega arith in
    rw e (ih (at + 2) ∙ ap Some size)
passes_one c text rest at false e ih =
    let size : at + 1 + length (doubled text) ≡ at + length (c ∷ doubled text) = omega arith in
    rw (e, e) (ih (at + 1) ∙ ap Some size)

closing_at : (text rest : List ℕ) (at : ℕ) → begins_quote rest ≡ false → closing at (doubled text ++ (39 ∷ rest)) ≡ Some (at + length (doubled text))
closing_at [] rest at h =
    let size : at ≡ at + 0 = omega arith in
    ends_there rest at h ∙ ap Some size
closing_at (c ∷ text) rest at h = passes_one c text rest at (c == 39) refl (λ i. closing_at text rest i h)

-- where an inside is closed
pub closing_is : (bs text : List ℕ) → Closes bs text → closing 0 bs ≡ Some (length (doubled text))
closing_is bs text h =
    let size : 0 + length (doubled text) ≡ length (doubled text) = omega arith in
    ap (closing 0) h.1 ∙ closing_at text h.0 0 h.2 ∙ ap Some size

-- the inside is what stands before that quote
pub inside_is : (bs text : List ℕ) → Closes bs text → take (length (doubled text)) bs ≡ doubled text
inside_is bs text h = ap (take (length (doubled text))) h.1 ∙ take_at (doubled text) (39 ∷ h.0) (length (doubled text)) refl

-- one text has one inside
pub inside_one : (bs text other : List ℕ) → Closes bs text → Closes bs other → doubled text ≡ doubled other
inside_one bs text other h k =
    let size = same_Some _ _ (sym (closing_is bs text h) ∙ closing_is bs other k) in
    sym (inside_is bs text h) ∙ ap (λ (n : ℕ). take n bs) size ∙ inside_is bs other k

abbrev pub IsFound : List ℕ → ℕ → ℕ → Type 0
IsFound bs at n = (text : List ℕ) × Closes bs text × (n ≡ at + length (doubled text))

found_by : (b : ℕ) (bs : List ℕ) (at n : ℕ) (t : Bool) → (b == 39) ≡ t → (closing (at + 1) bs ≡ Some n → IsFound bs (at + 1) n)
    → (closing_unless_doubled at bs ≡ Some n → IsFound (39 ∷ bs) at n) → closing at (b ∷ bs) ≡ Some n → IsFound (b ∷ bs) at n
found_by b bs at n true e one two h =
    let is : b ≡ 39 = grind (arith, e) in
    subst (λ (c : ℕ). IsFound (c ∷ bs) at n) (sym is) (two (rw e at h))
found_by b bs at n false e one two h =
    let f = one (rw e at h) in
    let same : doubled (b ∷ f.0) ≡ b ∷ doubled f.0 = rw e refl in
    let size = ap (λ (xs : List ℕ). length xs) same in
    (b ∷ f.0, (f.1.0, ap (λ (xs : List ℕ). b ∷ xs) f.1.1 ∙ ap (λ (xs : List ℕ). xs ++ (39 ∷ f.1.0)) (sym same), f.1.2), omega (arith, f.2, size))

found_after : (b : ℕ) (bs : List ℕ) (at n : ℕ) (t : Bool) → (b == 39) ≡ t → (closing (at + 2) bs ≡ Some n → IsFound bs (at + 2) n)
    → closing_unless_doubled at (b ∷ bs) ≡ Some n → IsFound (39 ∷ b ∷ bs) at n
found_after b bs at n true e one h =
    let is : b ≡ 39 = grind (arith, e) in
    let f = one (rw e at h) in
    subst (λ (c : ℕ). IsFound (39 ∷ c ∷ bs) at n) (sym is)
    (39 ∷ f.0, (f.1.0, ap (λ (xs : List ℕ). 39 ∷ 39 ∷ xs) f.1.1, f.1.2), omega (arith, f.2))
found_after b bs at n false e one h =
    let same : at ≡ n = same_Some at n (rw e at h) in
    ([], (b ∷ bs, refl, e), omega (arith, same))

mutual
  found : (bs : List ℕ) (at n : ℕ) → closing at bs ≡ Some n → IsFound bs at n
  found [] at n h = absurd (none-some n h)
  found (b ∷ bs) at n h = found_by b bs at n (b == 39) refl (found bs (at + 1) n) (found_unless bs at n) h

  found_unless : (bs : List ℕ) (at n : ℕ) → closing_unless_doubled at bs ≡ Some n → IsFound (39 ∷ bs) at n
  found_unless [] at n h =
      let same : at ≡ n = same_Some at n h in
      ([], ([], refl, refl), omega (arith, same))
  found_unless (b ∷ bs) at n h = found_after b bs at n (b == 39) refl (found bs (at + 2) n) h

-- the text whose inside ends at a quote
pub closed_text : (bs : List ℕ) (n : ℕ) → closing 0 bs ≡ Some n → (text : List ℕ) × Closes bs text × (n ≡ length (doubled text))
closed_text bs n h =
    let f = found bs 0 n h in
    (f.0, f.1, omega (arith, f.2))

-- no inside is closed where no such quote stands
pub not_closed : (bs : List ℕ) → closing 0 bs ≡ None → (text : List ℕ) → Closes bs text → ⊥
not_closed bs none text h = none-some _ (sym none ∙ closing_is bs text h)
