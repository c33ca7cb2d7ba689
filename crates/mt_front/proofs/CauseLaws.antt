-- How the causes of faults add up.
use Rattle.std.proofs.Common.{◌≡◌, ◌+◌, ◌-◌, ◌^◌, ◌≤◌, min, Bool, true, false, List, [], ◌∷◌, ◌++◌, refl, sym, subst, arith, inl, inr}
use Rattle.std.specs.Prelude.{◌⊎◌}
use Rattle.std.proofs.lemmas.Bool.{cases_lt}
use Rattle.mt_chain.specs.Store.{Rose}
use Rattle.mt_world.specs.WholeCalls.{Mark}
use Rattle.mt_front.specs.Items.{Item, is_fault, faults_of}
use Rattle.mt_front.specs.Answers.{Counts, AtMost, IsCaused, AreCaused, AreCausedTo}

pub most_self : (s : Counts) → AtMost s s
most_self s = record { old_store = omega arith; new_store = omega arith }

pub most_then : (s t u : Counts) → AtMost s t → AtMost t u → AtMost s u
most_then s t u p q = record { old_store = omega (arith, p.old_store, q.old_store); new_store = omega (arith, p.new_store, q.new_store) }

-- one item more
pub caused_more : (s t u : Counts) (items : List Item) (i : Item) → AreCaused s items t → IsCaused t i u → AreCaused s (items ++ i ∷ []) u
caused_more s t u [] i h c = (u, subst (λ n. IsCaused n i u) h c, refl)
caused_more s t u (j ∷ items) i h c = (h.0, h.1, caused_more h.0 t u items i h.2 c)

-- a count at its end says nothing more
abbrev AtEnd : Counts → Type 0
AtEnd t = (2 ^ 64 - 1 ≤ t.old_store) ⊎ (2 ^ 64 - 1 ≤ t.new_store)

faults_first : (i : Item) (items : List Item) (b : Bool) → is_fault i.outcome ≡ b → faults_of (i ∷ items) ≡ faults_of (i ∷ []) + faults_of items
faults_first i items true e = rw e (omega arith)
faults_first i items false e = rw e (omega arith)

all_later : (s t : Counts) (items : List Item) → AreCaused s items t → AtMost s t
all_later s t [] h = subst (AtMost s) (sym h) (most_self s)
all_later s t (i ∷ items) h = most_then s h.0 t h.1.later (all_later h.0 t items h.2)

rose_sum : (s t : Counts) → AtMost s t → Rose s.old_store t.old_store ⊎ Rose s.new_store t.new_store → (s.old_store + s.new_store + 1 ≤ t.old_store + t.new_store) ⊎ AtEnd t
rose_sum s t p (inl h) =
    let r : min (s.old_store + 1) (2 ^ 64 - 1) ≤ t.old_store = h in
    elim (cases_lt t.old_store (2 ^ 64 - 1)) as (λ _. (s.old_store + s.new_store + 1 ≤ t.old_store + t.new_store) ⊎ AtEnd t) [
      | inl lt ↦ inl (omega (arith, p.new_store, r, lt))
      | inr ge ↦ inr (inl ge)
    ]
rose_sum s t p (inr h) =
    let r : min (s.new_store + 1) (2 ^ 64 - 1) ≤ t.new_store = h in
    elim (cases_lt t.new_store (2 ^ 64 - 1)) as (λ _. (s.old_store + s.new_store + 1 ≤ t.old_store + t.new_store) ⊎ AtEnd t) [
      | inl lt ↦ inl (omega (arith, p.old_store, r, lt))
      | inr ge ↦ inr (inr ge)
    ]

one_sum : (s t : Counts) (i : Item) (b : Bool) → is_fault i.outcome ≡ b → IsCaused s i t → (s.old_store + s.new_store + faults_of (i ∷ []) ≤ t.old_store + t.new_store) ⊎ AtEnd t
one_sum s t i false e c = let none : faults_of (i ∷ []) ≡ 0 = rw e refl in inl (omega (arith, none, c.later.old_store, c.later.new_store))
one_sum s t i true e c =
    let one : faults_of (i ∷ []) ≡ 1 = rw e refl in
    elim (rose_sum s t c.later (c.rose e)) as (λ _. (s.old_store + s.new_store + faults_of (i ∷ []) ≤ t.old_store + t.new_store) ⊎ AtEnd t) [
      | inl h ↦ inl (omega (arith, one, h))
      | inr h ↦ inr h
    ]

end_later : (s t : Counts) → AtMost s t → AtEnd s → AtEnd t
end_later s t p (inl h) = inl (omega (arith, h, p.old_store))
end_later s t p (inr h) = inr (omega (arith, h, p.new_store))

-- items that were answered that a store failed are no more than the rise of the two counts together
caused_sum : (s t : Counts) (items : List Item) → AreCaused s items t → (s.old_store + s.new_store + faults_of items ≤ t.old_store + t.new_store) ⊎ ((2 ^ 64 - 1 ≤ t.old_store) ⊎ (2 ^ 64 - 1 ≤ t.new_store))
caused_sum s t [] h = let le : AtMost s t = all_later s t [] h in inl (omega (arith, le.old_store, le.new_store))
caused_sum s t (i ∷ items) h =
    let sum : faults_of (i ∷ items) ≡ faults_of (i ∷ []) + faults_of items = faults_first i items (is_fault i.outcome) refl in
    elim (one_sum s h.0 i (is_fault i.outcome) refl h.1) as (λ _. (s.old_store + s.new_store + faults_of (i ∷ items) ≤ t.old_store + t.new_store) ⊎ AtEnd t) [
      | inr at ↦ inr (end_later h.0 t (all_later h.0 t items h.2) at)
      | inl one ↦ elim (caused_sum h.0 t items h.2) as (λ _. (s.old_store + s.new_store + faults_of (i ∷ items) ≤ t.old_store + t.new_store) ⊎ AtEnd t) [
        | inr at ↦ inr at
        | inl rest ↦ inl (omega (arith, sum, one, rest))
      ]
    ]

-- ---- up to an item that broke off

pub caused_whole : (s t : Counts) (items : List Item) → AreCausedTo s items [] t → AreCaused s items t
caused_whole s t items h = subst (AreCaused s items) (sym (h.still refl)) h.items_are

pub caused_all : (s t : Counts) (items : List Item) → AreCaused s items t → AreCausedTo s items [] t
caused_all s t items h = record { at = t; items_are = h; later = most_self t; still = λ e. refl }

pub caused_to_sum : (s t : Counts) (items : List Item) (broken : List Mark) → AreCausedTo s items broken t → (s.old_store + s.new_store + faults_of items ≤ t.old_store + t.new_store) ⊎ ((2 ^ 64 - 1 ≤ t.old_store) ⊎ (2 ^ 64 - 1 ≤ t.new_store))
caused_to_sum s t items broken h = elim (caused_sum s h.at items h.items_are) as (λ _. (s.old_store + s.new_store + faults_of items ≤ t.old_store + t.new_store) ⊎ AtEnd t) [
  | inl sum ↦ let le : AtMost h.at t = h.later in inl (omega (arith, sum, le.old_store, le.new_store))
  | inr at ↦ inr (end_later h.at t h.later at)
]
