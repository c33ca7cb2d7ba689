-- Properties have one order in which their names rise.
use Rattle.std.proofs.Common.{◌≡◌, ◌⊎◌, inl, inr, ℕ, zero, suc, ◌<◌, List, [], ◌∷◌, length, get_or, All, IsPermutation, true≢false, Less, refl, sym, ap, ap₂, ◌∙◌, subst, arith}
use Rattle.std.specs.Ordering.{is_lt}
use Rattle.std.specs.List.Sorted.{IsStrictlySortedBy}
use Rattle.std.proofs.lemmas.List.Sorted.{All-permutation, IsPermutation-sym}
use Rattle.mt_model.specs.declared.value.Prop.{Prop}
use Rattle.mt_model.specs.Props.{names, RisingNames}
use Rattle.mt_json.proofs.RisingLaws.{cmp, IsBelow}
use Rattle.mt_json.proofs.ReadBackFind.{same_name}
use Rattle.mt_json.proofs.ReadBackMembers.{turned}

abbrev Among : Prop → List Prop → Type 0
Among p [] = ⊥
Among p (q ∷ qs) = (p ≡ q) ⊎ Among p qs

among_at : (ps : List Prop) (i : ℕ) (d : Prop) → i < length ps → Among (get_or ps i d) ps
among_at [] i d h = absurd (omega arith)
among_at (p ∷ ps) zero d h = inl refl
among_at (p ∷ ps) (suc i) d h = inr (among_at ps i d (omega arith))

taken : (P : Prop → Type 0) (ps : List Prop) (p : Prop) → All P ps → Among p ps → P p
taken P [] p h a = absurd a
taken P (q ∷ qs) p h (inl e) = subst P (sym e) (h 0 p (omega arith))
taken P (q ∷ qs) p h (inr a) = taken P qs p (λ i d l. h (suc i) d (omega arith)) a

among_both : (ps qs : List Prop) → IsPermutation ps qs → (p : Prop) → Among p qs → Among p ps
among_both ps qs perm p a = taken (λ p. Among p ps) qs p (All-permutation (λ p. Among p ps) ps qs perm (among_at ps)) a

below_among : (n : List ℕ) (ps : List Prop) (p : Prop) → Among p ps → IsBelow n (names ps) → cmp n p.name ≡ Less
below_among n [] p a h = absurd a
below_among n (q ∷ qs) p (inl e) h = ap (λ p. cmp n p.name) e ∙ h.0
below_among n (q ∷ qs) p (inr a) h = below_among n qs p a h.1

first_same : (p q : Prop) (ps qs : List Prop) → Among p (q ∷ qs) → Among q (p ∷ ps) → IsBelow p.name (names ps) → IsBelow q.name (names qs) → p ≡ q
first_same p q ps qs (inl e) b h k = e
first_same p q ps qs (inr a) (inl e) h k = sym e
first_same p q ps qs (inr a) (inr b) h k = absurd (turned p.name q.name (below_among p.name ps q b h) (below_among q.name qs p a k))

-- what is above the first property is not the first one
not_first : (p q x : Prop) (qs : List Prop) → p ≡ q → cmp p.name x.name ≡ Less → Among x (q ∷ qs) → Among x qs
not_first p q x qs same less (inl e) =
    absurd (true≢false (ap is_lt (sym less ∙ ap (λ y. cmp p.name y.name) (e ∙ sym same) ∙ same_name p.name)))
not_first p q x qs same less (inr a) = a

same_list : (ps qs : List Prop) → RisingNames ps → RisingNames qs → ((p : Prop) → Among p ps → Among p qs) → ((p : Prop) → Among p qs → Among p ps) → ps ≡ qs
unfolding IsStrictlySortedBy
same_list [] [] up vp f g = refl
same_list [] (q ∷ qs) up vp f g = absurd (g q (inl refl))
same_list (p ∷ ps) [] up vp f g = absurd (f p (inl refl))
same_list (p ∷ ps) (q ∷ qs) up vp f g =
    let same : p ≡ q = first_same p q ps qs (f p (inl refl)) (g q (inl refl)) up.0 vp.0 in
    let rest = same_list ps qs up.1 vp.1 (λ x a. not_first p q x qs same (below_among p.name ps x a up.0) (f x (inr a)))
    (λ x a. not_first q p x ps (sym same) (below_among q.name qs x a vp.0) (g x (inr a))) in
    ap₂ (λ x xs. x ∷ xs) same rest

pub one_order : (ps qs : List Prop) → RisingNames ps → RisingNames qs → IsPermutation ps qs → ps ≡ qs
one_order ps qs up vp perm = same_list ps qs up vp (among_both qs ps (IsPermutation-sym ps qs perm)) (among_both ps qs perm)
