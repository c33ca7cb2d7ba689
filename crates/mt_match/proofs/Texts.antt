-- Texts in their order, and the greatest and the least of two lists together.
use Rattle.std.proofs.Common.{◌≡◌, ℕ, List, [], ◌∷◌, ◌++◌, refl, subst, arith, Option, Some, None, Result, Ok, Err, IfOk}
use Rattle.std.specs.Prelude.{IsTrue}
use Rattle.std.specs.Option.{unwrap_or}
use Rattle.std.specs.List.{All, cons_option}
use Rattle.std.specs.Ordering.{is_le, ordering_reverse}
use Rattle.std.specs.declared.cmp.Ordering.{Ordering}
use Rattle.std.specs.declared.cmp.Ordering.TheVariants.{Less, Equal, Greater}
use Rattle.std.specs.Cmp.Lexicographic.{nat_list_cmp_total}
use Rattle.std.specs.BTreeMap.Comparable.{le_lt_trans}
use Rattle.std.proofs.lemmas.List.Elements.{All-append, All-weaker, All-cons, All-nil, All-contains, Contains-append_left, Contains-append_right}
use Rattle.mt_model.proofs.Places.{cmp, turned, same_name}
use Rattle.mt_match.specs.Bounds.{IsAtMost, IsGreatestOf, IsLeastOf, IsGreatest, IsLeast, IsLowEnd}

its_own_reverse : (o : Ordering) → o ≡ ordering_reverse o → IsTrue (is_le o)
its_own_reverse Less e = cc
its_own_reverse Equal e = refl
its_own_reverse Greater e = cc

pub at_most_itself : (a : List ℕ) → IsAtMost a a
at_most_itself a = its_own_reverse (cmp a a) (nat_list_cmp_total.antisymm a a)

at_most_next : (a b c : List ℕ) (o : Ordering) → cmp b c ≡ o → IsTrue (is_le o) → IsAtMost a b → IsAtMost a c
at_most_next a b c Less e l h = rw (le_lt_trans nat_list_cmp_total a b c h e) refl
at_most_next a b c Equal e l h = subst (λ x. IsAtMost a x) (same_name b c e) h
at_most_next a b c Greater e l h = cc

pub at_most_both : (a b c : List ℕ) → IsAtMost a b → IsAtMost b c → IsAtMost a c
at_most_both a b c h k = at_most_next a b c (cmp b c) refl k h

pub at_most_less : (a b : List ℕ) → cmp a b ≡ Less → IsAtMost a b
at_most_less a b e = rw e refl

pub at_most_equal : (a b : List ℕ) → cmp a b ≡ Equal → IsAtMost a b
at_most_equal a b e = rw e refl

pub at_most_turned_equal : (a b : List ℕ) → cmp a b ≡ Equal → IsAtMost b a
at_most_turned_equal a b e = rw (turned a b Equal e) refl

pub at_most_greater : (a b : List ℕ) → cmp a b ≡ Greater → IsAtMost b a
at_most_greater a b e = rw (turned a b Greater e) refl

-- the empty text is the least
pub empty_at_most : (a : List ℕ) → IsAtMost [] a
empty_at_most [] = refl
empty_at_most (n ∷ ns) = refl

pub greatest_left : (a b : List ℕ) (xs ys : List (List ℕ)) → IsGreatestOf a xs → IsGreatestOf b ys → IsAtMost b a → IsGreatestOf a (xs ++ ys)
greatest_left a b xs ys h k l =
    let within : All (λ other. IsAtMost other a) ys = All-weaker (λ other. IsAtMost other b) (λ other. IsAtMost other a) (λ x g. at_most_both x b a g l) ys k.1 in
    (Contains-append_left xs ys a h.0, All-append (λ other. IsAtMost other a) xs ys h.1 within)

pub greatest_right : (a b : List ℕ) (xs ys : List (List ℕ)) → IsGreatestOf a xs → IsGreatestOf b ys → IsAtMost a b → IsGreatestOf b (xs ++ ys)
greatest_right a b xs ys h k l =
    let within : All (λ other. IsAtMost other b) xs = All-weaker (λ other. IsAtMost other a) (λ other. IsAtMost other b) (λ x g. at_most_both x a b g l) xs h.1 in
    (Contains-append_right xs ys b k.0, All-append (λ other. IsAtMost other b) xs ys within k.1)

pub least_left : (a b : List ℕ) (xs ys : List (List ℕ)) → IsLeastOf a xs → IsLeastOf b ys → IsAtMost a b → IsLeastOf a (xs ++ ys)
least_left a b xs ys h k l =
    let within : All (λ other. IsAtMost a other) ys = All-weaker (λ other. IsAtMost b other) (λ other. IsAtMost a other) (λ x g. at_most_both a b x l g) ys k.1 in
    (Contains-append_left xs ys a h.0, All-append (λ other. IsAtMost a other) xs ys h.1 within)

pub least_right : (a b : List ℕ) (xs ys : List (List ℕ)) → IsLeastOf a xs → IsLeastOf b ys → IsAtMost b a → IsLeastOf b (xs ++ ys)
least_right a b xs ys h k l =
    let within : All (λ other. IsAtMost b other) xs = All-weaker (λ other. IsAtMost a other) (λ other. IsAtMost b other) (λ x g. at_most_both b a x l g) xs h.1 in
    (Contains-append_right xs ys b k.0, All-append (λ other. IsAtMost b other) xs ys within k.1)

-- the one text of a list, or none of the empty one
pub greatest_one : (o : Option (List ℕ)) → IsGreatest o (cons_option o [])
greatest_one None = refl
greatest_one (Some a) = let P : List ℕ → Type 0 = λ other. IsAtMost other a in ((0, omega arith, refl), All-cons P a [] (at_most_itself a) (All-nil P))

pub least_one : (o : Option (List ℕ)) → IsLeast o (cons_option o [])
least_one None = refl
least_one (Some a) = let P : List ℕ → Type 0 = λ other. IsAtMost a other in ((0, omega arith, refl), All-cons P a [] (at_most_itself a) (All-nil P))

-- the greatest text, with the empty text in place of none
pub low_end : (o : Option (List ℕ)) (texts : List (List ℕ)) (end : List ℕ) → IsGreatest o texts → end ≡ unwrap_or o [] → IsLowEnd end texts
low_end None [] end h e = e
low_end None (x ∷ xs) end h e = cc
low_end (Some a) [] end h e = absurd (omega (arith, h.0.1))
low_end (Some a) (x ∷ xs) end h e = rw e h

pub below_all : (end k : List ℕ) (texts : List (List ℕ)) → IsLowEnd end texts → All (λ text. IsAtMost text k) texts → IsAtMost end k
below_all end k [] e h = rw e (empty_at_most k)
below_all end k (x ∷ xs) e h = All-contains (λ text. IsAtMost text k) (x ∷ xs) end h e.0

pub above_all : (end k : List ℕ) (texts : List (List ℕ)) → IsLeastOf end texts → All (λ text. IsAtMost k text) texts → IsAtMost k end
above_all end k texts e h = All-contains (λ text. IsAtMost k text) texts end h e.0

pub copied_low : {E : Type 0} (r : Result (List ℕ) E) (text : List ℕ) (texts : List (List ℕ)) → IfOk r (λ end. end ≡ text) → IsGreatest (Some text) texts
    → IfOk r (λ end. IsLowEnd end texts)
copied_low (Ok end) text texts e h = low_end (Some text) texts end h e
copied_low (Err f) text texts e h = tt
