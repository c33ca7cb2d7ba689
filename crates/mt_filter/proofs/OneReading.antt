-- One text has one reading by the grammar.
use Rattle.std.proofs.Common.{◌≡◌, ◌∙◌, ℕ, ◌+◌, ◌<◌, ◌≤◌, ◌⊎◌, Bool, true, false, List, sym, ap, subst, inl, inr, ⊎_elim, refl, arith}
use Rattle.std.specs.Bool.{MatchBool}
use Rattle.std.proofs.lemmas.Bool.{MatchBool-at_true, MatchBool-at_false}
use Rattle.mt_filter.specs.declared.begin.Begin.TheVariants.{Not, Open, Name, Other}
use Rattle.mt_filter.specs.declared.chain.Chain.TheVariants.{Or, And}
use Rattle.mt_filter.specs.declared.filter.Compare.{Compare}
use Rattle.mt_filter.specs.declared.filter.Field.{Field}
use Rattle.mt_filter.specs.declared.filter.FilterKind.{FilterKind}
use Rattle.mt_filter.specs.declared.filter.FilterKind.TheVariants.{Token, Expected, TooManyComparisons, TooDeep}
use Rattle.mt_filter.specs.Begin.{begin_of}
use Rattle.mt_filter.specs.Literal.{IsValue}
use Rattle.mt_filter.specs.Tree.{Tree}
use Rattle.mt_filter.specs.Words.{begins_with_word, after_first_word}
use Rattle.mt_filter.specs.Grammar.{left, First, token, none, IsFirst, Sought, found, missed, IsClosing, IsComparison, Reading, read, bad, word_of, with_operand, negated, closed, IsClosed, tested, IsCompared, IsTest, Part, chain, more, operand, unary, from, Reads, chained, stops, ends, joins, of_or, of_and, nothing, begins, other, deep_not, negates, deep_open, encloses, too_many, tests, at_end, IsEnded, IsWhole, IsFilter, IsBad}
use Rattle.mt_filter.proofs.Unique.{IsOne, first_one, sought_one, value_sort, comparison_sort, closing_sort}

-- what goes on from what stands first
abbrev pub Starts : ℕ → List ℕ → ℕ → First → Reading → Type 0
Starts n text level (none fault) r = r ≡ bad (left text) fault
Starts n text level (token kind part rest) r = Reads (from (begin_of kind part) (left text) n rest) level r

-- what it means that a part is read so, by its last step
abbrev pub Means : Part → ℕ → Reading → Type 0
Means (chain c n text) level r = (x : Reading) × Reads (operand c n text) level x × Reads (more c x) level r
Means (more c (bad place fault)) level r = r ≡ bad place fault
Means (more c (read f n text)) level r =
    MatchBool (begins_with_word (word_of c) text)
    ((x : Reading) × Reads (operand c n (after_first_word text)) level x × Reads (more c (with_operand c f x)) level r)
    (r ≡ read f n text)
Means (operand Or n text) level r = Reads (chain And n text) level r
Means (operand And n text) level r = Reads (unary n text) level r
Means (unary n text) level r = (first : First) × IsFirst text first × Starts n text level first r
Means (from Other place n text) level r = r ≡ bad place Expected
Means (from Not place n text) level r =
    ((64 ≤ level) × (r ≡ bad place TooDeep)) ⊎ ((level < 64) × ((x : Reading) × Reads (unary n text) (level + 1) x × (r ≡ negated x)))
Means (from Open place n text) level r =
    ((64 ≤ level) × (r ≡ bad place TooDeep)) ⊎ ((level < 64) × ((x : Reading) × Reads (chain Or n text) (level + 1) x × IsClosed x r))
Means (from (Name field) place n text) level r =
    ((15 ≤ n) × (r ≡ bad place TooManyComparisons)) ⊎ ((n < 15) × IsTest field (n + 1) text r)

match_true : (b : Bool) (P Q : Type 0) → b ≡ true → P → MatchBool b P Q
match_true true P Q is h = h
match_true false P Q is h = absurd (cc)

match_false : (b : Bool) (P Q : Type 0) → b ≡ false → Q → MatchBool b P Q
match_false true P Q is h = absurd (cc)
match_false false P Q is h = h

means : {p : Part} {level : ℕ} {r : Reading} → Reads p level r → Means p level r
means (chained c n level text x r first goes) = (x, first, goes)
means (stops c place level fault) = refl
means (ends c f n level text is) = match_false (begins_with_word (word_of c) text) _ _ is refl
means (joins c f n level text x r is next goes) = match_true (begins_with_word (word_of c) text) _ _ is (x, next, goes)
means (of_or n level text r inner) = inner
means (of_and n level text r inner) = inner
means (nothing n level text fault first) = (none fault, first, refl)
means (begins n level text part rest kind r first goes) = (token kind part rest, first, goes)
means (other place n level text) = refl
means (deep_not place n level text deep) = inl (deep, refl)
means (negates place n level text x few inner) = inr (few, (x, inner, refl))
means (deep_open place n level text deep) = inl (deep, refl)
means (encloses place n level text x r few inner close) = inr (few, (x, inner, close))
means (too_many field place n level text many) = inl (many, refl)
means (tests field place n level text r few is) = inr (few, is)

closed_one : (x : Reading) → IsOne (IsClosed x)
closed_one (bad place fault) a b h k = h ∙ sym k
closed_one (read f n text) a b h k = h.2 ∙ ap (closed f n) (sought_one IsClosing text closing_sort h.0 k.0 h.1 k.1) ∙ sym k.2

compared_one : (field : Field) (n : ℕ) (s : Sought Compare) → IsOne (IsCompared field n s)
compared_one field n (missed place fault) a b h k = h ∙ sym k
compared_one field n (found compare text) a b h k = h.2 ∙ ap (tested field compare n) (sought_one IsValue text value_sort h.0 k.0 h.1 k.1) ∙ sym k.2

test_one : (field : Field) (n : ℕ) (text : List ℕ) → IsOne (IsTest field n text)
test_one field n text a b h k =
    let same = sought_one IsComparison text comparison_sort h.0 k.0 h.1 k.1 in
    compared_one field n k.0 a b (subst (λ (s : Sought Compare). IsCompared field n s a) same h.2) k.2

-- two readings of a part are one
reads_one : {p : Part} {level : ℕ} {a : Reading} → Reads p level a → (b : Reading) → Reads p level b → a ≡ b
reads_one (chained c n level text x r first goes) b h =
    let m = means h in
    let same = reads_one first m.0 m.1 in
    reads_one goes b (subst (λ (y : Reading). Reads (more c y) level b) (sym same) m.2)
reads_one (stops c place level fault) b h = sym (means h)
reads_one (ends c f n level text is) b h = sym (MatchBool-at_false _ _ is (means h))
reads_one (joins c f n level text x r is next goes) b h =
    let m = MatchBool-at_true _ _ is (means h) in
    let same = reads_one next m.0 m.1 in
    reads_one goes b (subst (λ (y : Reading). Reads (more c (with_operand c f y)) level b) (sym same) m.2)
reads_one (of_or n level text r inner) b h = reads_one inner b (means h)
reads_one (of_and n level text r inner) b h = reads_one inner b (means h)
reads_one (nothing n level text fault first) b h =
    let m = means h in
    let same = first_one text m.0 (none fault) m.1 first in
    sym (subst (λ (y : First). Starts n text level y b) same m.2)
reads_one (begins n level text part rest kind r first goes) b h =
    let m = means h in
    let same = first_one text m.0 (token kind part rest) m.1 first in
    reads_one goes b (subst (λ (y : First). Starts n text level y b) same m.2)
reads_one (other place n level text) b h = sym (means h)
reads_one (deep_not place n level text deep) b h = ⊎_elim (λ m. sym m.1) (λ m. absurd (omega (arith, deep, m.0))) (means h)
reads_one (negates place n level text x few inner) b h =
    ⊎_elim (λ m. absurd (omega (arith, few, m.0))) (λ m. ap negated (reads_one inner m.1.0 m.1.1) ∙ sym m.1.2) (means h)
reads_one (deep_open place n level text deep) b h = ⊎_elim (λ m. sym m.1) (λ m. absurd (omega (arith, deep, m.0))) (means h)
reads_one (encloses place n level text x r few inner close) b h =
    ⊎_elim (λ m. absurd (omega (arith, few, m.0)))
    (λ m. closed_one m.1.0 r b (subst (λ (y : Reading). IsClosed y r) (reads_one inner m.1.0 m.1.1) close) m.1.2) (means h)
reads_one (too_many field place n level text many) b h = ⊎_elim (λ m. sym m.1) (λ m. absurd (omega (arith, many, m.0))) (means h)
reads_one (tests field place n level text r few is) b h = ⊎_elim (λ m. absurd (omega (arith, few, m.0))) (λ m. test_one field (n + 1) text r b is m.1) (means h)

ended_one : (x : Reading) → IsOne (IsEnded x)
ended_one (bad place fault) a b h k = h ∙ sym k
ended_one (read f n text) a b h k = h.2 ∙ ap (at_end f n text) (first_one text h.0 k.0 h.1 k.1) ∙ sym k.2

-- a text is read in one way
whole_one : (text : List ℕ) → IsOne (IsWhole text)
whole_one text a b h k =
    let same = reads_one h.1 k.0 k.1 in
    ended_one k.0 a b (subst (λ (x : Reading). IsEnded x a) same h.2) k.2

tree_in : Tree → Reading → Tree
tree_in g (read f n text) = f
tree_in g (bad place fault) = g

place_in : Reading → ℕ
place_in (read f n text) = 0
place_in (bad place fault) = place

fault_in : Reading → FilterKind
fault_in (read f n text) = Token
fault_in (bad place fault) = fault

pub one_tree : (text : List ℕ) (f g : Tree) → IsFilter text f → IsFilter text g → f ≡ g
unfolding tree_in
one_tree text f g h k = ap (tree_in f) (whole_one text (read f h.0 h.1) (read g k.0 k.1) h.2 k.2)

pub one_fault : (text : List ℕ) (at place : ℕ) (kind fault : FilterKind) → IsBad text at kind → IsBad text place fault → (at ≡ place) × (kind ≡ fault)
unfolding place_in fault_in
one_fault text at place kind fault h k =
    let same = whole_one text (bad h.0 kind) (bad k.0 fault) h.1 k.1 in
    let left_same : h.0 ≡ k.0 = ap place_in same in
    (omega (arith, left_same, h.2, k.2), ap fault_in same)

pub not_both_ways : (text : List ℕ) (f : Tree) (at : ℕ) (kind : FilterKind) → IsFilter text f → IsBad text at kind → ⊥
not_both_ways text f at kind h k = let broken = whole_one text (read f h.0 h.1) (bad k.0 kind) h.2 k.1 in cc
