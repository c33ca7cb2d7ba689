-- Reading goes on within a text: what follows is never longer, and no fault lies past the end.
use Rattle.std.proofs.Common.{◌≡◌, ℕ, ◌+◌, ◌<◌, ◌≤◌, ◌==◌, if◌then◌else◌, Bool, true, false, List, [], length, drop, take, Option, sym, ap, subst, arith, length-drop}
use Rattle.std.proofs.lemmas.List.{length-take}
use Rattle.std.proofs.lemmas.Slice.Eq.{bytes_eq-Decides}
use Rattle.mt_filter.specs.declared.chain.Chain.{Chain}
use Rattle.mt_filter.specs.declared.chain.Chain.TheVariants.{Or, And}
use Rattle.mt_filter.specs.declared.classes.Class.TheVariants.{Blank, Letter}
use Rattle.mt_filter.specs.declared.filter.Compare.{Compare}
use Rattle.mt_filter.specs.declared.filter.Field.{Field}
use Rattle.mt_filter.specs.declared.filter.FilterKind.{FilterKind}
use Rattle.mt_filter.specs.declared.lexeme.LexemeKind.{LexemeKind}
use Rattle.mt_filter.specs.Class.{run_length}
use Rattle.mt_filter.specs.Literal.{IsValue}
use Rattle.mt_filter.specs.Tree.{Tree}
use Rattle.mt_filter.specs.Words.{skipped, first_word, begins_with_word, after_first_word}
use Rattle.mt_filter.specs.Grammar.{left, First, token, none, IsFirst, Sought, found, missed, IsSought, IsClosing, IsComparison, Reading, read, bad, word_of, with_operand, negated, closed, IsClosed, tested, IsCompared, Part, chain, more, operand, unary, from, Reads, chained, stops, ends, joins, of_or, of_and, nothing, begins, other, deep_not, negates, deep_open, encloses, too_many, tests, at_end, IsEnded, IsWhole}

pub left_within : (text : List ℕ) → left text ≤ length text
left_within text = omega (arith, length-drop (run_length Blank text) text)

pub rest_within : (text part rest : List ℕ) (kind : LexemeKind) → IsFirst text (token kind part rest) → length rest ≤ length text
rest_within text part rest kind h =
    let size : length rest ≡ length (drop h.0.len (skipped text)) = ap (λ (xs : List ℕ). length xs) h.4 in
    omega (arith, size, length-drop h.0.len (skipped text), left_within text)

word_has_size : (c : Chain) → 0 < length (word_of c)
word_has_size Or = omega arith
word_has_size And = omega arith

word_first : (c : Chain) (text : List ℕ) → begins_with_word (word_of c) text ≡ true → first_word text ≡ word_of c
word_first c text is = (bytes_eq-Decides (first_word text) (word_of c)).0 is

pub word_passed : (c : Chain) (text : List ℕ) → begins_with_word (word_of c) text ≡ true → length (after_first_word text) < length text
word_passed c text is =
    let n = run_length Letter (skipped text) in
    let size : length (take n (skipped text)) ≡ length (word_of c) = ap (λ (xs : List ℕ). length xs) (word_first c text is) in
    omega (arith, size, word_has_size c, length-take n (skipped text), length-drop n (skipped text), left_within text)

-- the reading stays within so many bytes
abbrev pub IsReadWithin : Reading → ℕ → Type 0
IsReadWithin (read f n text) m = length text ≤ m
IsReadWithin (bad place fault) m = place ≤ m

abbrev pub IsSoughtWithin : {A : Type 0} → Sought A → ℕ → Type 0
IsSoughtWithin (found value rest) m = length rest ≤ m
IsSoughtWithin (missed place fault) m = place ≤ m

abbrev pub IsWithin : Part → ℕ → Type 0
IsWithin (chain c n text) m = length text ≤ m
IsWithin (more c x) m = IsReadWithin x m
IsWithin (operand c n text) m = length text ≤ m
IsWithin (unary n text) m = length text ≤ m
IsWithin (from b place n text) m = (place ≤ m) × (length text ≤ m)

sought_within : {A : Type 0} (Has : LexemeKind → List ℕ → Option A → Type 0) (text : List ℕ) (s : Sought A) (m : ℕ) → IsSought Has text s → length text ≤ m → IsSoughtWithin s m
sought_within Has text (found value rest) m h most = omega (arith, most, rest_within text h.1 rest h.0 h.2)
sought_within Has text (missed place fault) m h most = omega (arith, most, h.0, left_within text)

joined_within : (c : Chain) (f : Tree) (x : Reading) (m : ℕ) → IsReadWithin x m → IsReadWithin (with_operand c f x) m
joined_within c f (read g n text) m h = h
joined_within c f (bad place fault) m h = h

negated_within : (x : Reading) (m : ℕ) → IsReadWithin x m → IsReadWithin (negated x) m
negated_within (read g n text) m h = h
negated_within (bad place fault) m h = h

closed_as : (f : Tree) (n : ℕ) (s : Sought (Unit {0})) (m : ℕ) → IsSoughtWithin s m → IsReadWithin (closed f n s) m
closed_as f n (found value rest) m h = h
closed_as f n (missed place fault) m h = h

closed_within : (x r : Reading) (m : ℕ) → IsReadWithin x m → IsClosed x r → IsReadWithin r m
closed_within (bad place fault) r m h is = subst (λ (y : Reading). IsReadWithin y m) (sym is) h
closed_within (read f n text) r m h is =
    subst (λ (y : Reading). IsReadWithin y m) (sym is.2) (closed_as f n is.0 m (sought_within IsClosing text is.0 m is.1 h))

tested_as : (field : Field) (compare : Compare) (n : ℕ) (s : Sought _) (m : ℕ) → IsSoughtWithin s m → IsReadWithin (tested field compare n s) m
tested_as field compare n (found value rest) m h = h
tested_as field compare n (missed place fault) m h = h

compared_within : (field : Field) (n : ℕ) (s : Sought Compare) (r : Reading) (m : ℕ) → IsSoughtWithin s m → IsCompared field n s r → IsReadWithin r m
compared_within field n (missed place fault) r m h is = subst (λ (y : Reading). IsReadWithin y m) (sym is) h
compared_within field n (found compare text) r m h is =
    subst (λ (y : Reading). IsReadWithin y m) (sym is.2) (tested_as field compare n is.0 m (sought_within IsValue text is.0 m is.1 h))

-- what a part is read as stays within what it stays within
pub within : {p : Part} {level : ℕ} {r : Reading} → Reads p level r → (m : ℕ) → IsWithin p m → IsReadWithin r m
within (chained c n level text x r first goes) m h = within goes m (within first m h)
within (stops c place level fault) m h = h
within (ends c f n level text is) m h = h
within (joins c f n level text x r is next goes) m h =
    let less = word_passed c text is in
    within goes m (joined_within c f x m (within next m (omega (arith, less, h))))
within (of_or n level text r inner) m h = within inner m h
within (of_and n level text r inner) m h = within inner m h
within (nothing n level text fault first) m h = omega (arith, h, left_within text)
within (begins n level text part rest kind r first goes) m h =
    within goes m (omega (arith, h, left_within text), omega (arith, h, rest_within text part rest kind first))
within (other place n level text) m h = h.0
within (deep_not place n level text deep) m h = h.0
within (negates place n level text x shallow inner) m h = negated_within x m (within inner m h.1)
within (deep_open place n level text deep) m h = h.0
within (encloses place n level text x r shallow inner close) m h = closed_within x r m (within inner m h.1) close
within (too_many field place n level text many) m h = h.0
within (tests field place n level text r few is) m h = compared_within field (n + 1) is.0 r m (sought_within IsComparison text is.0 m is.1 h.1) is.2

cond_within : (b : Bool) (x y : Reading) (m : ℕ) → IsReadWithin x m → IsReadWithin y m → IsReadWithin (if b then x else y) m
cond_within true x y m h k = h
cond_within false x y m h k = k

at_end_within : (f : Tree) (n : ℕ) (text : List ℕ) (first : First) (m : ℕ) → length text ≤ m → IsReadWithin (at_end f n text first) m
at_end_within f n text (token kind part rest) m h = omega (arith, h, left_within text)
at_end_within f n text (none fault) m h =
    cond_within (left text == 0) (read f n []) (bad (left text) fault) m (omega arith) (omega (arith, h, left_within text))

ended_within : (x r : Reading) (m : ℕ) → IsReadWithin x m → IsEnded x r → IsReadWithin r m
ended_within (bad place fault) r m h is = subst (λ (y : Reading). IsReadWithin y m) (sym is) h
ended_within (read f n text) r m h is = subst (λ (y : Reading). IsReadWithin y m) (sym is.2) (at_end_within f n text is.0 m h)

-- a fault lies within the whole text
pub fault_within : (text : List ℕ) (place : ℕ) (fault : FilterKind) → IsWhole text (bad place fault) → place ≤ length text
fault_within text place fault h = ended_within h.0 (bad place fault) (length text) (within h.1 (length text) (omega arith)) h.2
