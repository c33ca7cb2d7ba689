-- The grammar's steps as the reader takes them.
use Rattle.std.proofs.Common.{◌≡◌, ◌∙◌, ℕ, ◌+◌, ◌<◌, ◌==◌, true, false, List, [], Result, Ok, Err, refl, sym, ap, subst, arith}
use Rattle.mt_model.specs.declared.value.Value.{Value}
use Rattle.mt_filter.specs.declared.begin.Begin.{Begin}
use Rattle.mt_filter.specs.declared.begin.Begin.TheVariants.{Not, Open, Name}
use Rattle.mt_filter.specs.declared.chain.Chain.{Chain}
use Rattle.mt_filter.specs.declared.chain.Chain.TheVariants.{Or, And}
use Rattle.mt_filter.specs.declared.filter.Compare.{Compare}
use Rattle.mt_filter.specs.declared.filter.Field.{Field}
use Rattle.mt_filter.specs.declared.filter.FilterKind.{FilterKind}
use Rattle.mt_filter.specs.declared.filter.Filter.{Filter}
use Rattle.mt_filter.specs.declared.lexeme.LexemeKind.{LexemeKind}
use Rattle.mt_filter.specs.declared.reader.Halt.{Halt}
use Rattle.mt_filter.specs.declared.reader.Halt.TheVariants.{Bad, NoMemory}
use Rattle.mt_filter.specs.declared.reader.Reader.{Reader}
use Rattle.mt_filter.specs.Answer.{Answers}
use Rattle.mt_filter.specs.Begin.{begin_of}
use Rattle.mt_filter.specs.Literal.{IsValue}
use Rattle.mt_filter.specs.Tree.{Tree, test, not}
use Rattle.mt_filter.specs.Words.{begins_with_word, after_first_word}
use Rattle.mt_filter.specs.Grammar.{left, token, none, IsFirst, found, missed, IsSought, IsClosing, IsComparison, Reading, read, bad, word_of, Part, Reads, chain, more, operand, unary, from, word_of, with_operand, chained, stops, ends, joins, tests, encloses, negates, of_or, of_and, begins, nothing, at_end}

pub test_read : (field : Field) (compare : Compare) (value : Value) (place n m level : ℕ) (text after rest : List ℕ) → n < 15 → m ≡ n + 1
    → IsSought IsComparison text (found compare after) → IsSought IsValue after (found value rest)
    → Reads (from (Name field) place n text) level (read (test field compare value) m rest)
test_read field compare value place n m level text after rest few is c v =
    subst (λ (k : ℕ). Reads (from (Name field) place n text) level (read (test field compare value) k rest)) (sym is)
    (tests field place n level text (read (test field compare value) (n + 1) rest) few (found compare after, c, (found value rest, v, refl)))

pub compare_missed : (field : Field) (place n level : ℕ) (text : List ℕ) → n < 15 → (at : ℕ) (fault : FilterKind)
    → IsSought IsComparison text (missed at fault) → Reads (from (Name field) place n text) level (bad at fault)
compare_missed field place n level text few at fault s = tests field place n level text (bad at fault) few (missed at fault, s, refl)

pub literal_missed : (field : Field) (compare : Compare) (place n level : ℕ) (text after : List ℕ) → n < 15 → IsSought IsComparison text (found compare after)
    → (at : ℕ) (fault : FilterKind) → IsSought IsValue after (missed at fault) → Reads (from (Name field) place n text) level (bad at fault)
literal_missed field compare place n level text after few c at fault s =
    tests field place n level text (bad at fault) few (found compare after, c, (missed at fault, s, refl))

-- a fault of the first operand
pub chain_first : (c : Chain) (n level : ℕ) (text : List ℕ) → (at : ℕ) (fault : FilterKind)
    → Reads (operand c n text) level (bad at fault) → Reads (chain c n text) level (bad at fault)
chain_first c n level text at fault h = chained c n level text (bad at fault) (bad at fault) h (stops c at level fault)

-- the word follows, and then an operand
pub chain_goes : (c : Chain) (f : Tree) (n m level : ℕ) (text next word : List ℕ) → word ≡ word_of c → true ≡ begins_with_word word text
    → next ≡ after_first_word text → m ≡ n → (x r : Reading) → Reads (operand c m next) level x → Reads (more c (with_operand c f x)) level r → Reads (more c (read f n text)) level r
chain_goes c f n m level text next word is goes rest same x r h =
    let P : List ℕ → Type 0 = λ u. Reads (operand c n u) level x in
    let Q : ℕ → Type 0 = λ k. Reads (operand c k next) level x in
    joins c f n level text x r (ap (λ (w : List ℕ). begins_with_word w text) (sym is) ∙ sym goes) (subst P rest (subst Q same h))

pub chain_ends : (c : Chain) (f : Tree) (n m level : ℕ) (text next word : List ℕ) → word ≡ word_of c → false ≡ begins_with_word word text
    → next ≡ text → m ≡ n → Reads (more c (read f n text)) level (read f m next)
chain_ends c f n m level text next word is miss rest same =
    let P : List ℕ → Type 0 = λ u. Reads (more c (read f n text)) level (read f m u) in
    let Q : ℕ → Type 0 = λ k. Reads (more c (read f n text)) level (read f k text) in
    subst P (sym rest) (subst Q (sym same) (ends c f n level text (ap (λ (w : List ℕ). begins_with_word w text) (sym is) ∙ sym miss)))

-- an answer of a part that reads as another does
pub answers_of : (p q : Part) (level : ℕ) (after : Reader) (r : Result Filter Halt) → ((x : Reading) → Reads p level x → Reads q level x) → Answers p level after r → Answers q level after r
answers_of p q level after (Ok f) h is = h _ is
answers_of p q level after (Err (Bad stop)) h is = h _ is
answers_of p q level after (Err NoMemory) h is = tt

pub or_operand : (c : Chain) (n level : ℕ) (text : List ℕ) → c ≡ Or → (x : Reading) → Reads (chain And n text) level x → Reads (operand c n text) level x
or_operand c n level text is x h = subst (λ (d : Chain). Reads (operand d n text) level x) (sym is) (of_or n level text x h)

pub and_operand : (c : Chain) (n level : ℕ) (text : List ℕ) → c ≡ And → (x : Reading) → Reads (unary n text) level x → Reads (operand c n text) level x
and_operand c n level text is x h = subst (λ (d : Chain). Reads (operand d n text) level x) (sym is) (of_and n level text x h)

pub unary_goes : (b : Begin) (place n m level : ℕ) (text part rest : List ℕ) (kind : LexemeKind) → b ≡ begin_of kind part → place ≡ left text → m ≡ n
    → IsFirst text (token kind part rest) → (x : Reading) → Reads (from b place m rest) level x → Reads (unary n text) level x
unary_goes b place n m level text part rest kind is at same first x h =
    let P : Begin → Type 0 = λ d. Reads (from d place m rest) level x in
    let Q : ℕ → Type 0 = λ k. Reads (from (begin_of kind part) k m rest) level x in
    let R : ℕ → Type 0 = λ k. Reads (from (begin_of kind part) (left text) k rest) level x in
    begins n level text part rest kind x first (subst R same (subst Q at (subst P is h)))

pub unary_none : (place n level : ℕ) (text : List ℕ) (fault : FilterKind) → place ≡ left text → IsFirst text (none fault) → Reads (unary n text) level (bad place fault)
unary_none place n level text fault at first =
    subst (λ (k : ℕ). Reads (unary n text) level (bad k fault)) (sym at) (nothing n level text fault first)

pub negation_read : (f g : Tree) (place n m level : ℕ) (text rest : List ℕ) → level < 64 → g ≡ not f → Reads (unary n text) (level + 1) (read f m rest)
    → Reads (from Not place n text) level (read g m rest)
negation_read f g place n m level text rest few is h =
    subst (λ (t : Tree). Reads (from Not place n text) level (read t m rest)) (sym is) (negates place n level text (read f m rest) few h)

pub closed_read : (f : Tree) (place n m k level : ℕ) (text after rest : List ℕ) → level < 64 → k ≡ m → Reads (chain Or n text) (level + 1) (read f m after)
    → IsSought IsClosing after (found tt rest) → Reads (from Open place n text) level (read f k rest)
closed_read f place n m k level text after rest few same h s =
    subst (λ (i : ℕ). Reads (from Open place n text) level (read f i rest)) (sym same)
    (encloses place n level text (read f m after) (read f m rest) few h (found tt rest, s, refl))

pub not_closed : (f : Tree) (place n m level : ℕ) (text after : List ℕ) → level < 64 → Reads (chain Or n text) (level + 1) (read f m after)
    → (at : ℕ) (fault : FilterKind) → IsSought IsClosing after (missed at fault) → Reads (from Open place n text) level (bad at fault)
not_closed f place n m level text after few h at fault s = encloses place n level text (read f m after) (bad at fault) few h (missed at fault, s, refl)

pub end_reached : (f : Tree) (n place : ℕ) (text : List ℕ) (fault : FilterKind) → place ≡ left text → place ≡ 0 → read f n [] ≡ at_end f n text (none fault)
end_reached f n place text fault at zero =
    let is : left text ≡ 0 = sym at ∙ zero in
    rw is refl

pub end_bad : (f : Tree) (n place : ℕ) (text : List ℕ) (fault : FilterKind) → place ≡ left text → (place ≡ 0 → ⊥) → bad place fault ≡ at_end f n text (none fault)
end_bad f n place text fault at past =
    let miss : (left text == 0) ≡ false = grind (arith, at, past) in
    rw (miss, at) refl
