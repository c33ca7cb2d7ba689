-- The grammar of filters: what the rest of a text is read as.
--   or    = and { "or" and }
--   and   = unary { "and" unary }
--   unary = "not" unary | "(" or ")" | name compare literal
use Rattle.std.specs.Prelude.{◌≡◌, ℕ, ◌+◌, ◌<◌, ◌≤◌, ◌⊎◌, ◌==◌, true, false, List, [], length, codes, if◌then◌else◌, Option, Some, None, Err}
use Rattle.mt_model.specs.declared.value.Value.{Value}
use Rattle.mt_filter.specs.Words.{skipped, begins_with_word, after_first_word, compare_of}
use Rattle.mt_filter.specs.Lexeme.{IsLexeme, IsNext}
use Rattle.mt_filter.specs.Literal.{IsValue}
use Rattle.mt_filter.specs.Begin.{begin_of}
use Rattle.mt_filter.specs.Tree.{Tree, test, not, and, or}
use Rattle.mt_filter.specs.declared.filter.Compare.{Compare}
use Rattle.mt_filter.specs.declared.filter.Field.{Field}
use Rattle.mt_filter.specs.declared.filter.FilterKind.{FilterKind}
use Rattle.mt_filter.specs.declared.filter.FilterKind.TheVariants.{Expected, TooManyComparisons, TooDeep}
use Rattle.mt_filter.specs.declared.lexeme.LexemeKind.{LexemeKind}
use Rattle.mt_filter.specs.declared.lexeme.LexemeKind.TheVariants.{Word, Open, Close, Text, Binary, Guid, Moment, Int32, Int64}
use Rattle.mt_filter.specs.declared.begin.Begin.{Begin}
use Rattle.mt_filter.specs.declared.begin.Begin.TheVariants.{Not, Open as Opens, Name, Other}
use Rattle.mt_filter.specs.declared.chain.Chain.{Chain}
use Rattle.mt_filter.specs.declared.chain.Chain.TheVariants.{Or, And}

-- the bytes that a text has from its first token on
abbrev pub left : List ℕ → ℕ
left text = length (skipped text)

-- what stands first in a text, after blanks: a token, with the part of the text that says its value and
-- what follows it, or none
pub data First : Type 0 where
  token : LexemeKind → List ℕ → List ℕ → First
  none : FilterKind → First

-- this stands first in the text
abbrev pub IsFirst : List ℕ → First → Type 0
IsFirst text (token kind part rest) = IsNext (skipped text) kind part rest
IsFirst text (none fault) = IsLexeme (skipped text) (Err fault)

-- what came of a search: a value with what follows its token, or a fault with the bytes that remain from its place on
pub data Sought (A : Type 0) : Type 0 where
  found : A → List ℕ → Sought A
  missed : ℕ → FilterKind → Sought A

-- what came of a search for a token that has a value of this sort
abbrev pub IsSought : {A : Type 0} → (LexemeKind → List ℕ → Option A → Type 0) → List ℕ → Sought A → Type 0
IsSought Has text (found value rest) =
    (kind : LexemeKind) × (part : List ℕ) × IsFirst text (token kind part rest) × Has kind part (Some value)
IsSought Has text (missed remaining fault) =
    (remaining ≡ left text) × (IsFirst text (none fault)
    ⊎ ((kind : LexemeKind) × (part : List ℕ) × (rest : List ℕ) × IsFirst text (token kind part rest) × Has kind part None × (fault ≡ Expected)))

-- the comparison that a token names
abbrev pub comparison_of : LexemeKind → List ℕ → Option Compare
comparison_of Word part = compare_of part
comparison_of Open part = None
comparison_of Close part = None
comparison_of Text part = None
comparison_of Binary part = None
comparison_of (Guid bytes) part = None
comparison_of (Moment ticks) part = None
comparison_of (Int32 n) part = None
comparison_of (Int64 n) part = None

-- a token has this comparison, or none
abbrev pub IsComparison : LexemeKind → List ℕ → Option Compare → Type 0
IsComparison kind part compare = compare ≡ comparison_of kind part

-- a token is a parenthesis that closes, or is none
abbrev pub IsClosing : LexemeKind → List ℕ → Option (Unit {0}) → Type 0
IsClosing Close part o = o ≡ Some tt
IsClosing Word part o = o ≡ None
IsClosing Open part o = o ≡ None
IsClosing Text part o = o ≡ None
IsClosing Binary part o = o ≡ None
IsClosing (Guid bytes) part o = o ≡ None
IsClosing (Moment ticks) part o = o ≡ None
IsClosing (Int32 n) part o = o ≡ None
IsClosing (Int64 n) part o = o ≡ None

-- what came of reading: a tree, with how many tests were read so far and what follows, or a fault with
-- the bytes that remain from its place on
pub data Reading : Type 0 where
  read : Tree → ℕ → List ℕ → Reading
  bad : ℕ → FilterKind → Reading

-- the word that goes on a chain
abbrev pub word_of : Chain → List ℕ
word_of Or = codes "or"
word_of And = codes "and"

-- two trees joined by a chain
abbrev pub joined : Chain → Tree → Tree → Tree
joined Or f g = or f g
joined And f g = and f g

-- what a chain has come to with its next operand, whose fault is the chain's
abbrev pub with_operand : Chain → Tree → Reading → Reading
with_operand chain f (read g n rest) = read (joined chain f g) n rest
with_operand chain f (bad remaining fault) = bad remaining fault

-- `not` of what was read
abbrev pub negated : Reading → Reading
negated (read f n rest) = read (not f) n rest
negated (bad remaining fault) = bad remaining fault

-- a tree, if the parenthesis that closes was found
abbrev pub closed : Tree → ℕ → Sought (Unit {0}) → Reading
closed f n (found value rest) = read f n rest
closed f n (missed remaining fault) = bad remaining fault

-- what an `or` in parentheses is read as, with the parenthesis that closes it
abbrev pub IsClosed : Reading → Reading → Type 0
IsClosed (bad remaining fault) r = r ≡ bad remaining fault
IsClosed (read f n text) r = (s : Sought (Unit {0})) × IsSought IsClosing text s × (r ≡ closed f n s)

-- the n-th test, if its literal was found
abbrev pub tested : Field → Compare → ℕ → Sought Value → Reading
tested field compare n (found value rest) = read (test field compare value) n rest
tested field compare n (missed remaining fault) = bad remaining fault

-- the n-th test, if its comparison was found, by the literal after it
abbrev pub IsCompared : Field → ℕ → Sought Compare → Reading → Type 0
IsCompared field n (missed remaining fault) r = r ≡ bad remaining fault
IsCompared field n (found compare text) r = (s : Sought Value) × IsSought IsValue text s × (r ≡ tested field compare n s)

-- the n-th test, after its name: a comparison, and then a literal
abbrev pub IsTest : Field → ℕ → List ℕ → Reading → Type 0
IsTest field n text r = (s : Sought Compare) × IsSought IsComparison text s × IsCompared field n s r

-- the parts of the grammar, each before a text that has n tests before it: a chain, what goes on from what
-- a chain has come to, an operand of a chain, a unary, and what goes on from the token of a unary, which
-- has `remaining` bytes from it on
pub data Part : Type 0 where
  chain : Chain → ℕ → List ℕ → Part
  more : Chain → Reading → Part
  operand : Chain → ℕ → List ℕ → Part
  unary : ℕ → List ℕ → Part
  from : Begin → ℕ → ℕ → List ℕ → Part

-- what a part is read as within so many levels of parentheses and `not`
pub data Reads : Part → ℕ → Reading → Type 0 where
  -- a chain is an operand, and what goes on from it
  chained : (c : Chain) (n level : ℕ) (text : List ℕ) (x r : Reading) → Reads (operand c n text) level x → Reads (more c x) level r → Reads (chain c n text) level r
  -- nothing goes on from a fault
  stops : (c : Chain) (remaining level : ℕ) (fault : FilterKind) → Reads (more c (bad remaining fault)) level (bad remaining fault)
  -- where the chain's word does not follow, the chain is read
  ends : (c : Chain) (f : Tree) (n level : ℕ) (text : List ℕ) → begins_with_word (word_of c) text ≡ false → Reads (more c (read f n text)) level (read f n text)
  -- where it follows, the next operand is joined with all that stands before it
  joins : (c : Chain) (f : Tree) (n level : ℕ) (text : List ℕ) (x r : Reading) → begins_with_word (word_of c) text ≡ true → Reads (operand c n (after_first_word text)) level x → Reads (more c (with_operand c f x)) level r → Reads (more c (read f n text)) level r
  -- an operand of `or` is a chain of `and`, and an operand of `and` is a unary
  of_or : (n level : ℕ) (text : List ℕ) (r : Reading) → Reads (chain And n text) level r → Reads (operand Or n text) level r
  of_and : (n level : ℕ) (text : List ℕ) (r : Reading) → Reads (unary n text) level r → Reads (operand And n text) level r
  -- no token begins
  nothing : (n level : ℕ) (text : List ℕ) (fault : FilterKind) → IsFirst text (none fault) → Reads (unary n text) level (bad (left text) fault)
  -- a unary goes on from its first token
  begins : (n level : ℕ) (text part rest : List ℕ) (kind : LexemeKind) (r : Reading) → IsFirst text (token kind part rest) → Reads (from (begin_of kind part) (left text) n rest) level r → Reads (unary n text) level r
  -- no unary begins with the token
  other : (remaining n level : ℕ) (text : List ℕ) → Reads (from Other remaining n text) level (bad remaining Expected)
  -- `not` and a unary, of one level more
  deep_not : (remaining n level : ℕ) (text : List ℕ) → 64 ≤ level → Reads (from Not remaining n text) level (bad remaining TooDeep)
  negates : (remaining n level : ℕ) (text : List ℕ) (x : Reading) → level < 64 → Reads (unary n text) (level + 1) x → Reads (from Not remaining n text) level (negated x)
  -- an `or` in parentheses, of one level more
  deep_open : (remaining n level : ℕ) (text : List ℕ) → 64 ≤ level → Reads (from Opens remaining n text) level (bad remaining TooDeep)
  encloses : (remaining n level : ℕ) (text : List ℕ) (x r : Reading) → level < 64 → Reads (chain Or n text) (level + 1) x → IsClosed x r → Reads (from Opens remaining n text) level r
  -- a test, of which there are at most 15
  too_many : (field : Field) (remaining n level : ℕ) (text : List ℕ) → 15 ≤ n → Reads (from (Name field) remaining n text) level (bad remaining TooManyComparisons)
  tests : (field : Field) (remaining n level : ℕ) (text : List ℕ) (r : Reading) → n < 15 → IsTest field (n + 1) text r → Reads (from (Name field) remaining n text) level r

-- after the `or` only the end may stand
abbrev pub at_end : Tree → ℕ → List ℕ → First → Reading
at_end f n text (token kind part rest) = bad (left text) Expected
at_end f n text (none fault) = if left text == 0 then read f n [] else bad (left text) fault

-- what an `or` is read as, with the end after it
abbrev pub IsEnded : Reading → Reading → Type 0
IsEnded (bad remaining fault) r = r ≡ bad remaining fault
IsEnded (read f n text) r = (first : First) × IsFirst text first × (r ≡ at_end f n text first)

-- what a whole text is read as: one `or`, and then its end
abbrev pub IsWhole : List ℕ → Reading → Type 0
IsWhole text r = (x : Reading) × Reads (chain Or 0 text) 0 x × IsEnded x r

-- the text is a filter with this tree
abbrev pub IsFilter : List ℕ → Tree → Type 0
IsFilter text tree = (n : ℕ) × (rest : List ℕ) × IsWhole text (read tree n rest)

-- the text is no filter: what is wrong is first seen at byte `at`
abbrev pub IsBad : List ℕ → ℕ → FilterKind → Type 0
IsBad text at fault = (remaining : ℕ) × IsWhole text (bad remaining fault) × (at + remaining ≡ length text)
