-- What the reader's answers say of the grammar.
use Rattle.std.specs.Prelude.{ℕ, List, [], Option, Result, MatchResult}
use Rattle.mt_filter.specs.Tree.{Tree, tree_of}
use Rattle.mt_filter.specs.Grammar.{read, bad, Part, Reads, found, missed, IsSought, IsEnded, IsWhole, IsFilter}
use Rattle.mt_filter.specs.declared.filter.Filter.{Filter}
use Rattle.mt_filter.specs.declared.filter.FilterKind.{FilterKind}
use Rattle.mt_filter.specs.declared.filter.FilterFault.{FilterFault}
use Rattle.mt_filter.specs.declared.filter.FilterFault.TheVariants.{Bad as BadAt, NoMemory as NoMemoryAt}
use Rattle.mt_filter.specs.declared.lexeme.LexemeKind.{LexemeKind}
use Rattle.mt_filter.specs.declared.reader.Halt.{Halt}
use Rattle.mt_filter.specs.declared.reader.Halt.TheVariants.{Bad, NoMemory}
use Rattle.mt_filter.specs.declared.reader.Reader.{Reader}

-- unless memory ran out, this holds of the bytes left from the fault's place on, and of the fault
abbrev pub IfHalted : Halt → (ℕ → FilterKind → Type 0) → Type 0
IfHalted (Bad stop) P = P stop.left stop.kind
IfHalted NoMemory P = Unit {0}

-- the same of the byte that the fault is at
abbrev pub IfBad : FilterFault → (ℕ → FilterKind → Type 0) → Type 0
IfBad (BadAt at kind) P = P at kind
IfBad NoMemoryAt P = Unit {0}

-- the part reads what was answered, and the reader stands after it
abbrev pub Answers : Part → ℕ → Reader → Result Filter Halt → Type 0
Answers part level after r =
    MatchResult r (λ f. Reads part level (read (tree_of f) after.tests after.rest.now))
    (λ halt. IfHalted halt (λ place kind. Reads part level (bad place kind)))

-- a token of this sort was sought at the front of the text
abbrev pub Finds : {A : Type 0} → (LexemeKind → List ℕ → Option A → Type 0) → List ℕ → Reader → Result A Halt → Type 0
Finds Has text after r =
    MatchResult r (λ value. IsSought Has text (found value after.rest.now))
    (λ halt. IfHalted halt (λ place kind. IsSought Has text (missed place kind)))

-- nothing but blanks is left of the text, or what is wrong stands first in it
abbrev pub Ends : List ℕ → Result (Unit {0}) Halt → Type 0
Ends text r =
    MatchResult r (λ done. (f : Tree) → (n : ℕ) → IsEnded (read f n text) (read f n []))
    (λ halt. IfHalted halt (λ place kind. (f : Tree) → (n : ℕ) → IsEnded (read f n text) (bad place kind)))

-- the whole text reads what was answered
abbrev pub AnswersWhole : List ℕ → Result Filter Halt → Type 0
AnswersWhole text r =
    MatchResult r (λ f. IsFilter text (tree_of f)) (λ halt. IfHalted halt (λ place kind. IsWhole text (bad place kind)))
