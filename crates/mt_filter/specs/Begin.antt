-- The token that a test, a `not` or a parenthesis begins with.
use Rattle.std.specs.Prelude.{ℕ, List, Option, Some, None, codes, bytes_eq, if◌then◌else◌}
use Rattle.mt_filter.specs.Words.{field_of}
use Rattle.mt_filter.specs.declared.filter.Field.{Field}
use Rattle.mt_filter.specs.declared.begin.Begin.{Begin}
use Rattle.mt_filter.specs.declared.begin.Begin.TheVariants.{Not, Open, Name, Other}
use Rattle.mt_filter.specs.declared.lexeme.LexemeKind.{LexemeKind}
use Rattle.mt_filter.specs.declared.lexeme.LexemeKind.TheVariants.{Word, Open as AtOpen, Close, Text, Binary, Guid, Moment, Int32, Int64}

-- a test, if the word is a name
abbrev pub named : Option Field → Begin
named (Some field) = Name field
named None = Other

-- what begins with a word: `not`, or the name of a test
abbrev pub begin_of_word : List ℕ → Begin
begin_of_word word = if bytes_eq word (codes "not") then Not else named (field_of word)

-- what begins with a token of this kind, which this part of the text says
abbrev pub begin_of : LexemeKind → List ℕ → Begin
begin_of Word part = begin_of_word part
begin_of AtOpen part = Open
begin_of Close part = Other
begin_of Text part = Other
begin_of Binary part = Other
begin_of (Guid bytes) part = Other
begin_of (Moment ticks) part = Other
begin_of (Int32 n) part = Other
begin_of (Int64 n) part = Other
