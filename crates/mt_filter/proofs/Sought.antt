-- What a search for a token comes to.
use Rattle.std.proofs.Common.{◌≡◌, ℕ, List, Option, Some, None, inr, refl, sym, subst}
use Rattle.mt_filter.specs.declared.filter.FilterKind.{FilterKind}
use Rattle.mt_filter.specs.declared.filter.FilterKind.TheVariants.{Expected}
use Rattle.mt_filter.specs.declared.lexeme.LexemeKind.{LexemeKind}
use Rattle.mt_filter.specs.declared.lexeme.LexemeKind.TheVariants.{Word, Open, Close, Text, Binary, Guid, Moment, Int32, Int64}
use Rattle.mt_filter.specs.declared.reader.Halt.{Halt}
use Rattle.mt_filter.specs.declared.reader.Halt.TheVariants.{Bad, NoMemory}
use Rattle.mt_filter.specs.Grammar.{left, token, IsFirst, missed, IsSought, IsClosing}
use Rattle.mt_filter.specs.Answer.{IfHalted}

-- what holds of a fault, by what else does
pub if_halted : (P Q : ℕ → FilterKind → Type 0) (halt : Halt) → ((place : ℕ) (fault : FilterKind) → P place fault → Q place fault) → IfHalted halt P → IfHalted halt Q
if_halted P Q (Bad stop) f h = f stop.left stop.kind h
if_halted P Q NoMemory f h = h

-- what holds of a token that is not allowed
pub if_expected : (P : ℕ → FilterKind → Type 0) (place : ℕ) (halt : Halt) → halt ≡ Bad (record { left = place; kind = Expected }) → P place Expected → IfHalted halt P
if_expected P place halt is h = subst (λ (x : Halt). IfHalted x P) (sym is) h

-- a token of another sort is missed
pub other_sort : {A : Type 0} (Has : LexemeKind → List ℕ → Option A → Type 0) (text part rest : List ℕ) (kind : LexemeKind) (place : ℕ) (halt : Halt)
    → halt ≡ Bad (record { left = place; kind = Expected }) → place ≡ left text → IsFirst text (token kind part rest) → Has kind part None
    → IfHalted halt (λ at fault. IsSought Has text (missed at fault))
other_sort Has text part rest kind place halt is at first has =
    if_expected (λ at fault. IsSought Has text (missed at fault)) place halt is (at, inr (kind, part, rest, first, has, refl))

pub closes : (kind : LexemeKind) (part : List ℕ) → kind ≡ Close → IsClosing kind part (Some tt)
closes kind part is = subst (λ (k : LexemeKind). IsClosing k part (Some tt)) (sym is) refl

pub closes_not : (kind : LexemeKind) (part : List ℕ) → (kind ≡ Close → ⊥) → IsClosing kind part None
closes_not Close part other = absurd (other refl)
closes_not Word part other = refl
closes_not Open part other = refl
closes_not Text part other = refl
closes_not Binary part other = refl
closes_not (Guid bytes) part other = refl
closes_not (Moment ticks) part other = refl
closes_not (Int32 n) part other = refl
closes_not (Int64 n) part other = refl
