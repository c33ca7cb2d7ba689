-- The words of a command are its own word and what is read behind it.
use Rattle.std.proofs.Common.{◌≡◌, ℕ, List, ◌∷◌, length, codes, Result, Ok, Err, refl, sym, ap, subst, arith}
use Rattle.mt_words.specs.declared.command.Common.{Common}
use Rattle.mt_words.specs.declared.command.Command.{Command}
use Rattle.mt_words.specs.declared.command.Command.TheVariants as command
use Rattle.mt_words.specs.declared.command.Usage.{Usage}
use Rattle.mt_words.specs.declared.command.Usage.TheVariants as usage
use Rattle.mt_words.specs.Words.{IsSession, IsDrill, command_word, IsNoCommand}
use Rattle.mt_words.specs.Readings.{ReadsSession, ReadsDrill, Reads}

-- the words of commands are of different lengths
pub word_long : (word : List ℕ) (c : Command) → word ≡ command_word c → length word ≡ (elim c [ command.Session common ↦ 7 | command.Drill number events common ↦ 5 | command.Help ↦ 6 ])
word_long word (command.Session common) e = ap (length {A = ℕ}) e
word_long word (command.Drill number events common) e = ap (length {A = ℕ}) e
word_long word command.Help e = ap (length {A = ℕ}) e

session_only : (rest : List (List ℕ)) → ((common : Common) → IsSession rest common → ⊥) → IsNoCommand (codes "session" ∷ rest)
session_only rest none (command.Session common) is = none common is.1
session_only rest none (command.Drill number events common) is = let d : 7 ≡ 5 = word_long (codes "session") (command.Drill number events common) is.0 in absurd (omega (arith, d))
session_only rest none command.Help is = let d : 7 ≡ 6 = word_long (codes "session") command.Help is.0 in absurd (omega (arith, d))

session_reads : (rest : List (List ℕ)) (result : Result Command Usage) → ReadsSession rest result → Reads (codes "session" ∷ rest) result
session_reads rest (Ok (command.Session common)) is = (refl, is)
session_reads rest (Ok (command.Drill number events common)) is = absurd is
session_reads rest (Ok command.Help) is = absurd is
session_reads rest (Err usage.Bad) none = session_only rest none
session_reads rest (Err usage.NoMemory) (common, is) = (command.Session common, (refl, is))

pub session_read : (words rest : List (List ℕ)) (result : Result Command Usage) → words ≡ codes "session" ∷ rest → ReadsSession rest result → Reads words result
session_read words rest result e is = subst (λ (x : List (List ℕ)). Reads x result) (sym e) (session_reads rest result is)

drill_only : (rest : List (List ℕ)) → ((number : ℕ) (events : ℕ) (common : Common) → IsDrill rest number events common → ⊥) → IsNoCommand (codes "drill" ∷ rest)
drill_only rest none (command.Session common) is = let d : 5 ≡ 7 = word_long (codes "drill") (command.Session common) is.0 in absurd (omega (arith, d))
drill_only rest none (command.Drill number events common) is = none number events common is.1
drill_only rest none command.Help is = let d : 5 ≡ 6 = word_long (codes "drill") command.Help is.0 in absurd (omega (arith, d))

drill_reads : (rest : List (List ℕ)) (result : Result Command Usage) → ReadsDrill rest result → Reads (codes "drill" ∷ rest) result
drill_reads rest (Ok (command.Session common)) is = absurd is
drill_reads rest (Ok (command.Drill number events common)) is = (refl, is)
drill_reads rest (Ok command.Help) is = absurd is
drill_reads rest (Err usage.Bad) none = drill_only rest none
drill_reads rest (Err usage.NoMemory) (number, events, common, is) = (command.Drill number events common, (refl, is))

pub drill_read : (words rest : List (List ℕ)) (result : Result Command Usage) → words ≡ codes "drill" ∷ rest → ReadsDrill rest result → Reads words result
drill_read words rest result e is = subst (λ (x : List (List ℕ)). Reads x result) (sym e) (drill_reads rest result is)
