-- The values that a command has are ones that its options take.
use Rattle.std.proofs.Common.{◌≡◌, ℕ, ◌≤◌, true, List, [], ◌∷◌, Option, Some, None, refl, sym, ap, ◌∙◌, subst, arith}
use Rattle.std.specs.List.{filter_map}
use Rattle.std.specs.Option.{option_to_list, unwrap_or}
use Rattle.mt_words.specs.declared.command.Common.{Common}
use Rattle.mt_words.specs.declared.command.Command.TheVariants as command
use Rattle.mt_words.specs.Words.{Setting, Table, History, Keeper, Number, Events, as_history, Spells, Given, Gives, HasOptions, common_of, IsSession, IsCommand}

-- the value of a history that is spelled
history_taken : (settings : List Setting) (words : List (List ℕ)) (entries : ℕ) (rest : List ℕ) → Spells settings words → filter_map as_history settings ≡ entries ∷ rest → (1 ≤ entries) × (entries ≤ 1048576)
history_taken [] words entries rest s e = absurd cc
history_taken (Table name ∷ more) words entries rest s e = history_taken more s.1 entries rest s.5 e
history_taken (History n ∷ more) words entries rest s e = let same : n ≡ entries = cc in subst (λ m. (1 ≤ m) × (m ≤ 1048576)) same s.3
history_taken (Keeper choice ∷ more) words entries rest s e = history_taken more s.1 entries rest s.5 e
history_taken (Number n ∷ more) words entries rest s e = history_taken more s.1 entries rest s.5 e
history_taken (Events n ∷ more) words entries rest s e = history_taken more s.1 entries rest s.5 e

history_given : (settings : List Setting) (words : List (List ℕ)) (given : Option ℕ) → Spells settings words → filter_map as_history settings ≡ option_to_list given → (1 ≤ unwrap_or given 1048576) × (unwrap_or given 1048576 ≤ 1048576)
history_given settings words None s e = (omega arith, omega arith)
history_given settings words (Some n) s e = history_taken settings words n [] s e

history_within : (words : List (List ℕ)) (common : Common) → IsSession words common → (1 ≤ common.history) × (common.history ≤ 1048576)
history_within words common h =
    subst (λ (c : Common). (1 ≤ c.history) × (c.history ≤ 1048576)) (sym h.common_is)
    (history_given h.options.settings words h.given.history h.options.spelled h.options.gives.history)

-- a session's history has from 1 to 1,048,576 entries
pub session_history : (words : List (List ℕ)) (common : Common) → IsCommand words (command.Session common) → (1 ≤ common.history) × (common.history ≤ 1048576)
session_history [] common h = absurd h
session_history (word ∷ words) common h = history_within words common h.1
