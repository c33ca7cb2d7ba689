-- Words spell one command at most.
use Rattle.std.proofs.Common.{◌≡◌, ℕ, List, [], ◌∷◌, ◌++◌, Option, Some, None, refl, sym, ap, ◌∙◌, subst, arith, inl, inr}
use Rattle.std.specs.Option.{option_to_list, unwrap_or}
use Rattle.mt_words.specs.declared.command.Common.{Common}
use Rattle.mt_words.specs.declared.command.Command.{Command}
use Rattle.mt_words.specs.declared.command.Command.TheVariants as command
use Rattle.mt_words.specs.Words.{Setting, option_name, value_text, Spells, Given, Gives, HasOptions, common_of, IsSession, IsDrill, IsCommand}
use Rattle.mt_words.specs.Readings.{IsFront}
use Rattle.mt_words.proofs.SettingLaws.{none_equals}
use Rattle.mt_words.proofs.FrontLaws.{front_is, two_are, no_words}
use Rattle.mt_words.proofs.CommandLaws.{word_long}

-- ---- options

-- the option that is spelled first is the one at the front
front_of : (s : Setting) (more : List Setting) (words : List (List ℕ)) → Spells (s ∷ more) words → (rest : List (List ℕ)) × IsFront words s rest × Spells more rest
front_of s more words (own, rest, e, taken, inl two, spelled) =
    let whole : words ≡ option_name s ∷ value_text s ∷ rest = e ∙ ap (λ (x : List (List ℕ)). x ++ rest) two in
    let pair = two_are (option_name s) (value_text s ∷ rest) rest s (none_equals s) (record { whole = refl; named = record { named = refl; valued = refl; taken = taken } }) in
    (rest, subst (λ (x : List (List ℕ)). IsFront x s rest) (sym whole) pair, spelled)
front_of s more words (own, rest, e, taken, inr one, spelled) =
    let whole : words ≡ (option_name s ++ 61 ∷ value_text s) ∷ rest = e ∙ ap (λ (x : List (List ℕ)). x ++ rest) one in
    let front = front_is (option_name s) (value_text s) (option_name s ++ 61 ∷ value_text s) rest s refl (none_equals s) (record { named = refl; valued = refl; taken = taken }) in
    (rest, subst (λ (x : List (List ℕ)). IsFront x s rest) (sym whole) front, spelled)

pub one_spelling : (a b : List Setting) (words : List (List ℕ)) → Spells a words → Spells b words → a ≡ b
one_spelling [] [] words s t = refl
one_spelling [] (y ∷ b) words s t = absurd (no_words y b (subst (λ (x : List (List ℕ)). Spells (y ∷ b) x) s t))
one_spelling (x ∷ a) [] words s t = absurd (no_words x a (subst (λ (z : List (List ℕ)). Spells (x ∷ a) z) t s))
one_spelling (x ∷ a) (y ∷ b) words s t =
    let f = front_of x a words s in
    let g = f.1.only y b t in
    let same : y ≡ x = g.0 in
    let more : a ≡ b = one_spelling a b f.0 f.2 g.1 in
    cc

same_value : {A : Type 0} (a b : Option A) (l : List A) → l ≡ option_to_list a → l ≡ option_to_list b → a ≡ b
same_value None None l e f = refl
same_value None (Some y) l e f = absurd (cc)
same_value (Some x) None l e f = absurd (cc)
same_value (Some x) (Some y) l e f = let same : x ≡ y = cc in ap Some same

same_given : (settings : List Setting) (g h : Given) → Gives settings g → Gives settings h → g ≡ h
same_given settings g h a b =
    let t = same_value g.table h.table _ a.table b.table in
    let n = same_value g.history h.history _ a.history b.history in
    let k = same_value g.keeper h.keeper _ a.keeper b.keeper in
    let m = same_value g.number h.number _ a.number b.number in
    let e = same_value g.events h.events _ a.events b.events in
    λ i. record { table = t i; history = n i; keeper = k i; number = m i; events = e i }

one_given : (words : List (List ℕ)) (g h : Given) → HasOptions words g → HasOptions words h → g ≡ h
one_given words g h a b =
    let same = one_spelling b.settings a.settings words b.spelled a.spelled in
    same_given a.settings g h a.gives (subst (λ (x : List Setting). Gives x h) same b.gives)

-- ---- commands

one_session : (words : List (List ℕ)) (a b : Common) → IsSession words a → IsSession words b → a ≡ b
one_session words a b s t = s.common_is ∙ ap common_of (one_given words s.given t.given s.options t.options) ∙ sym t.common_is

some_same : {A : Type 0} (x y : A) (o : Option A) → o ≡ Some x → o ≡ Some y → x ≡ y
some_same x y o e f = cc

one_drill : (words : List (List ℕ)) (n m e f : ℕ) (a b : Common) → IsDrill words n e a → IsDrill words m f b → command.Drill n e a ≡ command.Drill m f b
one_drill words n m e f a b s t =
    let given = one_given words s.given t.given s.options t.options in
    let numbers : n ≡ m = some_same n m t.given.number (ap (λ (g : Given). g.number) (sym given) ∙ s.numbered) t.numbered in
    let events : e ≡ f = s.events_are ∙ ap (λ (g : Given). unwrap_or g.events 1000) given ∙ sym t.events_are in
    let commons : a ≡ b = s.common_is ∙ ap common_of given ∙ sym t.common_is in
    λ i. command.Drill (numbers i) (events i) (commons i)

pub one_command : (words : List (List ℕ)) (a b : Command) → IsCommand words a → IsCommand words b → a ≡ b
one_command [] a b s t = absurd s
one_command (word ∷ words) (command.Session c) (command.Session d) s t = ap command.Session (one_session words c d s.1 t.1)
one_command (word ∷ words) (command.Drill n e c) (command.Drill m f d) s t = one_drill words n m e f c d s.1 t.1
one_command (word ∷ words) command.Help command.Help s t = refl
one_command (word ∷ words) (command.Session c) (command.Drill m f d) s t = absurd (omega (arith, word_long word (command.Session c) s.0, word_long word (command.Drill m f d) t.0))
one_command (word ∷ words) (command.Session c) command.Help s t = absurd (omega (arith, word_long word (command.Session c) s.0, word_long word command.Help t.0))
one_command (word ∷ words) (command.Drill n e c) (command.Session d) s t = absurd (omega (arith, word_long word (command.Drill n e c) s.0, word_long word (command.Session d) t.0))
one_command (word ∷ words) (command.Drill n e c) command.Help s t = absurd (omega (arith, word_long word (command.Drill n e c) s.0, word_long word command.Help t.0))
one_command (word ∷ words) command.Help (command.Session d) s t = absurd (omega (arith, word_long word command.Help s.0, word_long word (command.Session d) t.0))
one_command (word ∷ words) command.Help (command.Drill m f d) s t = absurd (omega (arith, word_long word command.Help s.0, word_long word (command.Drill m f d) t.0))
