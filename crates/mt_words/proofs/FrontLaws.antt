-- How the first words spell an option.
use Rattle.std.proofs.Common.{◌≡◌, ◌≢◌, ℕ, ◌<◌, ◌≤◌, not, true, ne_eqb, List, [], ◌∷◌, ◌++◌, length, get_or, Option, Some, None, refl, sym, ap, ◌∙◌, subst, arith, inl, inr, MatchOption}
use Rattle.std.specs.Prelude.{◌==◌, ◌-◌, String, string_bytes, take, drop}
use Rattle.std.proofs.lemmas.List.{take_all}
use Rattle.std.proofs.lemmas.List.Elements.{All-from_get_or}
use Rattle.std.proofs.lemmas.List.Sums.{list_all-from_AllPass}
use Rattle.mt_words.specs.declared.settings.Peeled.{Peeled}
use Rattle.mt_words.specs.Words.{Setting, option_name, value_text, Spells}
use Rattle.mt_words.specs.Readings.{texts_of, setting_of, IsNamed, IsNotNamed, IsPair, IsNoPair, IsFront, HasNoFront}
use Rattle.mt_words.proofs.SettingLaws.{without_equals, none_equals, one_setting, clash, both}

-- ---- a word with `=`

-- it has no `=`
abbrev pub Free : List ℕ → Type 0
Free name = without_equals name ≡ true

free_head : (c : ℕ) (name : List ℕ) → Free (c ∷ name) → not (c == 61) ≡ true
free_head c name free = (both (not (c == 61)) (without_equals name) free).0

free_tail : (c : ℕ) (name : List ℕ) → Free (c ∷ name) → Free name
free_tail c name free = (both (not (c == 61)) (without_equals name) free).1

pub free_part : (name : List ℕ) → ((i : ℕ) → i < length name → get_or name i 0 ≢ 61) → Free name
free_part name none = list_all-from_AllPass (λ c. not (c == 61)) name (All-from_get_or (λ c. not (c == 61) ≡ true) name 0 (λ i inside. ap not (ne_eqb (get_or name i 0) 61 (none i inside))))

equals_is_not_free : (name value : List ℕ) → Free (name ++ 61 ∷ value) → ⊥
equals_is_not_free [] value free = clash (not (61 == 61)) (free_head 61 value free) refl
equals_is_not_free (c ∷ name) value free = equals_is_not_free name value (free_tail c (name ++ 61 ∷ value) free)

-- a word is parted at its first `=` in one way
parted_once : (a b x y : List ℕ) → Free a → Free b → a ++ 61 ∷ x ≡ b ++ 61 ∷ y → (a ≡ b) × (x ≡ y)
parted_once [] [] x y free free' e = (refl, cc)
parted_once [] (c ∷ b) x y free free' e =
    let same : 61 ≡ c = cc in
    absurd (clash (not (61 == 61)) (subst (λ (x : ℕ). not (x == 61) ≡ true) (sym same) (free_head c b free')) refl)
parted_once (c ∷ a) [] x y free free' e =
    let same : 61 ≡ c = cc in
    absurd (clash (not (61 == 61)) (subst (λ (x : ℕ). not (x == 61) ≡ true) (sym same) (free_head c a free)) refl)
parted_once (c ∷ a) (d ∷ b) x y free free' e =
    let same : c ≡ d = cc in
    let tails : a ++ 61 ∷ x ≡ b ++ 61 ∷ y = cc in
    let more = parted_once a b x y (free_tail c a free) (free_tail d b free') tails in
    let fronts : a ≡ b = more.0 in
    (cc, more.1)

-- ---- the option at the front

-- a word with `=` is no name alone
name_alone : (name value first : List ℕ) (s : Setting) → first ≡ name ++ 61 ∷ value → first ≡ option_name s → ⊥
name_alone name value first s whole e =
    let same : option_name s ≡ name ++ 61 ∷ value = sym e ∙ whole in
    equals_is_not_free name value (subst (λ (x : List ℕ). Free x) same (none_equals s))

front_only : (name value first : List ℕ) (rest : List (List ℕ)) (s other : Setting) (more : List Setting) → first ≡ name ++ 61 ∷ value → Free name → IsNamed name value s → Spells (other ∷ more) (first ∷ rest) → (other ≡ s) × Spells more rest
front_only name value first rest s other more whole free n (own, left, e, taken, inl two, spelled) =
    let first_is : first ≡ option_name other = cc in
    absurd (name_alone name value first other whole first_is)
front_only name value first rest s other more whole free n (own, left, e, taken, inr one, spelled) =
    let first_is : first ≡ option_name other ++ 61 ∷ value_text other = cc in
    let left_is : left ≡ rest = cc in
    let parts = parted_once name (option_name other) value (value_text other) free (none_equals other) (sym whole ∙ first_is) in
    let named : IsNamed name value other = record { named = parts.0; valued = parts.1; taken = taken } in
    (one_setting name value other s named n, subst (λ (x : List (List ℕ)). Spells more x) left_is spelled)

pub front_is : (name value first : List ℕ) (rest : List (List ℕ)) (s : Setting) → first ≡ name ++ 61 ∷ value → Free name → IsNamed name value s → IsFront (first ∷ rest) s rest
front_is name value first rest s whole free n = record {
  join = λ more spelled. (first ∷ [], rest, refl, n.taken, inr (ap (λ (w : List ℕ). w ∷ []) (whole ∙ ap (λ (x : List ℕ). x ++ 61 ∷ value) n.named ∙ ap (λ (x : List ℕ). option_name s ++ 61 ∷ x) n.valued)), spelled);
  only = λ other more spelled. front_only name value first rest s other more whole free n spelled;
}

-- no option has that name and that value
pub no_front : (name value first : List ℕ) (rest : List (List ℕ)) → first ≡ name ++ 61 ∷ value → Free name → IsNotNamed name value → HasNoFront (first ∷ rest)
no_front name value first rest whole free none other more (own, left, e, taken, inl two, spelled) =
    let first_is : first ≡ option_name other = cc in
    name_alone name value first other whole first_is
no_front name value first rest whole free none other more (own, left, e, taken, inr one, spelled) =
    let first_is : first ≡ option_name other ++ 61 ∷ value_text other = cc in
    let parts = parted_once name (option_name other) value (value_text other) free (none_equals other) (sym whole ∙ first_is) in
    none other (record { named = parts.0; valued = parts.1; taken = taken })

-- ---- a name and a value behind it

-- a word without `=` is not a whole option
not_one : (first : List ℕ) (s : Setting) → Free first → first ≡ option_name s ++ 61 ∷ value_text s → ⊥
not_one first s free e = equals_is_not_free (option_name s) (value_text s) (subst (λ (x : List ℕ). Free x) e free)

two_only : (first : List ℕ) (words rest : List (List ℕ)) (s other : Setting) (more : List Setting) → Free first → IsPair first words s rest → Spells (other ∷ more) (first ∷ words) → (other ≡ s) × Spells more rest
two_only first words rest s other more free p (own, left, e, taken, inl two, spelled) =
    let first_is : first ≡ option_name other = cc in
    let words_are : words ≡ value_text other ∷ left = cc in
    let value_is : value_text s ≡ value_text other = cc in
    let left_is : left ≡ rest = cc in
    let named : IsNamed first (value_text s) other = record { named = first_is; valued = value_is; taken = taken } in
    (one_setting first (value_text s) other s named p.named, subst (λ (x : List (List ℕ)). Spells more x) left_is spelled)
two_only first words rest s other more free p (own, left, e, taken, inr one, spelled) =
    let first_is : first ≡ option_name other ++ 61 ∷ value_text other = cc in
    absurd (not_one first other free first_is)

pub two_are : (first : List ℕ) (words rest : List (List ℕ)) (s : Setting) → Free first → IsPair first words s rest → IsFront (first ∷ words) s rest
two_are first words rest s free p = record {
  join = λ more spelled. (first ∷ value_text s ∷ [], rest, ap (λ (x : List (List ℕ)). first ∷ x) p.whole, p.named.taken, inl (ap (λ (x : List ℕ). x ∷ value_text s ∷ []) p.named.named), spelled);
  only = λ other more spelled. two_only first words rest s other more free p spelled;
}

pub no_two : (first : List ℕ) (words : List (List ℕ)) → Free first → IsNoPair first words → HasNoFront (first ∷ words)
no_two first words free none other more (own, left, e, taken, inl two, spelled) =
    let first_is : first ≡ option_name other = cc in
    let words_are : words ≡ value_text other ∷ left = cc in
    none other left (record { whole = words_are; named = record { named = first_is; valued = refl; taken = taken } })
no_two first words free none other more (own, left, e, taken, inr one, spelled) =
    let first_is : first ≡ option_name other ++ 61 ∷ value_text other = cc in
    not_one first other free first_is

pub no_words : HasNoFront []
no_words other more (own, left, e, taken, inl two, spelled) = absurd (cc)
no_words other more (own, left, e, taken, inr one, spelled) = absurd (cc)

-- ---- the first of some words

rest_is : {A : Type 0} (word : String A) (words : List (String A)) → take (length (word ∷ words) - 1) words ≡ words
rest_is word words = take_all (length (word ∷ words) - 1) words (omega arith)

pub first_and_rest : {A : Type 0} (words : List (String A)) (first : String A) → 1 ≤ length words → first ≡ get_or words 0 first → texts_of words ≡ string_bytes first ∷ texts_of (take (length words - 1) (drop 1 words))
first_and_rest {A = A} [] first some e = absurd (omega (arith, some))
first_and_rest {A = A} (word ∷ words) first some e =
    let same : first ≡ word = e in
    ap (λ (w : String A). string_bytes w ∷ texts_of words) (sym same) ∙ ap (λ (ws : List (String A)). string_bytes first ∷ texts_of ws) (sym (rest_is word words))

-- ---- by what the first word is

pub one_at_front : (words rest : List (List ℕ)) (name value first : List ℕ) (s : Setting) → words ≡ first ∷ rest → first ≡ name ++ 61 ∷ value → Free name → IsNamed name value s → IsFront words s rest
one_at_front words rest name value first s e whole free n = subst (λ (x : List (List ℕ)). IsFront x s rest) (sym e) (front_is name value first rest s whole free n)

pub none_at_front : (words rest : List (List ℕ)) (name value first : List ℕ) → words ≡ first ∷ rest → first ≡ name ++ 61 ∷ value → Free name → IsNotNamed name value → HasNoFront words
none_at_front words rest name value first e whole free none = subst HasNoFront (sym e) (no_front name value first rest whole free none)

pub two_at_front : (words behind : List (List ℕ)) (first : List ℕ) (result : Option Peeled) → words ≡ first ∷ behind → Free first
    → MatchOption result (IsNoPair first behind) (λ p. IsPair first behind (setting_of p.setting) (texts_of p.rest.now))
    → MatchOption result (HasNoFront words) (λ p. IsFront words (setting_of p.setting) (texts_of p.rest.now))
two_at_front words behind first None e free none = subst HasNoFront (sym e) (no_two first behind free none)
two_at_front words behind first (Some p) e free is = subst (λ (x : List (List ℕ)). IsFront x (setting_of p.setting) (texts_of p.rest.now)) (sym e) (two_are first behind (texts_of p.rest.now) (setting_of p.setting) free is)
