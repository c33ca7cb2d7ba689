-- One text has one reading.
use Rattle.std.proofs.Common.{◌≡◌, ◌∙◌, ℕ, ℤ, pos, ◌+◌, ◌==◌, Bool, true, false, List, drop, take, Option, Some, None, Result, Ok, Err, MatchOption, sym, ap, subst, inl, inr, ⊎_elim, refl}
use Rattle.std.specs.Bool.{MatchBool}
use Rattle.std.specs.Prelude.{slice_range, IsErr}
use Rattle.hex.specs.Hex.{decode_of}
use Rattle.uuid.specs.Text.{parsed_hyphenated}
use Rattle.mt_model.specs.declared.value.Value.TheVariants.{Binary as AsBytes}
use Rattle.mt_time.specs.Moment.{HasTicks, ticks_of}
use Rattle.mt_time.proofs.TextLaws.{wide, text_unique}
use Rattle.mt_filter.specs.declared.filter.FilterKind.{FilterKind}
use Rattle.mt_filter.specs.declared.filter.FilterKind.TheVariants.{Expected}
use Rattle.mt_filter.specs.declared.quoted.Quoted.{Quoted}
use Rattle.mt_filter.specs.declared.quoted.Quoted.TheVariants.{Text as InText, Moment as InMoment, Guid as InGuid, Binary as InBinary}
use Rattle.mt_filter.specs.declared.lexeme.Front.{Front}
use Rattle.mt_filter.specs.declared.lexeme.Front.TheVariants.{End, Open as AtOpen, Close as AtClose, Quote, Number, Word as AtWord, Nothing}
use Rattle.mt_filter.specs.declared.lexeme.LexemeKind.{LexemeKind}
use Rattle.mt_filter.specs.declared.lexeme.LexemeKind.TheVariants.{Open, Close, Word, Text, Binary, Guid, Moment, Int32, Int64}
use Rattle.mt_filter.specs.declared.lexeme.Lexeme.{Lexeme}
use Rattle.mt_filter.specs.declared.classes.Class.TheVariants.{Letter}
use Rattle.mt_filter.specs.Class.{run_length}
use Rattle.mt_filter.specs.Words.{skipped}
use Rattle.mt_filter.specs.Quoted.{doubled}
use Rattle.mt_filter.proofs.Closing.{inside_one}
use Rattle.mt_filter.specs.Literal.{IsValue}
use Rattle.mt_filter.specs.Lexeme.{quoted_lexeme, IsInside, IsQuoted, IsWhole, IsNumberBefore, IsNumber, IsWord, IsAtFront, IsLexeme, IsNext, front_of, begins_fraction, begins_mark, digits_length, sign_length, quoted_kind}
use Rattle.mt_filter.specs.Grammar.{left, First, token, none, IsFirst, Sought, found, missed, IsSought, IsClosing, IsComparison}

-- no two are so
abbrev pub IsOne : {R : Type 0} → (R → Type 0) → Type 0
IsOne {R = R} P = (a b : R) → P a → P b → a ≡ b

one_equal : {R : Type 0} (x : R) → IsOne (λ (r : R). r ≡ x)
one_equal x a b p q = p ∙ sym q

one_option : {R X : Type 0} (o : Option X) (P : R → Type 0) (Q : X → R → Type 0) → IsOne P → ((x : X) → IsOne (Q x)) → IsOne (λ (r : R). MatchOption o (P r) (λ x. Q x r))
one_option None P Q u v = u
one_option (Some x) P Q u v = v x

one_bool : {R : Type 0} (b : Bool) (P Q : R → Type 0) → IsOne P → IsOne Q → IsOne (λ (r : R). MatchBool b (P r) (Q r))
one_bool true P Q u v = u
one_bool false P Q u v = v

ticks_one : (text : List ℕ) → IsOne (HasTicks text)
ticks_one text a b h k =
    let same = text_unique h.0 k.0 (wide h.0 h.1) (wide k.0 k.1) (sym h.2 ∙ k.2) in
    h.3 ∙ ap (λ p. pos (ticks_of p)) same ∙ sym k.3

moment_one : (at : ℕ) (inside : List ℕ) → IsOne (IsInside InMoment at inside)
moment_one at inside (Ok x) (Ok y) h k =
    let same = ticks_one inside h.0 k.0 h.1 k.1 in
    ap (λ (z : Lexeme). Ok z) (h.2 ∙ ap (λ (n : ℤ). quoted_lexeme (Moment n) at inside) same ∙ sym k.2)
moment_one at inside (Ok x) (Err e) h k = absurd (k.0 h.0 h.1)
moment_one at inside (Err e) (Ok y) h k = absurd (h.0 k.0 k.1)
moment_one at inside (Err e) (Err f) h k = ap (λ (z : FilterKind). Err z) (h.1 ∙ sym k.1)

literal_one : (kind : Quoted) (at : ℕ) (inside : List ℕ) → IsOne (IsInside kind at inside)
literal_one InText at inside = one_equal _
literal_one InMoment at inside = moment_one at inside
literal_one InGuid at inside = one_option (parsed_hyphenated inside) _ _ (one_equal _) (λ bytes. one_equal _)
literal_one InBinary at inside = one_equal _

quoted_one : (kind : Quoted) (quote : ℕ) (bs : List ℕ) → IsOne (IsQuoted kind quote bs)
quoted_one kind quote bs a b (inl h) (inl k) =
    let P : List ℕ → Type 0 = λ inside. IsInside kind (quote + 1) inside a in
    literal_one kind (quote + 1) (doubled k.0) a b (subst P (inside_one (drop (quote + 1) bs) h.0 k.0 h.1 k.1) h.2) k.2
quoted_one kind quote bs a b (inl h) (inr k) = absurd (k.0 h.0 h.1)
quoted_one kind quote bs a b (inr h) (inl k) = absurd (h.0 k.0 k.1)
quoted_one kind quote bs a b (inr h) (inr k) = h.1 ∙ sym k.1

whole_one : (is_long : Bool) (numeral : List ℕ) → IsOne (IsWhole is_long numeral)
whole_one is_long numeral (Ok x) (Ok y) h k = ap (λ (z : Lexeme). Ok z) (h.1 ∙ sym k.1)
whole_one is_long numeral (Ok x) (Err e) h k = absurd (k.0 h.0)
whole_one is_long numeral (Err e) (Ok y) h k = absurd (h.0 k.0)
whole_one is_long numeral (Err e) (Err f) h k = ap (λ (z : FilterKind). Err z) (h.1 ∙ sym k.1)

before_one : (numeral rest : List ℕ) → IsOne (IsNumberBefore numeral rest)
before_one numeral rest = one_bool (begins_fraction rest) _ _ (one_equal _) (whole_one (begins_mark rest) numeral)

number_one : (bs : List ℕ) → IsOne (IsNumber bs)
number_one bs =
    let n = sign_length bs + digits_length bs in
    one_bool (digits_length bs == 0) _ _ (one_equal _) (before_one (take n bs) (drop n bs))

word_one : (bs : List ℕ) → IsOne (IsWord bs)
word_one bs =
    let n = run_length Letter bs in
    one_option (quoted_kind (take n bs) (drop n bs)) _ _ (one_equal _) (λ kind. quoted_one kind n bs)

front_one : (front : Front) (bs : List ℕ) → IsOne (IsAtFront front bs)
front_one End bs = one_equal _
front_one AtOpen bs = one_equal _
front_one AtClose bs = one_equal _
front_one Quote bs = quoted_one InText 0 bs
front_one Number bs = number_one bs
front_one AtWord bs = word_one bs
front_one Nothing bs = one_equal _

lexeme_one : (bs : List ℕ) → IsOne (IsLexeme bs)
lexeme_one bs = front_one (front_of bs) bs

lexeme_in : Lexeme → Result Lexeme FilterKind → Lexeme
lexeme_in x (Ok y) = y
lexeme_in x (Err e) = x

fault_in : Result Lexeme FilterKind → FilterKind
fault_in (Ok y) = Expected
fault_in (Err e) = e

token_of : List ℕ → Lexeme → First
token_of bs x = token x.kind (slice_range bs x.from x.to) (drop x.len bs)

next_is : (bs part rest : List ℕ) (kind : LexemeKind) (h : IsNext bs kind part rest) → token kind part rest ≡ token_of bs h.0
unfolding token_of
next_is bs part rest kind h = rw (h.2, h.3, h.4) refl

-- one token stands first in a text, or none does
pub first_one : (text : List ℕ) → IsOne (IsFirst text)
unfolding lexeme_in fault_in
first_one text (token k p r) (token l q s) h i =
    let same : h.0 ≡ i.0 = ap (lexeme_in h.0) (lexeme_one (skipped text) (Ok h.0) (Ok i.0) h.1 i.1) in
    next_is (skipped text) p r k h ∙ ap (token_of (skipped text)) same ∙ sym (next_is (skipped text) q s l i)
first_one text (token k p r) (none e) h i = let broken = lexeme_one (skipped text) (Ok h.0) (Err e) h.1 i in absurd (cc)
first_one text (none e) (token k p r) h i = let broken = lexeme_one (skipped text) (Err e) (Ok i.0) h i.1 in absurd (cc)
first_one text (none e) (none f) h i = ap none (ap fault_in (lexeme_one (skipped text) (Err e) (Err f) h i))

-- one value has a token of a sort
abbrev pub IsSort : {A : Type 0} → (LexemeKind → List ℕ → Option A → Type 0) → Type 0
IsSort Has = (kind : LexemeKind) (part : List ℕ) → IsOne (Has kind part)

not_both : {T E : Type 0} (r : Result T E) (x : T) → r ≡ Ok x → IsErr r → ⊥
not_both (Ok y) x is h = cc
not_both (Err e) x is h = cc

bytes_in : {E : Type 0} → List ℕ → Result (List ℕ) E → List ℕ
bytes_in xs (Ok ys) = ys
bytes_in xs (Err e) = xs

bytes_one : (part : List ℕ) → IsOne (IsValue Binary part)
unfolding bytes_in
bytes_one part None None h k = refl
bytes_one part None (Some w) h k = absurd (not_both (decode_of part) k.0 k.1 h)
bytes_one part (Some v) None h k = absurd (not_both (decode_of part) h.0 h.1 k)
bytes_one part (Some v) (Some w) h k =
    let same : h.0 ≡ k.0 = ap (bytes_in h.0) (sym h.1 ∙ k.1) in
    ap Some (h.2 ∙ ap AsBytes same ∙ sym k.2)

pub value_sort : IsSort IsValue
value_sort Open part = one_equal _
value_sort Close part = one_equal _
value_sort Word part = one_equal _
value_sort Text part = one_equal _
value_sort Binary part = bytes_one part
value_sort (Guid bytes) part = one_equal _
value_sort (Moment ticks) part = one_equal _
value_sort (Int32 n) part = one_equal _
value_sort (Int64 n) part = one_equal _

pub comparison_sort : IsSort IsComparison
comparison_sort kind part = one_equal _

pub closing_sort : IsSort IsClosing
closing_sort Open part = one_equal _
closing_sort Close part = one_equal _
closing_sort Word part = one_equal _
closing_sort Text part = one_equal _
closing_sort Binary part = one_equal _
closing_sort (Guid bytes) part = one_equal _
closing_sort (Moment ticks) part = one_equal _
closing_sort (Int32 n) part = one_equal _
closing_sort (Int64 n) part = one_equal _

-- what a search comes to by what stands first
abbrev pub sought_by : {A : Type 0} → ℕ → List ℕ → Option A → Sought A
sought_by place rest (Some value) = found value rest
sought_by place rest None = missed place Expected

abbrev pub IsSoughtAt : {A : Type 0} → (LexemeKind → List ℕ → Option A → Type 0) → ℕ → First → Sought A → Type 0
IsSoughtAt {A = A} Has place (token kind part rest) s = (o : Option A) × Has kind part o × (s ≡ sought_by place rest o)
IsSoughtAt Has place (none fault) s = s ≡ missed place fault

sought_at : {A : Type 0} (Has : LexemeKind → List ℕ → Option A → Type 0) (text : List ℕ) (s : Sought A) → IsSought Has text s → (first : First) × IsFirst text first × IsSoughtAt Has (left text) first s
sought_at Has text (found value rest) h = (token h.0 h.1 rest, h.2, (Some value, h.3, refl))
sought_at Has text (missed place fault) h = ⊎_elim
    (λ at_none. (none fault, at_none, ap (λ (k : ℕ). missed k fault) h.0))
    (λ at_token. (token at_token.0 at_token.1 at_token.2, at_token.3, (None, at_token.4, ap (λ (k : ℕ). missed k fault) h.0 ∙ ap (missed (left text)) at_token.5)))
    h.1

one_at : {A : Type 0} (Has : LexemeKind → List ℕ → Option A → Type 0) (place : ℕ) (first : First) → IsSort Has → IsOne (IsSoughtAt Has place first)
one_at Has place (token kind part rest) sort a b h k = h.2 ∙ ap (sought_by place rest) (sort kind part h.0 k.0 h.1 k.1) ∙ sym k.2
one_at Has place (none fault) sort a b h k = h ∙ sym k

-- a search comes to one thing
pub sought_one : {A : Type 0} (Has : LexemeKind → List ℕ → Option A → Type 0) (text : List ℕ) → IsSort Has → IsOne (IsSought Has text)
sought_one Has text sort a b h k =
    let x = sought_at Has text a h in
    let y = sought_at Has text b k in
    let same = first_one text x.0 y.0 x.1 y.1 in
    one_at Has (left text) y.0 sort a b (subst (λ (first : First). IsSoughtAt Has (left text) first a) same x.2) y.2
