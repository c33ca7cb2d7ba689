-- Field sections: how long their lines are, and what is seen of them in a window.
use Rattle.std.proofs.Common.{Bool, true, false, cond, take_all, rules, ◌≡◌, ℕ, zero, suc, ◌+◌, ◌-◌, ◌<◌, ◌≤◌, List, [], ◌∷◌, ◌++◌, length, take, drop, get_or, Ok, Err, refl, sym, ap, ◌∙◌, arith, append_assoc, append-nil, length-append, subst, inl, inr}
use Rattle.std.specs.Prelude.{◌⊎◌, IsTrue, All}
use Rattle.std.proofs.lemmas.List.{take-append-drop, take-append-le, take_more, drop_more}
use Rattle.std.proofs.lemmas.List.Elements.{All-head, All-tail}
use Rattle.std.proofs.lemmas.List.Sums.{sum_by-append}
use Rattle.std.proofs.Math.Seq.{take-append_seam, get_or-append_seam}
use Rattle.httparse.specs.Grammar.{is_token_byte, is_value_byte, AllPass, IsField, Field, LineEnd, crlf, lf, print_end, print_field, print_section, HasNoSection, MayBecomeSection, NeverHasSection}
use Rattle.httparse.specs.Spans.{IsSectionAt, SectionExceeds}
use Rattle.httparse.specs.declared.spans.HeaderSpan.{HeaderSpan}
use Rattle.mt_io.specs.Ends.{Input}
use Rattle.mt_http_in.specs.declared.reader.Halt.TheVariants.{Refused}
use Rattle.mt_http_in.specs.declared.Code.TheVariants.{InvalidHead, InvalidBody}
use Rattle.mt_http_in.specs.Reading.{Reads}
use Rattle.mt_http_in.specs.Filling.{Reached}
use Rattle.mt_http_in.specs.Trailers.{is_feed, feeds, first_lines, print_lines, SpellsTrailers, AreTrailersBegun, window, IsOverlong, TrailersRefused, IsSectionBytes}
use Rattle.mt_http_in.proofs.FillLaws.{reached_spent, known_now, ended_now}
use Rattle.mt_http_in.proofs.HeadLaws.{length_fields, few_of}

-- ---- how long the lines are

abbrev EndsInFeed : List ℕ → Type 0
EndsInFeed bytes = (front : List ℕ) × (bytes ≡ front ++ 10 ∷ [])

field_ends : (f : Field) → EndsInFeed (print_field f)
field_ends f = by_end f.name f.raw f.end
  where
    by_end : (name raw : List ℕ) (e : LineEnd) → (front : List ℕ) × (name ++ 58 ∷ raw ++ print_end e ≡ front ++ 10 ∷ [])
    by_end name raw crlf = (name ++ 58 ∷ raw ++ 13 ∷ [], sym (append_assoc (name ++ 58 ∷ raw) (13 ∷ []) (10 ∷ [])))
    by_end name raw lf = (name ++ 58 ∷ raw, refl)

lines_end : (fields : List Field) → (print_lines fields ≡ []) ⊎ EndsInFeed (print_lines fields)
lines_end [] = inl refl
lines_end (f ∷ fields) = by_rest (lines_end fields)
  where
    by_rest : ((print_lines fields ≡ []) ⊎ EndsInFeed (print_lines fields)) → (print_field f ++ print_lines fields ≡ []) ⊎ EndsInFeed (print_field f ++ print_lines fields)
    by_rest (inl none) = let one = field_ends f in inr (one.0, ap (λ v. print_field f ++ v) none ∙ append-nil (print_field f) ∙ one.1)
    by_rest (inr some) = inr (print_field f ++ some.0, ap (λ v. print_field f ++ v) some.1 ∙ sym (append_assoc (print_field f) some.0 (10 ∷ [])))

pub lines_before_crlf : (section : List ℕ) (fields : List Field) (last : LineEnd) → section ≡ print_section fields last → 2 ≤ length section → get_or section (length section - 2) 0 ≡ 13 → length section - 2 ≡ length (print_lines fields)
lines_before_crlf section fields crlf e long here =
    let size : length section ≡ length (print_lines fields) + 2 = ap length e ∙ length-append (print_lines fields) (13 ∷ 10 ∷ []) in
    omega (arith, size)
lines_before_crlf section fields lf e long here = by_lines (lines_end fields)
  where
    by_lines : ((print_lines fields ≡ []) ⊎ EndsInFeed (print_lines fields)) → length section - 2 ≡ length (print_lines fields)
    by_lines (inl none) =
        let size : length section ≡ length (print_lines fields) + 1 = ap length e ∙ length-append (print_lines fields) (10 ∷ []) in
        absurd (omega (arith, size, ap length none, long))
    by_lines (inr some) =
        let whole : section ≡ some.0 ++ 10 ∷ 10 ∷ [] = e ∙ ap (λ v. v ++ 10 ∷ []) some.1 ∙ append_assoc some.0 (10 ∷ []) (10 ∷ []) in
        let size : length section ≡ length some.0 + 2 = ap length whole ∙ length-append some.0 (10 ∷ 10 ∷ []) in
        let place : length section - 2 ≡ length some.0 = omega (arith, size) in
        let there : 10 ≡ 13 = sym (get_or-append_seam some.0 10 (10 ∷ []) 0) ∙ ap (λ v. get_or v (length some.0) 0) (sym whole) ∙ ap (λ k. get_or section k 0) (sym place) ∙ here in
        absurd (omega (arith, there))

-- ---- lines

pub feeds-append : (a b : List ℕ) → feeds (a ++ b) ≡ feeds a + feeds b
feeds-append a b = sum_by-append (λ x. cond (is_feed x) 1 0) a b

-- one byte more in front
feeds_more : (b : ℕ) (bytes : List ℕ) → feeds (b ∷ bytes) ≡ cond (is_feed b) 1 0 + feeds bytes
feeds_more b bytes =
    let whole : feeds (b ∷ bytes) ≡ feeds (b ∷ []) + feeds bytes = feeds-append (b ∷ []) bytes in
    let one : feeds (b ∷ []) ≡ cond (is_feed b) 1 0 = omega arith in
    whole ∙ ap (λ k. k + feeds bytes) one

pub first_prefix : (n : ℕ) (xs : List ℕ) → (rest : List ℕ) × (xs ≡ first_lines n xs ++ rest)
first_prefix zero xs = (xs, refl)
first_prefix (suc n) [] = ([], refl)
first_prefix (suc n) (b ∷ xs) = by_feed (is_feed b) (first_prefix n xs) (first_prefix (suc n) xs)
  where
    by_feed : (f : Bool) → (rest : List ℕ) × (xs ≡ first_lines n xs ++ rest) → (rest : List ℕ) × (xs ≡ first_lines (suc n) xs ++ rest) → (rest : List ℕ) × (b ∷ xs ≡ (b ∷ cond f (first_lines n xs) (first_lines (suc n) xs)) ++ rest)
    by_feed true x y = (x.0, ap (λ v. b ∷ v) x.1)
    by_feed false x y = (y.0, ap (λ v. b ∷ v) y.1)

pub first_grows : (n : ℕ) (xs more : List ℕ) → (rest : List ℕ) × (first_lines n (xs ++ more) ≡ first_lines n xs ++ rest)
first_grows zero xs more = ([], refl)
first_grows (suc n) [] more = (first_lines (suc n) more, refl)
first_grows (suc n) (b ∷ xs) more = by_feed (is_feed b) (first_grows n xs more) (first_grows (suc n) xs more)
  where
    by_feed : (f : Bool) → (rest : List ℕ) × (first_lines n (xs ++ more) ≡ first_lines n xs ++ rest) → (rest : List ℕ) × (first_lines (suc n) (xs ++ more) ≡ first_lines (suc n) xs ++ rest)
        → (rest : List ℕ) × (b ∷ cond f (first_lines n (xs ++ more)) (first_lines (suc n) (xs ++ more)) ≡ (b ∷ cond f (first_lines n xs) (first_lines (suc n) xs)) ++ rest)
    by_feed true x y = (x.0, ap (λ v. b ∷ v) x.1)
    by_feed false x y = (y.0, ap (λ v. b ∷ v) y.1)

first_whole : (n : ℕ) (xs : List ℕ) → feeds (first_lines n xs) < n → first_lines n xs ≡ xs
first_whole zero xs less = absurd (omega (arith, less))
first_whole (suc n) [] less = refl
first_whole (suc n) (b ∷ xs) less =
    by_feed (is_feed b) (subst (λ k. k < suc n) (feeds_more b (cond (is_feed b) (first_lines n xs) (first_lines (suc n) xs))) less) (first_whole n xs) (first_whole (suc n) xs)
  where
    by_feed : (f : Bool) → cond f 1 0 + feeds (cond f (first_lines n xs) (first_lines (suc n) xs)) < suc n → (feeds (first_lines n xs) < n → first_lines n xs ≡ xs) → (feeds (first_lines (suc n) xs) < suc n → first_lines (suc n) xs ≡ xs) → b ∷ cond f (first_lines n xs) (first_lines (suc n) xs) ≡ b ∷ xs
    by_feed true low x y = ap (λ v. b ∷ v) (x (omega (arith, low)))
    by_feed false low x y = ap (λ v. b ∷ v) (y (omega (arith, low)))

first_full : (n : ℕ) (xs more : List ℕ) → n ≤ feeds (first_lines n xs) → first_lines n (xs ++ more) ≡ first_lines n xs
first_full zero xs more le = refl
first_full (suc n) [] more le = absurd (omega (arith, le))
first_full (suc n) (b ∷ xs) more le =
    by_feed (is_feed b) (subst (λ k. suc n ≤ k) (feeds_more b (cond (is_feed b) (first_lines n xs) (first_lines (suc n) xs))) le) (first_full n xs more) (first_full (suc n) xs more)
  where
    by_feed : (f : Bool) → suc n ≤ cond f 1 0 + feeds (cond f (first_lines n xs) (first_lines (suc n) xs)) → (n ≤ feeds (first_lines n xs) → first_lines n (xs ++ more) ≡ first_lines n xs)
        → (suc n ≤ feeds (first_lines (suc n) xs) → first_lines (suc n) (xs ++ more) ≡ first_lines (suc n) xs)
        → b ∷ cond f (first_lines n (xs ++ more)) (first_lines (suc n) (xs ++ more)) ≡ b ∷ cond f (first_lines n xs) (first_lines (suc n) xs)
    by_feed true high x y = ap (λ v. b ∷ v) (x (omega (arith, high)))
    by_feed false high x y = ap (λ v. b ∷ v) (y (omega (arith, high)))

-- nothing stands behind the last line
pub first_ends : (n : ℕ) (xs a b : List ℕ) → first_lines n xs ≡ a ++ b → n ≤ feeds a → b ≡ []
first_ends zero xs [] b e le = sym e
first_ends zero xs (c ∷ a) b e le = let none : ⊥ = cc in absurd none
first_ends (suc n) xs [] b e le = absurd (omega (arith, le))
first_ends (suc n) [] (c ∷ a) b e le = let none : ⊥ = cc in absurd none
first_ends (suc n) (x ∷ xs) (c ∷ a) b e le =
    let same : x ≡ c = cc in
    let others : cond (is_feed x) (first_lines n xs) (first_lines (suc n) xs) ≡ a ++ b = cc in
    by_feed (is_feed x) others (subst (λ k. suc n ≤ cond (is_feed k) 1 0 + feeds a) (sym same) (subst (λ k. suc n ≤ k) (feeds_more c a) le)) (first_ends n xs a b) (first_ends (suc n) xs a b)
  where
    by_feed : (f : Bool) → cond f (first_lines n xs) (first_lines (suc n) xs) ≡ a ++ b → suc n ≤ cond f 1 0 + feeds a → (first_lines n xs ≡ a ++ b → n ≤ feeds a → b ≡ []) → (first_lines (suc n) xs ≡ a ++ b → suc n ≤ feeds a → b ≡ []) → b ≡ []
    by_feed true others high p q = p others (omega (arith, high))
    by_feed false others high p q = q others (omega (arith, high))

-- a line that ends within the first n stands whole in them
pub first_holds : (n : ℕ) (q r : List ℕ) → feeds q < n → (rest : List ℕ) × (first_lines n (q ++ 10 ∷ r) ≡ q ++ 10 ∷ rest)
first_holds zero q r less = absurd (omega (arith, less))
first_holds (suc n) [] r less = (first_lines n r, refl)
first_holds (suc n) (b ∷ q) r less = by_feed (is_feed b) (subst (λ k. k < suc n) (feeds_more b q) less) (first_holds n q r) (first_holds (suc n) q r)
  where
    by_feed : (f : Bool) → cond f 1 0 + feeds q < suc n → (feeds q < n → (rest : List ℕ) × (first_lines n (q ++ 10 ∷ r) ≡ q ++ 10 ∷ rest)) → (feeds q < suc n → (rest : List ℕ) × (first_lines (suc n) (q ++ 10 ∷ r) ≡ q ++ 10 ∷ rest)) → (rest : List ℕ) × (b ∷ cond f (first_lines n (q ++ 10 ∷ r)) (first_lines (suc n) (q ++ 10 ∷ r)) ≡ (b ∷ q) ++ 10 ∷ rest)
    by_feed true low x y = let z = x (omega (arith, low)) in (z.0, ap (λ v. b ∷ v) z.1)
    by_feed false low x y = let z = y (omega (arith, low)) in (z.0, ap (λ v. b ∷ v) z.1)

pub feed_is : (left b : ℕ) → b ≡ 10 → left - 1 ≡ left - cond (is_feed b) 1 0
feed_is left b e = ap (λ k. left - cond (is_feed k) 1 0) (sym e)

pub other_is : (left b : ℕ) → (b ≡ 10 → ⊥) → left ≡ left - cond (is_feed b) 1 0
other_is left b other =
    let f : is_feed b ≡ false = search (rules, other) in
    let none : left ≡ left - 0 = omega arith in
    none ∙ ap (λ v. left - cond v 1 0) (sym f)

-- one more byte of a walk over the lines
pub lines_step : (most at left : ℕ) (bytes : List ℕ) → at < length bytes → 0 < left → first_lines most bytes ≡ take at bytes ++ first_lines left (drop at bytes)
    → first_lines most bytes ≡ take (at + 1) bytes ++ first_lines (left - cond (is_feed (get_or bytes at 0)) 1 0) (drop (at + 1) bytes)
lines_step most at zero bytes less some e = absurd (omega (arith, some))
lines_step most at (suc left) bytes less some e =
    let b : ℕ = get_or bytes at 0 in
    let here : drop at bytes ≡ get_or bytes at 0 ∷ drop (at + 1) bytes = drop_more bytes at 0 less in
    e ∙ ap (λ v. take at bytes ++ first_lines (suc left) v) here
    ∙ sym (append_assoc (take at bytes) (b ∷ []) (cond (is_feed b) (first_lines left (drop (at + 1) bytes)) (first_lines (suc left) (drop (at + 1) bytes))))
    ∙ ap (λ v. v ++ cond (is_feed b) (first_lines left (drop (at + 1) bytes)) (first_lines (suc left) (drop (at + 1) bytes))) (sym (take_more bytes at 0 less))
    ∙ ap (λ v. take (at + 1) bytes ++ v) (by_feed (is_feed b) (drop (at + 1) bytes))
  where
    by_feed : (f : Bool) (xs : List ℕ) → cond f (first_lines left xs) (first_lines (suc left) xs) ≡ first_lines (suc left - cond f 1 0) xs
    by_feed true xs = let e : suc left - 1 ≡ left = omega arith in ap (λ k. first_lines k xs) (sym e)
    by_feed false xs = let e : suc left - 0 ≡ suc left = omega arith in ap (λ k. first_lines k xs) (sym e)

-- ---- lines of fields

no_truth : (f : Bool) → f ≡ false → IsTrue f → ⊥
no_truth f e x = search (rules, e, x)

none_fed : (test : ℕ → Bool) (bytes : List ℕ) → test 10 ≡ false → AllPass test bytes → feeds bytes ≡ 0
none_fed test [] off all = refl
none_fed test (b ∷ bytes) off all =
    let first : IsTrue (test b) = All-head (λ x. IsTrue (test x)) b bytes all in
    let others : feeds bytes ≡ 0 = none_fed test bytes off (All-tail (λ x. IsTrue (test x)) b bytes all) in
    let other : is_feed b ≡ false = by_feed (is_feed b) refl first in
    let whole : feeds (b ∷ bytes) ≡ 0 + feeds bytes = feeds_more b bytes ∙ ap (λ f. cond f 1 0 + feeds bytes) other in
    omega (arith, whole, others)
  where
    by_feed : (f : Bool) → is_feed b ≡ f → IsTrue (test b) → f ≡ false
    by_feed true e x = let same : b ≡ 10 = search (rules, e) in absurd (no_truth (test b) (ap test same ∙ off) x)
    by_feed false e x = refl

token_feed : is_token_byte 10 ≡ false
unfolding is_token_byte
token_feed = refl

field_fed : (f : Field) → IsField f → feeds (print_field f) ≡ 1
field_fed f is =
    let name : feeds f.name ≡ 0 = none_fed is_token_byte f.name token_feed is.name.1 in
    let raw : feeds f.raw ≡ 0 = none_fed is_value_byte f.raw refl is.raw in
    let whole : feeds (print_field f) ≡ feeds (f.name ++ 58 ∷ f.raw) + feeds (print_end f.end) = feeds-append (f.name ++ 58 ∷ f.raw) (print_end f.end) in
    let start : feeds (f.name ++ 58 ∷ f.raw) ≡ feeds f.name + feeds (58 ∷ f.raw) = feeds-append f.name (58 ∷ f.raw) in
    let colon : feeds (58 ∷ f.raw) ≡ 0 + feeds f.raw = feeds_more 58 f.raw in
    omega (arith, name, raw, whole, start, colon, end_fed f.end)
  where
    end_fed : (e : LineEnd) → feeds (print_end e) ≡ 1
    end_fed crlf = refl
    end_fed lf = refl

pub fields_fed : (fields : List Field) → All IsField fields → feeds (print_lines fields) ≡ length fields
fields_fed [] all = refl
fields_fed (f ∷ fields) all =
    let one : feeds (print_field f) ≡ 1 = field_fed f (All-head IsField f fields all) in
    let others : feeds (print_lines fields) ≡ length fields = fields_fed fields (All-tail IsField f fields all) in
    let whole : feeds (print_lines (f ∷ fields)) ≡ feeds (print_field f) + feeds (print_lines fields) = feeds-append (print_field f) (print_lines fields) in
    omega (arith, one, others, whole)

-- ---- windows

pub window_prefix : (room : ℕ) (all : List ℕ) → (rest : List ℕ) × (all ≡ window room all ++ rest)
window_prefix room all =
    let lines = first_prefix 65 (take (room + 2) all) in
    (lines.0 ++ drop (room + 2) all, sym (take-append-drop (room + 2) all) ∙ ap (λ v. v ++ drop (room + 2) all) lines.1 ∙ append_assoc (window room all) lines.0 (drop (room + 2) all))

window_whole : (room : ℕ) (all : List ℕ) → length all < room + 2 → feeds (window room all) < 65 → window room all ≡ all
window_whole room all short few = first_whole 65 (take (room + 2) all) few ∙ take_all (room + 2) all (omega (arith, short))

-- ---- a section that was found

taken : (seen p rest : List ℕ) (len : ℕ) → seen ≡ p ++ rest → len ≡ 0 + length p → take len seen ≡ p
taken seen p rest len e size =
    let same : len ≡ length p = omega (arith, size) in
    ap (λ k. take k seen) same ∙ ap (take (length p)) e ∙ take-append_seam p rest

module _ (bytes seen : List ℕ) (room : ℕ) (headers : List HeaderSpan) (len count lines : ℕ) (seen_is : seen ≡ window room bytes) (found : (fields : List Field) × (last : LineEnd) × IsSectionAt seen 0 headers len count fields last)
    (lines_are : (fields : List Field) (last : LineEnd) → take len seen ≡ print_section fields last → lines ≡ length (print_lines fields)) where
  section : List ℕ
  section = print_section found.0 found.1

  seen_as : seen ≡ print_section found.0 found.1 ++ drop len seen
  seen_as = found.2.reads.1

  others : List ℕ
  others = (window_prefix room bytes).0

  bytes_as : bytes ≡ print_section found.0 found.1 ++ (drop len seen ++ others)
  unfolding others
  bytes_as = (window_prefix room bytes).1 ∙ ap (λ v. v ++ (window_prefix room bytes).0) (sym seen_is ∙ seen_as) ∙ append_assoc (print_section found.0 found.1) (drop len seen) (window_prefix room bytes).0

  size : lines ≡ length (print_lines found.0)
  size = lines_are found.0 found.1 (taken seen (print_section found.0 found.1) (drop len seen) len seen_as found.2.len_is)

  pub long_section : room < lines → IsOverlong room bytes
  long_section more = inr (inl (record {
    fields = found.0;
    last = found.1;
    rest = drop len seen;
    reads = (found.2.reads.0, sym seen_is ∙ seen_as);
    long = omega (arith, more, size);
  }))

  pub whole_section : length headers ≡ 64 → lines ≤ room → SpellsTrailers room (take len bytes) tt × (len ≤ length bytes)
  whole_section sixty fits =
      let front : take len bytes ≡ print_section found.0 found.1 = taken bytes (print_section found.0 found.1) (drop len seen ++ others) len bytes_as found.2.len_is in (
        record {
          fields = found.0;
          last = found.1;
          are = record {
            grammar = found.2.reads.0;
            few = few_of headers count (length found.0) (length_fields seen (take count headers) found.0 found.2.fields_are) sixty;
            short = omega (arith, fits, size);
          };
          is = front;
        },
        omega (arith, found.2.len_is, ap length bytes_as, length-append (print_section found.0 found.1) (drop len seen ++ others)),
      )

-- ---- more bytes

take_grows : (n : ℕ) (xs more : List ℕ) → (rest : List ℕ) × (take n (xs ++ more) ≡ take n xs ++ rest)
take_grows zero xs more = ([], refl)
take_grows (suc n) [] more = (take (suc n) more, refl)
take_grows (suc n) (x ∷ xs) more = let rest = take_grows n xs more in (rest.0, ap (λ v. x ∷ v) rest.1)

window_grows : (room : ℕ) (kept more : List ℕ) → (rest : List ℕ) × (window room (kept ++ more) ≡ window room kept ++ rest)
window_grows room kept more =
    let taken = take_grows (room + 2) kept more in
    let lines = first_grows 65 (take (room + 2) kept) taken.0 in
    (lines.0, ap (first_lines 65) taken.1 ∙ lines.1)

window_full : (room : ℕ) (kept more : List ℕ) → (room + 2 ≤ length kept) ⊎ (65 ≤ feeds (window room kept)) → window room (kept ++ more) ≡ window room kept
window_full room kept more (inl long) = ap (first_lines 65) (take-append-le (room + 2) kept more long)
window_full room kept more (inr many) = let taken = take_grows (room + 2) kept more in ap (first_lines 65) taken.1 ∙ first_full 65 (take (room + 2) kept) taken.0 many

never_more : (room : ℕ) (kept more : List ℕ) → NeverHasSection (window room kept) → NeverHasSection (window room (kept ++ more))
never_more room kept more never others fields last rest reads =
    let grown = window_grows room kept more in
    never (grown.0 ++ others) fields last rest (reads.0, sym (ap (λ v. v ++ others) grown.1 ∙ append_assoc (window room kept) grown.0 others) ∙ reads.1)

exceeds_more : (a more : List ℕ) → SectionExceeds 64 a → SectionExceeds 64 (a ++ more)
exceeds_more a more x = (x.0, x.1 ++ more, ap (λ v. v ++ more) x.2 ∙ append_assoc x.0 x.1 more, x.3, x.4, x.5)

overlong_more : (room : ℕ) (kept more : List ℕ) → IsOverlong room kept → IsOverlong room (kept ++ more)
overlong_more room kept more (inl many) =
    let grown = window_grows room kept more in
    inl (
      λ others fields last rest reads. many.0 (grown.0 ++ others) fields last rest (reads.0, sym (ap (λ v. v ++ others) grown.1 ∙ append_assoc (window room kept) grown.0 others) ∙ reads.1),
      subst (SectionExceeds 64) (sym grown.1) (exceeds_more (window room kept) grown.0 many.1),
    )
overlong_more room kept more (inr (inl x)) =
    let grown = window_grows room kept more in
    inr (inl (record {
      fields = x.fields;
      last = x.last;
      rest = x.rest ++ grown.0;
      reads = (x.reads.0, grown.1 ∙ ap (λ v. v ++ grown.0) x.reads.1 ∙ append_assoc (print_section x.fields x.last) x.rest grown.0);
      long = x.long;
    }))
overlong_more room kept more (inr (inr x)) =
    let same : window room kept ≡ window room (kept ++ more) = sym (window_full room kept more x.long) in
    inr (inr (record { none = subst HasNoSection same x.none; coming = subst MayBecomeSection same x.coming; long = still x.long }))
  where
    still : (room + 2 ≤ length kept) ⊎ (65 ≤ feeds (window room kept)) → (room + 2 ≤ length (kept ++ more)) ⊎ (65 ≤ feeds (window room (kept ++ more)))
    still (inl long) = inl (omega (arith, long, length-append kept more))
    still (inr many) = inr (subst (λ v. 65 ≤ feeds v) (sym (window_full room kept more (inr many))) many)

-- trailers have begun where the window is all, and else they do not end
pub begun_of : (room : ℕ) (bytes seen : List ℕ) (n m : ℕ) → seen ≡ window room bytes → HasNoSection seen → MayBecomeSection seen → n ≡ length bytes → n < room + 2 → m ≡ feeds seen → m ≤ 64 → AreTrailersBegun room bytes
begun_of room bytes seen n m is none coming size short count few =
    let low : feeds (window room bytes) < 65 = omega (arith, few, count, ap feeds is) in
    let all : seen ≡ bytes = is ∙ window_whole room bytes (omega (arith, size, short)) low in
    record { none = subst HasNoSection all none; coming = subst MayBecomeSection all coming; short = omega (arith, size, short); few = omega (arith, few, count, ap feeds all) }

pub section_none : (room : ℕ) (kept slice : List ℕ) → slice ≡ kept → AreTrailersBegun room slice → (bytes rest : List ℕ) → IsSectionBytes bytes → kept ≡ bytes ++ rest → ⊥
section_none room kept slice same begun bytes rest x e = begun.none x.0 x.1 rest (x.2, same ∙ e ∙ ap (λ v. v ++ rest) x.3)

module _ (room : ℕ) (kept : List ℕ) (s : Input) (kept' slice : List ℕ) (t : Input) (r : Reached IsSectionBytes kept s kept' t) (same : slice ≡ kept') where
  pub refused_overlong : IsOverlong room slice → Reads {V = Unit {0}} (SpellsTrailers room) (AreTrailersBegun room) (TrailersRefused room) kept s (Err (Refused InvalidHead)) kept' t
  refused_overlong x = record {
    later = r.later;
    read = (
      tt,
      known_now IsSectionBytes (TrailersRefused room InvalidHead) kept s kept' t r (λ more. overlong_more room kept' more (subst (IsOverlong room) same x)),
      ended_now IsSectionBytes kept s kept' t r,
    );
  }

  pub refused_malformed : NeverHasSection (window room slice) → Reads {V = Unit {0}} (SpellsTrailers room) (AreTrailersBegun room) (TrailersRefused room) kept s (Err (Refused InvalidBody)) kept' t
  refused_malformed x = record {
    later = r.later;
    read = (
      tt,
      known_now IsSectionBytes (TrailersRefused room InvalidBody) kept s kept' t r (λ more. inl (never_more room kept' more (subst (λ v. NeverHasSection (window room v)) same x))),
      ended_now IsSectionBytes kept s kept' t r,
    );
  }

  pub trailers_whole : (n : ℕ) (kept'' : List ℕ) → SpellsTrailers room (take n slice) tt → kept'' ≡ drop n kept' → Reads {V = Unit {0}} (SpellsTrailers room) (AreTrailersBegun room) (TrailersRefused room) kept s (Ok tt) kept'' t
  trailers_whole n kept'' x d = record {
    later = r.later;
    read = (
      take n slice,
      x,
      reached_spent IsSectionBytes kept s kept' t (take n slice) kept'' r (x.fields, x.last, x.are.grammar, x.is)
          (sym (take-append-drop n kept') ∙ ap (λ v. take n v ++ drop n kept') (sym same) ∙ ap (λ v. take n slice ++ v) (sym d)),
    );
  }
