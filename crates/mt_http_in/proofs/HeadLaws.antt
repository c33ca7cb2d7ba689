-- Which bytes have no head, whatever follows, and what the spans of a head that was found cover.
use Rattle.std.proofs.Common.{◌≡◌, ℕ, ◌<◌, ◌≤◌, List, [], ◌∷◌, ◌++◌, zero, suc, slice_index, length, take, drop, map, refl, sym, ap, ◌∙◌, arith, subst, append-nil}
use Rattle.std.specs.Prelude.{IsTrue, All, IsUtf8}
use Rattle.std.proofs.lemmas.List.Elements.{All-cons, All-nil, All-head, All-tail, All-weaker}
use Rattle.std.proofs.lemmas.Str.{IsUtf8-from_ascii}
use Rattle.std.proofs.lemmas.Str.Ascii.{IsAscii-from_all}
use Rattle.std.proofs.lemmas.Grind.{common_steps}
use Rattle.httparse.specs.Grammar.{is_token_byte, is_uri_byte, IsToken, IsField, Field as FieldLine, RequestHead, IsRequestHead, ReadsRequest, print_request, HasNoRequest, lf}
use Rattle.httparse.specs.Spans.{RequestOverflows, IsRequestOf, IsRequestAt, IsRequestWithin, IsWithin, IsHeaderWithin, header_bytes, name_and_value, span_bytes}
use Rattle.httparse.specs.declared.spans.Span.{Span}
use Rattle.httparse.specs.declared.spans.HeaderSpan.{HeaderSpan}
use Rattle.httparse.specs.declared.spans.RequestSpans.{RequestSpans}
use Rattle.httparse.proofs.GrammarLemmas.{request_unique, ReadsRequest-append}
use Rattle.mt_http_in.specs.declared.fields.Field.{Field}
use Rattle.mt_http_in.specs.declared.heads.Head.{Head}
use Rattle.mt_http_in.specs.declared.heads.Parsed.TheVariants.{Whole}
use Rattle.mt_http_in.specs.Heads.{NeverHasHead, IsFound, IsHeadAt, HasNameAt, field_at, field_of, ParsedAs, IsHeadBegun, IsHeadBytes}
use Rattle.mt_http_in.proofs.FillLaws.{front}

pub never_overflows : (bytes : List ℕ) → RequestOverflows 64 bytes → NeverHasHead bytes
never_overflows bytes over more h rest g e =
    let many : 64 < length h.fields = over more h rest (g.grammar, e) in
    absurd (omega (arith, g.few))

pub never_long : (bytes : List ℕ) (h : RequestHead) (rest : List ℕ) → ReadsRequest bytes h rest → 16384 < length (print_request h) → NeverHasHead bytes
never_long bytes h rest reads long more g rest' is e =
    let same = request_unique (bytes ++ more) h g (rest ++ more) rest' (ReadsRequest-append bytes h rest more reads) (is.grammar, e) in
    let eq : length (print_request h) ≡ length (print_request g) = ap (λ v. length (print_request v)) same.0 in
    absurd (omega (arith, is.short))

pub never_late : (bytes : List ℕ) → HasNoRequest bytes → 16384 ≤ length bytes → NeverHasHead bytes
never_late bytes none long more h rest is e =
    none h (drop (length (print_request h)) bytes) (is.grammar, front bytes more (print_request h) rest e (omega (arith, is.short)))

-- a short head, so that no room overflows before the first byte
some : RequestHead
some = record { blank = []; method = 71 ∷ []; target = 47 ∷ []; minor = 0; line_end = lf; fields = []; last = lf }

Token : ℕ → Type 0
Token b = IsTrue (is_token_byte b)

Uri : ℕ → Type 0
Uri b = IsTrue (is_uri_byte b)

slash_ascii : (i : ℕ) → slice_index (47 ∷ []) i < 128
slash_ascii zero = omega arith
slash_ascii (suc i) = grind (arith, common_steps)

some_is : IsRequestHead some
unfolding some is_token_byte Token Uri
some_is = record {
  method = (omega arith, All-cons Token 71 [] refl (All-nil Token));
  target = (omega arith, All-cons Uri 47 [] refl (All-nil Uri));
  target_text = IsUtf8-from_ascii (47 ∷ []) slash_ascii;
  minor = omega arith;
  fields = All-nil IsField;
}

pub overflow_some : (bytes : List ℕ) → RequestOverflows 64 bytes → 0 < length bytes
unfolding some
overflow_some [] over = let many : 64 < 0 = over (print_request some) some [] (some_is, sym (append-nil (print_request some))) in absurd (omega arith)
overflow_some (b ∷ bytes) over = omega arith

pub never_of : (bytes : List ℕ) (headers : List HeaderSpan) (r : RequestSpans) → IsRequestOf bytes headers r → 16384 < r.len → r.len ≤ length bytes → NeverHasHead bytes × (0 < length bytes)
never_of bytes headers r found long le = (never_long bytes found.0 _ found.1.reads (subst (λ n. 16384 < n) found.1.len long), omega arith)

-- ---- what the spans cover

token_is_ascii : (b : ℕ) → IsTrue (is_token_byte b) → b < 128
unfolding is_token_byte
token_is_ascii b token = grind (arith, common_steps)

token_text : (bytes : List ℕ) → IsToken bytes → IsUtf8 bytes
token_text bytes token = IsUtf8-from_ascii bytes (IsAscii-from_all bytes (All-weaker (λ b. IsTrue (is_token_byte b)) (λ b. b < 128) token_is_ascii bytes token.1))

names_at : (bytes : List ℕ) (spans : List HeaderSpan) (fields : List FieldLine) → map (header_bytes bytes) spans ≡ map name_and_value fields → All IsField fields → All (HasNameAt bytes) spans
names_at bytes [] fields e all = All-nil (HasNameAt bytes)
names_at bytes (s ∷ spans) [] e all = let none : ⊥ = cc in absurd none
names_at bytes (s ∷ spans) (f ∷ fields) e all =
    let first : header_bytes bytes s ≡ name_and_value f = cc in
    let others : map (header_bytes bytes) spans ≡ map name_and_value fields = cc in
    let name : span_bytes bytes s.name ≡ f.name = ap (λ p. p.0) first in
    let is : IsField f = All-head IsField f fields all in
    All-cons (HasNameAt bytes) s spans (subst IsUtf8 (sym name) (token_text f.name is.name)) (names_at bytes spans fields others (All-tail IsField f fields all))

pub fields_at_are : (bytes : List ℕ) (spans : List HeaderSpan) (fields : List FieldLine) → map (header_bytes bytes) spans ≡ map name_and_value fields → map (field_at bytes) spans ≡ map field_of fields
fields_at_are bytes [] [] e = refl
fields_at_are bytes [] (f ∷ fields) e = let none : ⊥ = cc in absurd none
fields_at_are bytes (s ∷ spans) [] e = let none : ⊥ = cc in absurd none
fields_at_are bytes (s ∷ spans) (f ∷ fields) e =
    let first : header_bytes bytes s ≡ name_and_value f = cc in
    let others : map (header_bytes bytes) spans ≡ map name_and_value fields = cc in
    let make : List ℕ × List ℕ → Field = λ p. record { name = p.0; value = p.1 } in
    let here : field_at bytes s ≡ field_of f = ap make first in
    ap (λ v. v ∷ map (field_at bytes) spans) here ∙ ap (λ vs. field_of f ∷ vs) (fields_at_are bytes spans fields others)

pub length_fields : (bytes : List ℕ) (spans : List HeaderSpan) (fields : List FieldLine) → map (header_bytes bytes) spans ≡ map name_and_value fields → length fields ≡ length spans
length_fields bytes [] [] e = refl
length_fields bytes [] (f ∷ fields) e = let none : ⊥ = cc in absurd none
length_fields bytes (s ∷ spans) [] e = let none : ⊥ = cc in absurd none
length_fields bytes (s ∷ spans) (f ∷ fields) e =
    let others : map (header_bytes bytes) spans ≡ map name_and_value fields = cc in
    let size : length fields ≡ length spans = length_fields bytes spans fields others in
    omega (arith, size)

pub few_of : (xs : List HeaderSpan) (n k : ℕ) → k ≡ length (take n xs) → length xs ≡ 64 → k ≤ 64
few_of xs n k e sixty = grind (arith, common_steps, e, sixty)

within_more : (n m : ℕ) (span : Span) → n ≤ m → IsWithin n span → IsWithin m span
within_more n m span le w = (w.0, omega (arith, w.1))

headers_more : (n m : ℕ) (h : HeaderSpan) → n ≤ m → IsHeaderWithin n h → IsHeaderWithin m h
headers_more n m h le w = (within_more n m h.name le w.0, within_more n m h.value le w.1)

pub found_is : (bytes : List ℕ) (headers : List HeaderSpan) (r : RequestSpans) → IsRequestWithin bytes headers r → IsRequestOf bytes headers r → IsFound bytes r (take r.headers headers)
found_is bytes headers r w found =
    let h : RequestHead = found.0 in
    let at : IsRequestAt bytes headers r h = found.1 in
    let is : IsRequestHead h = at.reads.0 in
    let le : r.len ≤ length bytes = w.section.len_fits in
    record {
      method = within_more r.len (length bytes) r.method le w.method;
      method_text = subst IsUtf8 (sym at.method) (token_text h.method is.method);
      target = within_more r.len (length bytes) r.path le w.path;
      target_text = subst IsUtf8 (sym at.path) is.target_text;
      inside = All-weaker (IsHeaderWithin r.len) (IsHeaderWithin (length bytes)) (λ x. headers_more r.len (length bytes) x le) (take r.headers headers) w.section.headers_fit;
      names = names_at bytes (take r.headers headers) h.fields at.fields is.fields;
    }

pub whole_is : (bytes : List ℕ) (headers : List HeaderSpan) (r : RequestSpans) (v : Head) → length headers ≡ 64 → IsRequestWithin bytes headers r → IsRequestOf bytes headers r → r.len ≤ 16384
    → IsHeadAt bytes r (take r.headers headers) v → ParsedAs bytes (Whole v)
whole_is bytes headers r v room w found short copied =
    let h : RequestHead = found.0 in
    let at : IsRequestAt bytes headers r h = found.1 in
    let count : length h.fields ≡ length (take r.headers headers) = length_fields bytes (take r.headers headers) h.fields at.fields in
    let size : v.size ≡ length (print_request h) = copied.size ∙ at.len in
    let few : length h.fields ≤ 64 = few_of headers r.headers (length h.fields) count room in
    let len : r.len ≡ length (print_request h) = at.len in (
      h,
      record { grammar = at.reads.0; short = omega (arith, short, len); few = few },
      record {
        method = copied.method ∙ at.method;
        target = copied.target ∙ at.path;
        minor = copied.minor ∙ at.version;
        fields = copied.fields ∙ fields_at_are bytes (take r.headers headers) h.fields at.fields;
        size = size;
      },
      at.reads.1 ∙ ap (λ k. print_request h ++ drop k bytes) (sym copied.size),
      subst (λ k. k ≤ length bytes) (sym copied.size) w.section.len_fits,
    )

-- where a head has begun, none stands whole
pub begun_none : (kept slice : List ℕ) → slice ≡ kept → IsHeadBegun slice → (bytes rest : List ℕ) → IsHeadBytes bytes → kept ≡ bytes ++ rest → ⊥
begun_none kept slice same begun bytes rest head e = begun.none head.0 rest (head.1, same ∙ e ∙ ap (λ v. v ++ rest) head.2)
