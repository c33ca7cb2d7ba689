-- Fields and heads in a part, as `httparse` finds them.
use Rattle.std.proofs.Common.{◌≡◌, ℕ, ◌≤◌, Bool, true, false, not, List, [], ◌∷◌, ◌++◌, length, take, drop, map, refl, sym, ap, ◌∙◌, arith, append-nil, subst}
use Rattle.std.specs.Prelude.{IsTrue, ◌==◌, ◌&&◌, option_map, codes}
use Rattle.std.specs.Borrow.{Bor}
use Rattle.std.proofs.lemmas.Bool.Decides.{Decides-eqb}
use Rattle.std.proofs.lemmas.List.{take_at, length-map, length-take-le}
use Rattle.std.proofs.lemmas.List.Elements.{All-head}
use Rattle.httparse.specs.declared.spans.HeaderSpan.{HeaderSpan}
use Rattle.httparse.specs.Grammar.{LineEnd, crlf, lf, Field, is_token_byte, IsToken, print_blank, print_version, print_end, print_section, RequestHead, IsRequestHead, print_request}
use Rattle.httparse.specs.Spans.{header_bytes, name_and_value, AreFieldsAt, IsSectionAt}
use Rattle.httparse.proofs.GrammarLemmas.{print_request-append, section_unique, request_unique}
use Rattle.mt_http_in.specs.Fields.{first_value}
use Rattle.mt_http_in.specs.Heads.{IsHead, HoldsHead, ParsedAs, field_at}
use Rattle.mt_http_in.specs.declared.heads.Head.{Head}
use Rattle.mt_http_in.specs.declared.heads.Parsed.TheVariants.{Whole}
use Rattle.mt_http_in.proofs.HeadLaws.{fields_at_are}
use Rattle.mt_mime.specs.declared.headers.Peeled.{Peeled}
use Rattle.mt_mime.specs.Headers.{is_paired, starts_plain, is_strict, HasFields, HasFieldsAt, Peels, IsInnerHead, HasNoInnerHead}
use Rattle.mt_mime.proofs.MarkLaws.{clash}

unlike : (b : Bool) → (b ≡ true → ⊥) → not b ≡ true
unlike true f = absurd (f refl)
unlike false f = refl

pub both_true : (a b : Bool) → a ≡ true → b ≡ true → (a && b) ≡ true
both_true true b e f = f
both_true false b e f = absurd (cc)

pub both : (a b : Bool) → (a && b) ≡ true → (a ≡ true) × (b ≡ true)
both true true e = (refl, refl)
both true false e = absurd (cc)
both false true e = absurd (cc)
both false false e = absurd (cc)

-- ---- no empty line before a head

Token : ℕ → Type 0
Token b = IsTrue (is_token_byte b)

no_return : is_token_byte 13 ≡ false
unfolding is_token_byte
no_return = refl

no_feed : is_token_byte 10 ≡ false
unfolding is_token_byte
no_feed = refl

token_plain : (method tail : List ℕ) → IsToken method → starts_plain (method ++ tail) ≡ true
unfolding Token
token_plain [] tail is = absurd (omega (arith, is.0))
token_plain (m ∷ ms) tail is =
    let t : is_token_byte m ≡ true = All-head Token m ms is.1 in
    both_true (not (m == 13)) (not (m == 10))
    (unlike (m == 13) (λ e. clash (is_token_byte m) t (ap is_token_byte ((Decides-eqb m 13).0 e) ∙ no_return)))
    (unlike (m == 10) (λ e. clash (is_token_byte m) t (ap is_token_byte ((Decides-eqb m 10).0 e) ∙ no_feed)))

front_plain : (blank : List LineEnd) (xs : List ℕ) → starts_plain (print_blank blank ++ xs) ≡ true → blank ≡ []
front_plain [] xs e = refl
front_plain (crlf ∷ bs) xs e = absurd (cc)
front_plain (lf ∷ bs) xs e = absurd (cc)

tail_of : RequestHead → List ℕ
tail_of h = 32 ∷ (h.target ++ 32 ∷ (print_version h.minor ++ (print_end h.line_end ++ (print_section h.fields h.last ++ []))))

front : (h : RequestHead) → print_request h ≡ print_blank h.blank ++ (h.method ++ tail_of h)
unfolding tail_of
front h = sym (append-nil (print_request h)) ∙ print_request-append h []

plain_blank : (h : RequestHead) → starts_plain (print_request h) ≡ true → h.blank ≡ []
plain_blank h e = front_plain h.blank (h.method ++ tail_of h) (sym (ap starts_plain (front h)) ∙ e)

blank_plain : (h : RequestHead) → IsRequestHead h → h.blank ≡ [] → starts_plain (print_request h) ≡ true
blank_plain h is e =
    ap starts_plain (front h) ∙ ap (λ (b : List LineEnd). starts_plain (print_blank b ++ (h.method ++ tail_of h))) e
    ∙ token_plain h.method (tail_of h) is.method

-- ---- heads

pub inner_of : (h : RequestHead) → IsHead h → is_strict (print_request h) ≡ true → IsInnerHead h
inner_of h is strict =
    let b = both (starts_plain (print_request h)) (is_paired 0 (print_request h)) strict in
    record { head = is; blank = plain_blank h b.0; paired = b.1 }

pub inner_strict : (h : RequestHead) → IsInnerHead h → is_strict (print_request h) ≡ true
inner_strict h is = both_true (starts_plain (print_request h)) (is_paired 0 (print_request h)) (blank_plain h is.head.grammar is.blank) is.paired

-- the bytes of a head that was read
whole_front : (text : List ℕ) (v : Head) (whole : ParsedAs text (Whole v)) → take v.size text ≡ print_request whole.0
whole_front text v whole = ap (take v.size) whole.3 ∙ take_at (print_request whole.0) (drop v.size text) v.size (sym whole.2.size)

pub head_made : (text : List ℕ) (v : Head) → ParsedAs text (Whole v) → is_strict (take v.size text) ≡ true
    → (h : RequestHead) × IsInnerHead h × HoldsHead v h × (text ≡ print_request h ++ drop v.size text) × (v.size ≤ length text)
head_made text v whole strict = (whole.0, inner_of whole.0 whole.1 (sym (ap is_strict (whole_front text v whole)) ∙ strict), whole.2, whole.3, whole.4)

pub head_loose : (text : List ℕ) (v : Head) → ParsedAs text (Whole v) → is_strict (take v.size text) ≡ false → HasNoInnerHead text
head_loose text v whole loose h rest is e =
    let same = request_unique text h whole.0 rest (drop v.size text) (is.head.grammar, e) (whole.1.grammar, whole.3) in
    clash (is_strict (take v.size text)) (ap is_strict (whole_front text v whole ∙ ap print_request (sym same.0)) ∙ inner_strict h is) loose

-- ---- fields

few : (text : List ℕ) (room : List HeaderSpan) (count : ℕ) (fields : List Field) → AreFieldsAt text room count fields → count ≤ length room → length room ≡ 64 → length fields ≤ 64
few text room count fields at fits is =
    let a : length (map (header_bytes text) (take count room)) ≡ length (map name_and_value fields) = ap (λ (ps : List (List ℕ × List ℕ)). length ps) at in
    let b = length-map (take count room) (header_bytes text) in
    let c = length-map fields name_and_value in
    let d = length-take-le count room fits in
    omega (arith, a, b, c, d, fits, is)

section_front : (text : List ℕ) (room : List HeaderSpan) (len count : ℕ) (fields : List Field) (last : LineEnd) → IsSectionAt text 0 room len count fields last → take len text ≡ print_section fields last
section_front text room len count fields last at =
    ap (take len) at.reads.1 ∙ take_at (print_section fields last) (drop len text) len (omega (arith, at.len_is))

pub fields_found : (text : List ℕ) (room : List HeaderSpan) (len count : ℕ) (found : (fields : List Field) × (last : LineEnd) × IsSectionAt text 0 room len count fields last) → len ≤ 16384
    → is_paired 0 (take len text) ≡ true → count ≤ length room → length room ≡ 64 → HasFieldsAt text room len count
fields_found text room len count found short paired fits is =
    let at = found.2 in (
      found.0,
      found.1,
      record {
        each = at.reads.0;
        few = few text room count found.0 at.fields_are fits is;
        short = omega (arith, short, at.len_is);
        paired = subst (λ (t : List ℕ). is_paired 0 t ≡ true) (section_front text room len count found.0 found.1 at) paired;
      },
      at,
    )

pub peels : (text : List ℕ) (room : List HeaderSpan) (len count : ℕ) (p : Peeled) → HasFieldsAt text room len count → p.rest.now ≡ drop len text
    → option_map (λ (v : Bor (List ℕ)). v.now) p.content_type ≡ first_value (codes "content-type") (map (field_at text) (take count room)) → Peels text p
peels text room len count p f is value = record {
  fields = f.0;
  last = f.1;
  has = (f.2, f.3.reads.1 ∙ ap (λ (t : List ℕ). print_section f.0 f.1 ++ t) (sym is));
  type_is = value ∙ ap (first_value (codes "content-type")) (fields_at_are text (take count room) f.0 f.3.fields_are);
}

-- what stands at the front in two readings is the same
pub record SameFields (fs gs : List Field) (l m : LineEnd) (r s : List ℕ) : Type 0 where
  pub fields : fs ≡ gs
  pub last : l ≡ m
  pub rest : r ≡ s

pub fields_unique : (text : List ℕ) (fs gs : List Field) (l m : LineEnd) (r s : List ℕ) → HasFields text fs l r → HasFields text gs m s → SameFields fs gs l m r s
fields_unique text fs gs l m r s a b =
    let same = section_unique text fs gs l m r s (a.0.each, a.1) (b.0.each, b.1) in
    record { fields = same.0; last = same.1; rest = same.2 }
