-- Fields and heads inside a part: the grammar of a request's head, in lines that end in both bytes.
use Rattle.std.specs.Prelude.{◌≡◌, ◌≤◌, ℕ, ◌==◌, Bool, true, false, not, ◌&&◌, List, [], ◌∷◌, ◌++◌, length, map, All, Option, option_map, codes}
use Rattle.httparse.specs.Grammar.{LineEnd, Field, IsField, print_section, RequestHead, print_request}
use Rattle.httparse.specs.Spans.{IsSectionAt}
use Rattle.httparse.specs.declared.spans.HeaderSpan.{HeaderSpan}
use Rattle.mt_http_in.specs.Fields.{first_value}
use Rattle.mt_http_in.specs.Heads.{IsHead, field_of}
use Rattle.mt_mime.specs.declared.headers.Peeled.{Peeled}

-- behind that byte, each line feed follows a carriage return
abbrev pub is_paired : ℕ → List ℕ → Bool
is_paired last [] = true
is_paired last (c ∷ cs) = not (c == 10 && not (last == 13)) && is_paired c cs

-- the first byte begins no empty line
abbrev pub starts_plain : List ℕ → Bool
starts_plain [] = false
starts_plain (c ∷ cs) = not (c == 13) && not (c == 10)

-- ---- the fields of a part

-- at most 64 fields in at most 16,384 bytes, in lines that end in both bytes
pub record AreFields (fields : List Field) (last : LineEnd) : Type 0 where
  pub each : All IsField fields
  pub few : length fields ≤ 64
  pub short : length (print_section fields last) ≤ 16384
  pub paired : is_paired 0 (print_section fields last) ≡ true

-- the text begins with such fields and the empty line behind them, and the rest follows
abbrev pub HasFields : List ℕ → List Field → LineEnd → List ℕ → Type 0
HasFields text fields last rest = AreFields fields last × (text ≡ print_section fields last ++ rest)

-- the text begins with no such fields
abbrev pub HasNoFields : List ℕ → Type 0
HasNoFields text = (fields : List Field) (last : LineEnd) (rest : List ℕ) → HasFields text fields last rest → ⊥

-- the value of the first Content-Type
abbrev pub content_type : List Field → Option (List ℕ)
content_type fields = first_value (codes "content-type") (map field_of fields)

-- the spans cover such fields, which are so many at the front of the text
abbrev pub HasFieldsAt : List ℕ → List HeaderSpan → ℕ → ℕ → Type 0
HasFieldsAt text room len count = (fields : List Field) × (last : LineEnd) × AreFields fields last × IsSectionAt text 0 room len count fields last

-- the fields at the front are taken off
pub record Peels (text : List ℕ) (p : Peeled) : Type 0 where
  pub fields : List Field
  pub last : LineEnd
  pub has : HasFields text fields last p.rest.now
  pub type_is : option_map (λ v. v.now) p.content_type ≡ content_type fields

-- ---- the head of a request in a part

-- a head within the limits, with no empty line before it, in lines that end in both bytes
pub record IsInnerHead (h : RequestHead) : Type 0 where
  pub head : IsHead h
  pub blank : h.blank ≡ []
  pub paired : is_paired 0 (print_request h) ≡ true

-- the text begins with no such head
abbrev pub HasNoInnerHead : List ℕ → Type 0
HasNoInnerHead text = (h : RequestHead) (rest : List ℕ) → IsInnerHead h → text ≡ print_request h ++ rest → ⊥

-- the bytes are those of such a head, where they are a head's
abbrev pub is_strict : List ℕ → Bool
is_strict bytes = starts_plain bytes && is_paired 0 bytes
