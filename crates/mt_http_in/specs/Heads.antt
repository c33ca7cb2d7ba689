-- The heads that are read: the grammar of a request's head, within limits.
use Rattle.std.specs.Prelude.{◌≡◌, ℕ, ◌+◌, ◌<◌, ◌≤◌, List, [], ◌++◌, length, map, drop, Option, Some, None, Result, Ok, Err, IfSome, All, IsUtf8}
use Rattle.httparse.specs.Grammar.{RequestHead, Field as FieldLine, field_value, IsRequestHead, print_request, HasNoRequest, MayBecomeRequest}
use Rattle.httparse.specs.Spans.{IsHeaderWithin, IsWithin, span_bytes}
use Rattle.httparse.specs.declared.spans.HeaderSpan.{HeaderSpan}
use Rattle.httparse.specs.declared.spans.RequestSpans.{RequestSpans}
use Rattle.mt_io.specs.Ends.{Input}
use Rattle.mt_http_in.specs.declared.fields.Field.{Field}
use Rattle.mt_http_in.specs.declared.heads.Head.{Head}
use Rattle.mt_http_in.specs.declared.heads.Parsed.{Parsed}
use Rattle.mt_http_in.specs.declared.heads.Parsed.TheVariants.{Whole, More, Bad}
use Rattle.mt_http_in.specs.declared.reader.Halt.{Halt}
use Rattle.mt_http_in.specs.declared.reader.Halt.TheVariants.{ReadFault, NoMemory, Refused}
use Rattle.mt_http_in.specs.declared.Code.TheVariants.{InvalidHead}
use Rattle.mt_http_in.specs.Reading.{ahead, Later, Spent, Failed, Ended}

-- a head of at most 16,384 bytes and 64 fields
pub record IsHead (h : RequestHead) : Type 0 where
  pub grammar : IsRequestHead h
  pub short : length (print_request h) ≤ 16384
  pub few : length h.fields ≤ 64

-- a field's name, and its value without blanks and tabs at its ends
abbrev pub field_of : FieldLine → Field
field_of f = record { name = f.name; value = field_value f }

-- the fields of a head
abbrev pub fields_of : RequestHead → List Field
fields_of h = map field_of h.fields

-- the bytes begin with that head, and the others follow
abbrev pub HasHead : List ℕ → RequestHead → List ℕ → Type 0
HasHead bytes h rest = IsHead h × (bytes ≡ print_request h ++ rest)

-- the bytes begin with no head
abbrev pub HasNoHead : List ℕ → Type 0
HasNoHead bytes = (h : RequestHead) (rest : List ℕ) → IsHead h → bytes ≡ print_request h ++ rest → ⊥

-- whatever follows, the bytes begin with no head
abbrev pub NeverHasHead : List ℕ → Type 0
NeverHasHead bytes = (more : List ℕ) → HasNoHead (bytes ++ more)

-- no head stands whole in the bytes, and more bytes can make one of them
pub record IsHeadBegun (bytes : List ℕ) : Type 0 where
  pub none : HasNoRequest bytes
  pub coming : MayBecomeRequest bytes
  pub short : length bytes < 16384

-- the running value has this head's parts
pub record HoldsHead (v : Head) (h : RequestHead) : Type 0 where
  pub method : v.method ≡ h.method
  pub target : v.target ≡ h.target
  pub minor : v.minor ≡ h.minor
  pub fields : v.fields ≡ fields_of h
  pub size : v.size ≡ length (print_request h)

-- the field that the spans cover
abbrev pub field_at : List ℕ → HeaderSpan → Field
field_at bytes span = record { name = span_bytes bytes span.name; value = span_bytes bytes span.value }

-- the name that the span covers is a text
abbrev pub HasNameAt : List ℕ → HeaderSpan → Type 0
HasNameAt bytes span = IsUtf8 (span_bytes bytes span.name)

-- the spans lie in the bytes, and cover texts where they have to
pub record IsFound (bytes : List ℕ) (found : RequestSpans) (spans : List HeaderSpan) : Type 0 where
  pub method : IsWithin (length bytes) found.method
  pub method_text : IsUtf8 (span_bytes bytes found.method)
  pub target : IsWithin (length bytes) found.path
  pub target_text : IsUtf8 (span_bytes bytes found.path)
  pub inside : All (IsHeaderWithin (length bytes)) spans
  pub names : All (HasNameAt bytes) spans

-- the running value has the parts that the spans cover
pub record IsHeadAt (bytes : List ℕ) (found : RequestSpans) (spans : List HeaderSpan) (v : Head) : Type 0 where
  pub method : v.method ≡ span_bytes bytes found.method
  pub target : v.target ≡ span_bytes bytes found.path
  pub minor : v.minor ≡ found.version
  pub fields : v.fields ≡ map (field_at bytes) spans
  pub size : v.size ≡ found.len

-- what the bytes of a buffer begin with
abbrev pub ParsedAs : List ℕ → Parsed → Type 0
ParsedAs bytes (Whole v) = (h : RequestHead) × IsHead h × HoldsHead v h × (bytes ≡ print_request h ++ drop v.size bytes) × (v.size ≤ length bytes)
ParsedAs bytes More = IsHeadBegun bytes
ParsedAs bytes Bad = NeverHasHead bytes × (0 < length bytes)

-- what reading a head says, by its answer
abbrev pub HeadAs : List ℕ → Input → Result (Option Head) Halt → List ℕ → Input → Type 0
HeadAs kept s (Ok (Some v)) kept' t = (h : RequestHead) × IsHead h × HoldsHead v h × Spent kept s (print_request h) kept' t
HeadAs kept s (Ok None) kept' t = (ahead kept s ≡ ahead kept' t) × IfSome (ahead kept s) (λ all. all ≡ []) × (t.calls ≤ s.calls + 1)
HeadAs kept s (Err ReadFault) kept' t = (bytes : List ℕ) × IsHeadBegun bytes × Failed kept s bytes t
HeadAs kept s (Err NoMemory) kept' t = Unit {0}
HeadAs kept s (Err (Refused c)) kept' t = (c ≡ InvalidHead) × IfSome (ahead kept s) (λ all. HasNoHead all × (0 < length all)) × Ended s t

-- reading a head; None at the end of input before its first byte
pub record ReadsHead (kept : List ℕ) (s : Input) (r : Result (Option Head) Halt) (kept' : List ℕ) (t : Input) : Type 0 where
  pub later : Later s t
  pub read : HeadAs kept s r kept' t

-- the bytes of a head of the grammar
abbrev pub IsHeadBytes : List ℕ → Type 0
IsHeadBytes bytes = (h : RequestHead) × IsRequestHead h × (bytes ≡ print_request h)
