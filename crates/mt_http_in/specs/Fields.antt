-- What the fields of a head say of its body and of the connection.
use Rattle.std.specs.Prelude.{◌≡◌, ℕ, ◌==◌, nat_lt, nat_le, Bool, true, false, not, ◌&&◌, List, [], ◌∷◌, Option, Some, None, option_map, map, filter, length, codes, if◌then◌else◌}
use Rattle.std.specs.List.{find, list_all, list_any}
use Rattle.std.specs.Cmp.Lexicographic.{pointwise}
use Rattle.std.specs.Char.{eq_ignore_ascii_case, is_ascii_digit}
use Rattle.std.specs.Str.Parse.{digits_value}
use Rattle.httparse.specs.Ascii.{comma}
use Rattle.httparse.specs.Grammar.{trim_ows}
use Rattle.mt_http_in.specs.declared.fields.Field.{Field}
use Rattle.mt_http_in.specs.declared.framing.Framing.{Framing}
use Rattle.mt_http_in.specs.declared.framing.Framing.TheVariants.{Length, Chunked, Large, Unclear}
use Rattle.mt_http_in.specs.declared.framing.Values.{Values}
use Rattle.mt_http_in.specs.declared.framing.Values.TheVariants.{Absent, One, Many}

-- the same word without regard to ASCII case
abbrev pub is_same : List ℕ → List ℕ → Bool
is_same a b = pointwise eq_ignore_ascii_case a b

-- the field has that name
abbrev pub is_named : List ℕ → Field → Bool
is_named name f = is_same f.name name

-- the values of the fields of that name, in their order
abbrev pub values_of : List ℕ → List Field → List (List ℕ)
values_of name fs = map (λ f. f.value) (filter (is_named name) fs)

-- no value, this one, or several
abbrev pub AreValues : List (List ℕ) → Values → Type 0
AreValues [] Absent = Unit {0}
AreValues [] (One v) = ⊥
AreValues [] Many = ⊥
AreValues (x ∷ []) Absent = ⊥
AreValues (x ∷ []) (One v) = v.now ≡ x
AreValues (x ∷ []) Many = ⊥
AreValues (x ∷ (y ∷ xs)) Absent = ⊥
AreValues (x ∷ (y ∷ xs)) (One v) = ⊥
AreValues (x ∷ (y ∷ xs)) Many = Unit {0}

-- the greatest body
abbrev pub body_limit : ℕ
body_limit = 4194304

-- a body of n bytes
abbrev pub sized : ℕ → Framing
sized n = if nat_le n body_limit then Length n else Large

-- the length that the value of a Content-Length gives, which is decimal digits
abbrev pub length_of : List ℕ → Framing
length_of value = if nat_lt 0 (length value) && list_all is_ascii_digit value then sized (digits_value 10 value) else Unclear

-- what the value of a Transfer-Encoding says, which is `chunked`
abbrev pub coded : List ℕ → Framing
coded value = if is_same value (codes "chunked") then Chunked else Unclear

-- how a body is framed, by the values of Transfer-Encoding and those of Content-Length: at most one of them stands there, once
abbrev pub framing_by : List (List ℕ) → List (List ℕ) → Framing
framing_by [] [] = Length 0
framing_by [] (v ∷ []) = length_of v
framing_by [] (v ∷ (w ∷ vs)) = Unclear
framing_by (c ∷ []) [] = coded c
framing_by (c ∷ []) (v ∷ vs) = Unclear
framing_by (c ∷ (d ∷ cs)) vs = Unclear

-- how the body of a head with these fields is framed
abbrev pub framing_of : List Field → Framing
framing_of fs = framing_by (values_of (codes "transfer-encoding") fs) (values_of (codes "content-length") fs)

-- the value of the first field of that name
abbrev pub first_value : List ℕ → List Field → Option (List ℕ)
first_value name fs = option_map (λ f. f.value) (find (is_named name) fs)

-- the value is there, and it is that word without regard to case
abbrev pub says : List ℕ → Option (List ℕ) → Bool
says word None = false
says word (Some value) = is_same value word

-- the first Expect says 100-continue
abbrev pub expects : List Field → Bool
expects fs = says (codes "100-continue") (first_value (codes "expect") fs)

-- chunks are announced, or a length above 0
abbrev pub has_body : Framing → Bool
has_body (Length n) = nat_lt 0 n
has_body Chunked = true
has_body Large = false
has_body Unclear = false

-- `100 Continue` is wanted
abbrev pub calls_for : List Field → Bool
calls_for fs = expects fs && has_body (framing_of fs)

-- a comma
abbrev pub is_comma : ℕ → Bool
is_comma c = c == comma

-- the byte, put before the first piece
abbrev pub onto : ℕ → List (List ℕ) → List (List ℕ)
onto c [] = (c ∷ []) ∷ []
onto c (p ∷ ps) = (c ∷ p) ∷ ps

-- the pieces between the commas
abbrev pub pieces : List ℕ → List (List ℕ)
pieces [] = [] ∷ []
pieces (c ∷ cs) = if is_comma c then [] ∷ pieces cs else onto c (pieces cs)

-- some piece is that word, with blanks and tabs round it
abbrev pub has_word : List ℕ → List ℕ → Bool
has_word word value = list_any (λ p. is_same (trim_ows p) word) (pieces value)

-- the field is a Connection with the word close
abbrev pub says_close : Field → Bool
says_close f = is_named (codes "connection") f && has_word (codes "close") f.value

-- some Connection has the word close
abbrev pub has_close : List Field → Bool
has_close fs = list_any says_close fs

-- the field is a Content-Encoding other than identity
abbrev pub says_packed : Field → Bool
says_packed f = is_named (codes "content-encoding") f && not (is_same f.value (codes "identity"))

-- the body is compressed
abbrev pub is_packed : List Field → Bool
is_packed fs = list_any says_packed fs

-- the connection goes on after a request of HTTP/1.minor with these fields
abbrev pub keeps_open : ℕ → List Field → Bool
keeps_open minor fs = minor == 1 && not (has_close fs)
