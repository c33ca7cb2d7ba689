-- A name that a client may give is no other member's name, and a type key is none of the others.
use Rattle.std.proofs.Common.{◌≡◌, ℕ, ◌+◌, ◌-◌, ◌<◌, Bool, true, false, not, ◌&&◌, ◌||◌, List, [], ◌∷◌, ◌++◌, length, take, drop, get_or, refl, ap, ◌∙◌, sym, subst, arith, true≢false, codes, nat_le}
use Rattle.std.specs.Prelude.{bytes_eq, nat_eq}
use Rattle.std.specs.Cmp.Lexicographic.{pointwise}
use Rattle.std.specs.List.{list_all, starts_with, ends_with}
use Rattle.std.specs.Str.{IsUtf8, chars, NonePass}
use Rattle.std.proofs.lemmas.List.{get_or-drop, get_or-take, append_cancel_right, length-append, length-drop, length-take}
use Rattle.std.proofs.Math.Seq.{drop-append_seam}
use Rattle.std.proofs.lemmas.Slice.Eq.{bytes_eq-Decides}
use Rattle.std.proofs.lemmas.Str.{encodes-chars, NoCharPasses-byte}
use Rattle.unicode_ident.specs.Ident.{is_xid_continue}
use Rattle.unicode_ident.proofs.IdentLemmas.{is_xid_continue-ascii}
use Rattle.mt_model.specs.Name.{is_plain_name, begins_name, is_reserved}
use Rattle.mt_json.specs.Kind.{type_key}
use Rattle.mt_json.specs.Body.{is_ignored, is_key}
use Rattle.mt_json.proofs.RisingLaws.{cmp}
use Rattle.mt_json.proofs.ReadBackFind.{Apart, apart_from, same_name}

-- UTF-8, and a name that a client may give
abbrev pub IsPlain : List ℕ → Type 0
IsPlain name = IsUtf8 name × (is_plain_name name ≡ true)

abbrev pub is_type_key : List ℕ → Bool
is_type_key name = ends_with nat_eq name (codes "@odata.type")

and_true : (a b : Bool) → (a && b) ≡ true → (a ≡ true) × (b ≡ true)
and_true true b h = (refl, h)
and_true false b h = absurd (true≢false (sym h))

none_true : (a b : Bool) → not (a || b) ≡ true → (a ≡ false) × (b ≡ false)
none_true false false h = (refl, refl)
none_true false true h = absurd (true≢false (sym h))
none_true true b h = absurd (true≢false (sym h))

pub or_none : (a b : Bool) → a ≡ false → b ≡ false → (a || b) ≡ false
or_none a b h k = rw (h, k) refl

-- what a plain name is made of
record Parts (name : List ℕ) : Type 0 where
  letters : list_all is_xid_continue (chars name) ≡ true
  no_pk : bytes_eq name (codes "PartitionKey") ≡ false
  no_rk : bytes_eq name (codes "RowKey") ≡ false
  no_time : bytes_eq name (codes "Timestamp") ≡ false

parts : (name : List ℕ) → is_plain_name name ≡ true → Parts name
parts name h =
    let all = and_true (begins_name (chars name) && list_all is_xid_continue (chars name) && nat_le (length (chars name)) 255) (not (is_reserved name)) h in
    let short = and_true (begins_name (chars name) && list_all is_xid_continue (chars name)) (nat_le (length (chars name)) 255) all.0 in
    let free = none_true (bytes_eq name (codes "PartitionKey") || bytes_eq name (codes "RowKey")) (bytes_eq name (codes "Timestamp")) all.1 in
    let keys = none_true (bytes_eq name (codes "PartitionKey")) (bytes_eq name (codes "RowKey")) (ap not free.0) in
    record {
      letters = (and_true (begins_name (chars name)) (list_all is_xid_continue (chars name)) short.0).1;
      no_pk = keys.0;
      no_rk = keys.1;
      no_time = free.1;
    }

not_passing : (p : ℕ → Bool) (cs : List ℕ) → list_all p cs ≡ true → NonePass (λ c. not (p c)) cs
not_passing p [] h = tt
not_passing p (c ∷ cs) h = let a = and_true (p c) (list_all p cs) h in (ap not a.0, not_passing p cs a.1)

not_false : (b : Bool) → not b ≡ false → b ≡ true
not_false true h = refl
not_false false h = absurd (true≢false h)

-- an ASCII byte of a plain name may stand in a name
plain_byte : (name : List ℕ) (i b : ℕ) → IsPlain name → i < length name → get_or name i 0 ≡ b → b < 128 → is_xid_continue b ≡ true
plain_byte name i b h inside is small =
    let letters = not_passing is_xid_continue (chars name) (parts name h.1).letters in
    let low : get_or name i 0 < 128 = omega (arith, is, small) in
    let passes = NoCharPasses-byte (λ c. not (is_xid_continue c)) name i (chars name, encodes-chars name h.0, letters) inside low in
    not_false (is_xid_continue b) (subst (λ x. not (is_xid_continue x) ≡ false) is passes)

no_at : is_xid_continue 64 ≡ false
no_at = is_xid_continue-ascii 64 (omega arith)

no_dot : is_xid_continue 46 ≡ false
no_dot = is_xid_continue-ascii 46 (omega arith)

pub false_unless : (b : Bool) → (b ≡ true → ⊥) → b ≡ false
false_unless true h = absurd (h refl)
false_unless false h = refl

last_bytes : (name : List ℕ) → codes "@odata.type" ≡ drop (length name - 11) name → (length name - 11 < length name) × (get_or name (length name - 11) 0 ≡ 64)
last_bytes name same =
    let long : length (drop (length name - 11) name) ≡ 11 = ap (λ l. length l) (sym same) in
    let first : get_or name (length name - 11 + 0) 0 ≡ 64 = sym (get_or-drop (length name - 11) name 0 0) ∙ ap (λ l. get_or l 0 0) (sym same) in
    let at : length name - 11 + 0 ≡ length name - 11 = omega arith in
    (omega (arith, long, length-drop (length name - 11) name), ap (λ i. get_or name i 0) (sym at) ∙ first)

pub no_type_key : (name : List ℕ) → IsPlain name → is_type_key name ≡ false
no_type_key name h = false_unless (is_type_key name) (λ e.
    let at = last_bytes name ((bytes_eq-Decides (codes "@odata.type") (drop (length name - 11) name)).0 e) in
    true≢false (sym (plain_byte name (length name - 11) 64 h at.0 at.1 (omega arith)) ∙ no_at))

first_bytes : (name : List ℕ) → codes "odata." ≡ take 6 name → (5 < length name) × (get_or name 5 0 ≡ 46)
first_bytes name same =
    let long : length (take 6 name) ≡ 6 = ap (λ l. length l) (sym same) in
    let at : get_or name 5 0 ≡ 46 = sym (get_or-take 6 name 5 0 (omega arith)) ∙ ap (λ l. get_or l 5 0) (sym same) in
    (omega (arith, long, length-take 6 name), at)

no_system : (name : List ℕ) → IsPlain name → starts_with nat_eq name (codes "odata.") ≡ false
no_system name h = false_unless (starts_with nat_eq name (codes "odata.")) (λ e.
    let at = first_bytes name ((bytes_eq-Decides (codes "odata.") (take 6 name)).0 e) in
    true≢false (sym (plain_byte name 5 46 h at.0 at.1 (omega arith)) ∙ no_dot))

pub plain_ignored : (name : List ℕ) → IsPlain name → is_ignored name ≡ false
plain_ignored name h =
    or_none (is_type_key name || starts_with nat_eq name (codes "odata.")) (bytes_eq name (codes "Timestamp"))
    (or_none (is_type_key name) (starts_with nat_eq name (codes "odata.")) (no_type_key name h) (no_system name h))
    (parts name h.1).no_time

pub plain_key : (name : List ℕ) → IsPlain name → is_key name ≡ false
plain_key name h = or_none (bytes_eq name (codes "PartitionKey")) (bytes_eq name (codes "RowKey")) (parts name h.1).no_pk (parts name h.1).no_rk

-- ---- type keys

type_ends : (n : List ℕ) → is_type_key (type_key n) ≡ true
type_ends n =
    let at : length (n ++ codes "@odata.type") - 11 ≡ length n = omega (arith, length-append n (codes "@odata.type")) in
    ap (λ i. pointwise nat_eq (codes "@odata.type") (drop i (n ++ codes "@odata.type"))) at
    ∙ ap (pointwise nat_eq (codes "@odata.type")) (drop-append_seam n (codes "@odata.type"))

pub type_ignored : (n : List ℕ) → is_ignored (type_key n) ≡ true
type_ignored n =
    ap (λ b. b || starts_with nat_eq (type_key n) (codes "odata.") || bytes_eq (type_key n) (codes "Timestamp")) (type_ends n)

-- a type key is no name that does not end as type keys do
pub type_apart : (n k : List ℕ) → is_type_key k ≡ false → Apart (type_key n) k
type_apart n k h = apart_from (type_key n) k (λ e. true≢false (sym (type_ends n) ∙ ap is_type_key e ∙ h))

pub types_apart : (n m : List ℕ) → Apart n m → Apart (type_key n) (type_key m)
types_apart n m h = apart_from (type_key n) (type_key m) (λ e. h (ap (cmp n) (sym (append_cancel_right n m (codes "@odata.type") e)) ∙ same_name n))
