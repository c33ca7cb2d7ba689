-- A tag inside a JSON string, of the digits of its two numbers.
use Rattle.std.proofs.Common.{◌≡◌, ℕ, suc, ◌+◌, ◌^◌, ◌<◌, ◌≤◌, List, [], ◌∷◌, ◌++◌, length, get_or, refl, ap, sym, ◌∙◌, append_assoc, length-append, decimal, arith}
use Rattle.std.specs.Prelude.{codes}
use Rattle.std.proofs.lemmas.Fmt.{decimal_is_IsNumeral, length-decimal-le}
use Rattle.std.proofs.lemmas.Str.Parse.{digit_at}
use Rattle.json.specs.Print.{escape, escape_byte, quoted}
use Rattle.json.proofs.Printed.Strings.{escape_byte_plain}
use Rattle.mt_model.specs.Tag.{tag_text, IsTag}
use Rattle.mt_model.specs.declared.tag.Tag.{Tag}
use Rattle.mt_json.specs.declared.write.Level.{Level}
use Rattle.mt_json.specs.declared.write.Level.TheVariants as level
use Rattle.mt_json.specs.Tagged.{tag_bytes}
use Rattle.mt_json.specs.Draft.{escaped, quoted_digits}

escape-append : (xs ys : List ℕ) → escape (xs ++ ys) ≡ escape xs ++ escape ys
escape-append [] ys = refl
escape-append (x ∷ xs) ys = ap (λ l. escape_byte x ++ l) (escape-append xs ys) ∙ sym (append_assoc (escape_byte x) (escape xs) (escape ys))

plain_digits : (ds : List ℕ) → ((i : ℕ) → i < length ds → (48 ≤ get_or ds i 0) × (get_or ds i 0 ≤ 57)) → escape ds ≡ ds
plain_digits [] h = refl
plain_digits (d ∷ ds) h =
    let first = h 0 (omega arith) in
    ap (λ l. l ++ escape ds) (escape_byte_plain d (λ e. omega arith) (λ e. omega arith) (omega arith))
    ∙ ap (λ l. d ∷ l) (plain_digits ds (λ i l. h (suc i) (omega arith)))

escape-decimal : (n : ℕ) → n < 2 ^ 64 → escape (decimal n) ≡ decimal n
escape-decimal n h = plain_digits (decimal n) (λ i l. digit_at (decimal n) i (decimal_is_IsNumeral n h).0.1 l)

head_is : escape (codes "W/\"") ≡ codes "W/\\\""
unfolding escape_byte
head_is = refl

dot_is : escape (codes ".") ≡ codes "."
unfolding escape_byte
dot_is = refl

end_is : escape (34 ∷ []) ≡ codes "\\\""
unfolding escape_byte
end_is = refl

regroup : (w s n e : List ℕ) → w ++ ((s ++ 46 ∷ n) ++ e) ≡ (((w ++ s) ++ 46 ∷ []) ++ n) ++ e
regroup w s n e =
    sym (append_assoc w (s ++ 46 ∷ n) e)
    ∙ ap (λ l. l ++ e) (sym (append_assoc w s (46 ∷ n)) ∙ sym (append_assoc (w ++ s) (46 ∷ []) n))

-- the tag's escapes are those of its quotes
escaped_is : (tag : Tag) → IsTag tag → escape (tag_text tag) ≡ escaped (decimal tag.store) (decimal tag.n)
escaped_is tag h =
    let s = decimal tag.store in
    let n = decimal tag.n in
    let digits : escape (s ++ 46 ∷ n) ≡ s ++ 46 ∷ n =
    escape-append s (46 ∷ n) ∙ ap (λ l. l ++ escape (46 ∷ n)) (escape-decimal tag.store (omega (arith, h.0)))
    ∙ ap (λ l. s ++ l) (escape-append (codes ".") n ∙ ap (λ l. l ++ escape n) dot_is ∙ ap (λ l. codes "." ++ l) (escape-decimal tag.n h.1)) in
    escape-append (codes "W/\"") ((s ++ 46 ∷ n) ++ 34 ∷ [])
    ∙ ap (λ l. l ++ escape ((s ++ 46 ∷ n) ++ 34 ∷ [])) head_is
    ∙ ap (λ l. codes "W/\\\"" ++ l) (escape-append (s ++ 46 ∷ n) (34 ∷ []) ∙ ap (λ l. l ++ escape (34 ∷ [])) digits ∙ ap (λ l. (s ++ 46 ∷ n) ++ l) end_is)
    ∙ regroup (codes "W/\\\"") s n (codes "\\\"")

pub quoted_is : (tag : Tag) → IsTag tag → quoted (tag_text tag) ≡ quoted_digits (decimal tag.store) (decimal tag.n)
quoted_is tag h = ap (λ l. 34 ∷ (l ++ 34 ∷ [])) (escaped_is tag h)

digits_size : (s n : List ℕ) → length (escaped s n) ≡ 7 + length s + length n
digits_size s n =
    let w = codes "W/\\\"" in
    omega (
      arith,
      length-append w s,
      length-append (w ++ s) (codes "."),
      length-append ((w ++ s) ++ codes ".") n,
      length-append (((w ++ s) ++ codes ".") ++ n) (codes "\\\""),
    )

pub escaped_size : (tag : Tag) → IsTag tag → (length (escape (tag_text tag)) ≡ 7 + length (decimal tag.store) + length (decimal tag.n)) × (length (escape (tag_text tag)) ≤ 37)
escaped_size tag h =
    let e = ap (λ l. length l) (escaped_is tag h) ∙ digits_size (decimal tag.store) (decimal tag.n) in
    let few = length-decimal-le 10 tag.store (omega arith) (omega (arith, h.0)) (omega (arith, h.0)) in
    let many = length-decimal-le 20 tag.n (omega arith) (omega (arith, h.1)) h.1 in
    (e, omega (arith, e, few, many))

pub at_most : (l : Level) (tag : Tag) → IsTag tag → tag_bytes l (tag_text tag) ≤ 37
at_most level.None tag h = omega arith
at_most level.Minimal tag h = (escaped_size tag h).1
