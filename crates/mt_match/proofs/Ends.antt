-- The greatest and the least of texts by themselves, and the narrowest bounds of a filter: there is one of each.
use Rattle.std.proofs.Common.{◌≡◌, ℕ, Bool, true, false, cond, List, [], ◌∷◌, refl, sym, ap, ◌∙◌, arith, Option, Some, None}
use Rattle.std.specs.List.{All, Contains}
use Rattle.std.specs.Ordering.{nat_cmp, is_le, ordering_reverse}
use Rattle.std.specs.declared.cmp.Ordering.{Ordering}
use Rattle.std.specs.declared.cmp.Ordering.TheVariants.{Less, Equal, Greater}
use Rattle.std.specs.Cmp.Lexicographic.{slice_cmp, nat_list_cmp_total}
use Rattle.std.proofs.lemmas.List.Elements.{All-weaker, All-cons, All-nil, All-contains, All-head, All-tail, Contains-append_right}
use Rattle.mt_model.specs.declared.key.KeyPart.TheVariants.{Partition, Row}
use Rattle.mt_model.proofs.Places.{same_name}
use Rattle.mt_filter.specs.Tree.{Tree}
use Rattle.mt_match.specs.declared.bounds.Bounds.{Bounds}
use Rattle.mt_match.specs.Bounds.{IsAtMost, low_texts, high_texts, IsLeast, IsLowEnd, IsNarrowest, greatest, least_of, least}
use Rattle.mt_match.proofs.Texts.{at_most_itself, at_most_both, empty_at_most}

-- of two texts that are at most one another each is the other
same_text : (a b : List ℕ) → IsAtMost a b → IsAtMost b a → a ≡ b
same_text a b h k = go (slice_cmp nat_cmp a b) refl h where
  go : (o : Ordering) → slice_cmp nat_cmp a b ≡ o → is_le o ≡ true → a ≡ b
  go Less e h = absurd (let x : false ≡ true = sym (ap is_le (nat_list_cmp_total.antisymm b a ∙ ap ordering_reverse e)) ∙ k in cc)
  go Equal e h = same_name a b e
  go Greater e h = absurd (let x = h in cc)

turned : (a b : List ℕ) → is_le (slice_cmp nat_cmp a b) ≡ false → IsAtMost b a
turned a b h = go (slice_cmp nat_cmp a b) refl h where
  go : (o : Ordering) → slice_cmp nat_cmp a b ≡ o → is_le o ≡ false → IsAtMost b a
  go Less e h = absurd (let x = h in cc)
  go Equal e h = absurd (let x = h in cc)
  go Greater e h = ap is_le (nat_list_cmp_total.antisymm b a ∙ ap ordering_reverse e)

-- ---- the greatest

-- each text is at most the greatest
below_greatest : (texts : List (List ℕ)) → All (λ other. IsAtMost other (greatest texts)) texts
below_greatest [] = All-nil (λ other. IsAtMost other [])
below_greatest (text ∷ texts) = go (below_greatest texts) (is_le (slice_cmp nat_cmp text (greatest texts))) refl where
  go : All (λ other. IsAtMost other (greatest texts)) texts → (b : Bool) → is_le (slice_cmp nat_cmp text (greatest texts)) ≡ b → All (λ other. IsAtMost other (cond b (greatest texts) text)) (text ∷ texts)
  go rest true e = All-cons (λ other. IsAtMost other (greatest texts)) text texts e rest
  go rest false e = All-cons (λ other. IsAtMost other text) text texts (at_most_itself text)
      (All-weaker (λ other. IsAtMost other (greatest texts)) (λ other. IsAtMost other text) (λ x h. at_most_both x (greatest texts) text h (turned text (greatest texts) e)) texts rest)

-- and the greatest is at most what each text is at most
greatest_below : (end : List ℕ) (texts : List (List ℕ)) → All (λ other. IsAtMost other end) texts → IsAtMost (greatest texts) end
greatest_below end [] h = empty_at_most end
greatest_below end (text ∷ texts) h = go (greatest_below end texts (All-tail (λ other. IsAtMost other end) text texts h)) (is_le (slice_cmp nat_cmp text (greatest texts))) where
  go : IsAtMost (greatest texts) end → (b : Bool) → IsAtMost (cond b (greatest texts) text) end
  go rest true = rest
  go rest false = All-head (λ other. IsAtMost other end) text texts h

pub low_is : (end : List ℕ) (texts : List (List ℕ)) → IsLowEnd end texts → end ≡ greatest texts
low_is end [] h = h
low_is end (text ∷ texts) h = same_text end (greatest (text ∷ texts))
    (All-contains (λ other. IsAtMost other (greatest (text ∷ texts))) (text ∷ texts) end (below_greatest (text ∷ texts)) h.0)
    (greatest_below end (text ∷ texts) h.1)

-- ---- the least

above_least : (text : List ℕ) (texts : List (List ℕ)) → All (λ other. IsAtMost (least_of text texts) other) (text ∷ texts)
above_least text [] = All-cons (λ other. IsAtMost text other) text [] (at_most_itself text) (All-nil (λ other. IsAtMost text other))
above_least text (next ∷ texts) = go (above_least next texts) (is_le (slice_cmp nat_cmp text (least_of next texts))) refl where
  go : All (λ other. IsAtMost (least_of next texts) other) (next ∷ texts) → (b : Bool) → is_le (slice_cmp nat_cmp text (least_of next texts)) ≡ b → All (λ other. IsAtMost (cond b text (least_of next texts)) other) (text ∷ next ∷ texts)
  go rest true e = All-cons (λ other. IsAtMost text other) text (next ∷ texts) (at_most_itself text)
      (All-weaker (λ other. IsAtMost (least_of next texts) other) (λ other. IsAtMost text other) (λ x h. at_most_both text (least_of next texts) x e h) (next ∷ texts) rest)
  go rest false e = All-cons (λ other. IsAtMost (least_of next texts) other) text (next ∷ texts) (turned text (least_of next texts) e) rest

least_above : (end text : List ℕ) (texts : List (List ℕ)) → All (λ other. IsAtMost end other) (text ∷ texts) → IsAtMost end (least_of text texts)
least_above end text [] h = All-head (λ other. IsAtMost end other) text [] h
least_above end text (next ∷ texts) h = go (least_above end next texts (All-tail (λ other. IsAtMost end other) text (next ∷ texts) h)) (is_le (slice_cmp nat_cmp text (least_of next texts))) where
  go : IsAtMost end (least_of next texts) → (b : Bool) → IsAtMost end (cond b text (least_of next texts))
  go rest true = All-head (λ other. IsAtMost end other) text (next ∷ texts) h
  go rest false = rest

pub high_is : (end : Option (List ℕ)) (texts : List (List ℕ)) → IsLeast end texts → end ≡ least texts
high_is None texts h = sym (ap least h)
high_is (Some end) [] h = absurd (let x = h.0.1 in omega (arith, x))
high_is (Some end) (text ∷ texts) h = ap Some (same_text end (least_of text texts)
    (least_above end text texts h.1)
    (All-contains (λ other. IsAtMost (least_of text texts) other) (text ∷ texts) end (above_least text texts) h.0))

-- ---- they are among the texts

greatest_in : (text : List ℕ) (texts : List (List ℕ)) → Contains (text ∷ texts) (greatest (text ∷ texts))
greatest_in text [] = go (is_le (slice_cmp nat_cmp text [])) refl where
  go : (b : Bool) → is_le (slice_cmp nat_cmp text []) ≡ b → Contains (text ∷ []) (cond b [] text)
  go true e = (0, omega arith, same_text text [] e (empty_at_most text))
  go false e = (0, omega arith, refl)
greatest_in text (next ∷ texts) = go (greatest_in next texts) (is_le (slice_cmp nat_cmp text (greatest (next ∷ texts)))) where
  go : Contains (next ∷ texts) (greatest (next ∷ texts)) → (b : Bool) → Contains (text ∷ next ∷ texts) (cond b (greatest (next ∷ texts)) text)
  go rest true = Contains-append_right (text ∷ []) (next ∷ texts) (greatest (next ∷ texts)) rest
  go rest false = (0, omega arith, refl)

least_in : (text : List ℕ) (texts : List (List ℕ)) → Contains (text ∷ texts) (least_of text texts)
least_in text [] = (0, omega arith, refl)
least_in text (next ∷ texts) = go (least_in next texts) (is_le (slice_cmp nat_cmp text (least_of next texts))) where
  go : Contains (next ∷ texts) (least_of next texts) → (b : Bool) → Contains (text ∷ next ∷ texts) (cond b text (least_of next texts))
  go rest true = (0, omega arith, refl)
  go rest false = Contains-append_right (text ∷ []) (next ∷ texts) (least_of next texts) rest

-- they are the ends
is_low : (texts : List (List ℕ)) → IsLowEnd (greatest texts) texts
is_low [] = refl
is_low (text ∷ texts) = (greatest_in text texts, below_greatest (text ∷ texts))

is_high : (texts : List (List ℕ)) → IsLeast (least texts) texts
is_high [] = refl
is_high (text ∷ texts) = (least_in text texts, above_least text texts)

-- the narrowest bounds of a filter
abbrev pub bounds_of : Tree → Bounds
bounds_of t = record { pk_low = greatest (low_texts Partition t); pk_high = least (high_texts Partition t); rk_low = greatest (low_texts Row t); rk_high = least (high_texts Row t) }

pub narrowest : (t : Tree) → IsNarrowest t (bounds_of t)
narrowest t = record { pk_low = is_low (low_texts Partition t); pk_high = is_high (high_texts Partition t); rk_low = is_low (low_texts Row t); rk_high = is_high (high_texts Row t) }
