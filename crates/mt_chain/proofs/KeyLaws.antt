-- The order of keys is total, and ties only a key with itself.
use Rattle.std.proofs.Common.{◌≡◌, ◌≢◌, ℕ, Bool, true, false, ◌&&◌, List, refl, sym, ap, ◌∙◌, bytes_eq, Equal}
use Rattle.std.proofs.lemmas.Bool.{and_parts}
use Rattle.std.specs.Ordering.{nat_cmp, eq_by_cmp, is_eq}
use Rattle.std.specs.Cmp.{IsTotalOrder, both_tied, then_total}
use Rattle.std.specs.Cmp.Lexicographic.{slice_cmp, on_texts, texts_ties, bytes_decides}
use Rattle.mt_model.specs.declared.key.Key.{Key}
use Rattle.mt_model.specs.Key.{key_cmp}
use Rattle.mt_chain.specs.Rows.{key_at}

pub key_total : IsTotalOrder key_cmp
key_total = then_total (on_texts (λ (k : Key). k.pk)) (on_texts (λ (k : Key). k.rk))

-- keys tie where both texts are equal
pub is_tied : (a b : Key) → eq_by_cmp key_cmp a b ≡ (bytes_eq a.pk b.pk && bytes_eq a.rk b.rk)
is_tied a b = sym (both_tied _ _ (slice_cmp nat_cmp a.pk b.pk) (slice_cmp nat_cmp a.rk b.rk) (texts_ties a.pk b.pk) (texts_ties a.rk b.rk))

pub is_same_key : (pk rk a b : List ℕ) → eq_by_cmp key_cmp (key_at pk rk) (key_at a b) ≡ (bytes_eq pk a && bytes_eq rk b)
is_same_key pk rk a b = is_tied (key_at pk rk) (key_at a b)

pub text_true : (a b : List ℕ) → bytes_eq a b ≡ true → a ≡ b
text_true a b e = (bytes_decides a b).0 e

pub text_same : (a : List ℕ) → bytes_eq a a ≡ true
text_same a = (bytes_decides a a).1 refl

pub text_false : (a b : List ℕ) → (a ≢ b) → bytes_eq a b ≡ false
text_false a b ne = go (bytes_eq a b) refl where
  go : (x : Bool) → bytes_eq a b ≡ x → x ≡ false
  go false e = refl
  go true e = absurd (ne (text_true a b e))

pub text_differs : (a b : List ℕ) → bytes_eq a b ≡ false → a ≢ b
text_differs a b e same = (let is : true ≡ false = sym ((bytes_decides a b).1 same) ∙ e in cc)

pub key_ties : (a b : Key) → key_cmp a b ≡ Equal → a ≡ b
key_ties a b e =
    let both = and_parts (bytes_eq a.pk b.pk) (bytes_eq a.rk b.rk) (sym (is_tied a b) ∙ ap is_eq e) in
    λ i. key_at (text_true a.pk b.pk both.0 i) (text_true a.rk b.rk both.1 i)
