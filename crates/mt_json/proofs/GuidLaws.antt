-- Texts of 36 characters, which only the hyphenated form has.
use Rattle.std.proofs.Common.{◌≡◌, ◌∙◌, ℕ, List, length, Option, None, Some, refl, sym, ap}
use Rattle.uuid.specs.Text.{parsed, parsed_hyphenated, hyphenated_text, lower}
use Rattle.uuid.proofs.TextLemmas.{by_index_length}

pub none_unless : (o : Option (List ℕ)) → ((u : List ℕ) → o ≡ Some u → ⊥) → None ≡ o
none_unless None h = refl
none_unless (Some u) h = absurd (h u refl)

pub parsed_36 : (s : List ℕ) → length s ≡ 36 → parsed s ≡ parsed_hyphenated s
parsed_36 s e = rw e refl

pub read_of_lower : (bytes text : List ℕ) → text ≡ hyphenated_text lower bytes → Some bytes ≡ parsed text → parsed_hyphenated text ≡ Some bytes
read_of_lower bytes text is h = sym (h ∙ parsed_36 text (ap (λ l. length l) is ∙ by_index_length 36 _))
