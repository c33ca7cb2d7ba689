-- Items one after the other in the bytes of a connection.
use Rattle.std.proofs.Common.{ℕ, List, [], ◌∷◌, ◌++◌, refl, sym, ap, ◌∙◌, append_assoc, append-nil}
use Rattle.mt_front.specs.Items.{Item}
use Rattle.mt_front.specs.Spells.{Spells, SpellsAll}

-- one item more
pub spells_more : (table : List ℕ) (items : List Item) (i : Item) (read written a p : List ℕ) → SpellsAll table items read written → Spells table i a p → SpellsAll table (items ++ i ∷ []) (read ++ a) (written ++ p)
spells_more table [] i read written a p h one = (a, [], p, [], ap (λ l. l ++ a) h.0 ∙ sym (append-nil a), ap (λ l. l ++ p) h.1 ∙ sym (append-nil p), one, (refl, refl))
spells_more table (j ∷ items) i read written a p h one = (
  h.0,
  h.1 ++ a,
  h.2,
  h.3 ++ p,
  ap (λ l. l ++ a) h.4 ∙ append_assoc h.0 h.1 a,
  ap (λ l. l ++ p) h.5 ∙ append_assoc h.2 h.3 p,
  h.6,
  spells_more table items i h.1 h.3 a p h.7 one,
)
