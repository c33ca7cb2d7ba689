-- The tags that more than one row of a store has.
use Rattle.std.specs.Prelude.{◌≡◌, ℕ, Bool, ◌&&◌, ◌==◌, nat_le, IsTrue, count_by, Some}
use Rattle.std.specs.BTreeSet.{BTreeSet, contains}
use Rattle.std.specs.Ordering.{nat_cmp}
use Rattle.mt_model.specs.declared.key.Key.{Key}
use Rattle.mt_chain.specs.declared.row.Stored.{Stored}
use Rattle.mt_chain.specs.Rows.{Rows, are_rising}
use Rattle.mt_meta.specs.Logical.{Pair}
use Rattle.mt_chain.specs.declared.ask.Side.{Side}
use Rattle.mt_chain.specs.declared.ask.Side.TheVariants.{Old, New}
use Rattle.mt_open.specs.declared.tags.Repeats.{Repeats}
use Rattle.mt_meta.specs.Steps.{number_of, contents_of}
use Rattle.mt_open.specs.Damage.{row_in}

-- the row has that tag
abbrev pub has_tag : ℕ → ℕ → Key × Stored → Bool
has_tag store n e = (e.1.tag.store == store) && (e.1.tag.n == n)

-- how many rows have a tag
abbrev pub how_many : ℕ → ℕ → Rows → ℕ
how_many store n rows = count_by (has_tag store n) rows

-- the numbers that rows of a store have, and those that more than one has
pub record AreCounted (store : ℕ) (rows : Rows) (seen repeated : BTreeSet ℕ) : Type 0 where
  pub seen_is : (n : ℕ) → contains nat_cmp seen n ≡ nat_le 1 (how_many store n rows)
  pub repeated_is : (n : ℕ) → contains nat_cmp repeated n ≡ nat_le 2 (how_many store n rows)

abbrev pub repeats_on : Repeats → Side → BTreeSet ℕ
repeats_on r Old = r.old
repeats_on r New = r.new

-- the numbers that more than one row has, of both stores
abbrev pub AreRepeats : Pair → Repeats → Type 0
AreRepeats p r = (side : Side) (n : ℕ) → contains nat_cmp (repeats_on r side) n ≡ nat_le 2 (how_many (number_of p side) n (contents_of p side).rows)

-- the row stands at the key in that store, whose keys rise, and the tags that rows share are known
pub record Stands (p : Pair) (r : Repeats) (side : Side) (key : Key) (row : Stored) : Type 0 where
  pub repeats : AreRepeats p r
  pub rising : IsTrue (are_rising (contents_of p side).rows)
  pub found : row_in p side key ≡ Some row
