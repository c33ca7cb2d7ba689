-- A tag is shared exactly where more than one row is counted.
use Rattle.std.proofs.Common.{◌≡◌, ◌≤◌, true, Some, refl, sym, ap, ◌∙◌, inl, inr, arith}
use Rattle.std.specs.Prelude.{nat_le}
use Rattle.std.proofs.lemmas.Bool.Decides.{nat_tests}
use Rattle.mt_model.specs.declared.key.Key.{Key}
use Rattle.mt_model.specs.declared.tag.Tag.{Tag}
use Rattle.mt_chain.specs.declared.row.Stored.{Stored}
use Rattle.mt_chain.specs.Rows.{are_rising}
use Rattle.mt_meta.specs.Logical.{Pair}
use Rattle.mt_chain.specs.declared.ask.Side.{Side}
use Rattle.mt_meta.specs.Steps.{number_of, contents_of}
use Rattle.mt_open.specs.Damage.{row_in, FailsNumber, FailsOwn}
use Rattle.mt_open.specs.Repeats.{how_many}
use Rattle.mt_open.proofs.Deciding.{stable, same_numbers}
use Rattle.mt_open.proofs.RepeatLaws.{another, counted_twice}

same_tag : (a b : Tag) → a.store ≡ b.store → a.n ≡ b.n → a ≡ b
same_tag a b e f = λ i. record { store = e i; n = f i }

own_number : (p : Pair) (side : Side) (tag : Tag) → (¬ FailsNumber p side tag) → tag.store ≡ number_of p side
own_number p side tag h = stable (same_numbers tag.store (number_of p side)) (λ other. h (inl other))

pub shared_test : (p : Pair) (side : Side) (key : Key) (row : Stored) → are_rising (contents_of p side).rows ≡ true → row_in p side key ≡ Some row
    → (¬ FailsNumber p side row.tag)
    → (nat_le 2 (how_many (number_of p side) row.tag.n (contents_of p side).rows) ≡ true → FailsOwn p side key row.tag)
    × (FailsOwn p side key row.tag → nat_le 2 (how_many (number_of p side) row.tag.n (contents_of p side).rows) ≡ true)
shared_test p side key row rising found good = (to, from) where
  own : row.tag.store ≡ number_of p side
  own = own_number p side row.tag good

  to : nat_le 2 (how_many (number_of p side) row.tag.n (contents_of p side).rows) ≡ true → FailsOwn p side key row.tag
  to h =
      (let two : 2 ≤ how_many (number_of p side) row.tag.n (contents_of p side).rows = grind (arith, nat_tests) in
      let o = another (number_of p side) row.tag.n (contents_of p side).rows key rising two in
      inr (o.0, o.2.0, o.1, o.2.1, same_tag o.2.0.tag row.tag (o.2.2.0 ∙ sym own) o.2.2.1))

  from : FailsOwn p side key row.tag → nat_le 2 (how_many (number_of p side) row.tag.n (contents_of p side).rows) ≡ true
  from (inl bad) = absurd (good bad)
  from (inr s) =
      (let two : 2 ≤ how_many (number_of p side) row.tag.n (contents_of p side).rows =
      counted_twice (number_of p side) row.tag.n (contents_of p side).rows key s.0 s.2 (row, found, (own, refl)) (s.1, s.3, (ap (λ (t : Tag). t.store) s.4 ∙ own, ap (λ (t : Tag). t.n) s.4)) in
      grind (arith, nat_tests))
