-- What puts do to one store: it changes in their partition alone, its tags go on, and each row is the one before or what a put left.
use Rattle.std.proofs.Common.{◌≡◌, ◌≢◌, ◌⊎◌, ℕ, ◌+◌, ◌≤◌, Bool, true, false, cond, ◌&&◌, List, [], ◌∷◌, Option, Some, None, refl, sym, ap, ◌∙◌, subst, arith, inl, inr, bytes_eq, is_none, ◌==◌, if◌then◌else◌}
use Rattle.std.proofs.lemmas.Bool.{and_parts}
use Rattle.std.proofs.lemmas.Bool.Decides.{nat_tests}
use Rattle.mt_model.specs.declared.tag.Tag.{Tag}
use Rattle.mt_model.specs.declared.value.Prop.{Prop}
use Rattle.mt_chain.specs.declared.row.Stored.{Stored}
use Rattle.mt_chain.specs.declared.row.Put.{Put}
use Rattle.mt_chain.specs.declared.row.Put.TheVariants.{Check, Insert, Replace, Delete}
use Rattle.mt_chain.specs.Rows.{Rows, row_at, with_row, without_row}
use Rattle.mt_chain.specs.Puts.{row_key, is_same_tag, has_tag, next_tag, counter_after, rows_after}
use Rattle.mt_chain.specs.StoreCall.{Contents}
use Rattle.mt_chain.proofs.KeyLaws.{text_true}
use Rattle.mt_chain.proofs.RowLaws.{row_at-with_row, row_at-without_row}
use Rattle.mt_chain.proofs.PutLaws.{left_by, row_after, elsewhere, Each}
use Rattle.mt_chain.proofs.JudgeLaws.{contents_after}
use Rattle.mt_meta.specs.Sound.{AreTags}
use Rattle.mt_meta.specs.Facts.{KnowsRow, Ages}
use Rattle.mt_meta.proofs.Growth.{ages_self}

-- ---- tags

-- a store's tags go on: a row of a tag that it gave before was there, and tags still differ
pub record TagsGoOn (store : ℕ) (a b : Contents) : Type 0 where
  pub ages : Ages a b
  pub tags : AreTags store a → AreTags store b

tags_stay : (store : ℕ) (c : Contents) → TagsGoOn store c c
tags_stay store c = record { ages = ages_self c; tags = λ h. h }

then_tags : (store : ℕ) (a b c : Contents) → TagsGoOn store a b → TagsGoOn store b c → TagsGoOn store a c
then_tags store a b c f g = record {
  ages = record {
    counter = omega (arith, f.ages.counter, g.ages.counter);
    past = λ pk rk r is le. f.ages.past pk rk r (g.ages.past pk rk r is (omega (arith, le, f.ages.counter))) le;
  };
  tags = λ h. g.tags (f.tags h);
}

pub the_row : (s r : Stored) → Some s ≡ Some r → s ≡ r
the_row s r e = ap (λ (x : Option Stored). elim x as (λ _. Stored) [ None ↦ s | Some y ↦ y ]) e

-- a row that is there after one was put is that one, at its key, or was there
which : (rows : Rows) (pk rk : List ℕ) (s : Stored) (a b : List ℕ) (r : Stored) → row_at (with_row rows pk rk s) a b ≡ Some r
    → ((pk ≡ a) × (rk ≡ b) × (s ≡ r)) ⊎ (row_at rows a b ≡ Some r)
which rows pk rk s a b r is = go (bytes_eq pk a) (bytes_eq rk b) refl refl (sym (row_at-with_row rows pk rk s a b) ∙ is) where
  go : (x y : Bool) → bytes_eq pk a ≡ x → bytes_eq rk b ≡ y → cond (x && y) (Some s) (row_at rows a b) ≡ Some r
      → ((pk ≡ a) × (rk ≡ b) × (s ≡ r)) ⊎ (row_at rows a b ≡ Some r)
  go true true ex ey e = inl (text_true pk a ex, text_true rk b ey, the_row s r e)
  go true false ex ey e = inr e
  go false y ex ey e = inr e

-- a row that is there after one was taken out was there
was_there : (rows : Rows) (pk rk a b : List ℕ) (r : Stored) → row_at (without_row rows pk rk) a b ≡ Some r → row_at rows a b ≡ Some r
was_there rows pk rk a b r is = go (bytes_eq pk a && bytes_eq rk b) (sym (row_at-without_row rows pk rk a b) ∙ is) where
  go : (x : Bool) → cond x None (row_at rows a b) ≡ Some r → row_at rows a b ≡ Some r
  go true e = absurd cc
  go false e = e

-- the row that a put of these properties leaves: it has the next tag
abbrev fresh : ℕ → List Prop → Contents → Stored
fresh store props c = record { props = props; tag = next_tag store c.counter }

-- the contents after one put
abbrev put_in : ℕ → List ℕ → Put → Contents → Contents
put_in store pk put c = record { rows = rows_after store c.counter pk put c.rows; sealed = c.sealed; counter = counter_after c.counter put }

module _ (store : ℕ) (pk rk : List ℕ) (props : List Prop) (c : Contents) where
  abbrev with_fresh : Contents
  with_fresh = record { rows = with_row c.rows pk rk (fresh store props c); sealed = c.sealed; counter = c.counter + 1 }

  fresh_n : (r : Stored) → fresh store props c ≡ r → r.tag.n ≡ c.counter + 1
  fresh_n r e = ap (λ (x : Stored). x.tag.n) (sym e)

  -- the row there now is the fresh one, or was there
  by_key : (a b : List ℕ) (r : Stored) → row_at with_fresh.rows a b ≡ Some r → ((pk ≡ a) × (rk ≡ b) × (fresh store props c ≡ r)) ⊎ (row_at c.rows a b ≡ Some r)
  by_key a b r is = which c.rows pk rk (fresh store props c) a b r is

  fresh_past : (a b : List ℕ) (r : Stored) → row_at with_fresh.rows a b ≡ Some r → r.tag.n ≤ c.counter → row_at c.rows a b ≡ Some r
  fresh_past a b r is le = elim (by_key a b r is) as (λ _. row_at c.rows a b ≡ Some r) [
    | inl e ↦ absurd (let n = fresh_n r e.2 in omega (arith, n, le))
    | inr was ↦ was
  ]

  fresh_number : AreTags store c → (a b : List ℕ) (r : Stored) → row_at with_fresh.rows a b ≡ Some r → r.tag.store ≡ store
  fresh_number h a b r is = elim (by_key a b r is) as (λ _. r.tag.store ≡ store) [
    | inl e ↦ ap (λ (x : Stored). x.tag.store) (sym e.2)
    | inr was ↦ h.number a b r was
  ]

  fresh_range : AreTags store c → (a b : List ℕ) (r : Stored) → row_at with_fresh.rows a b ≡ Some r → (1 ≤ r.tag.n) × (r.tag.n ≤ c.counter + 1)
  fresh_range h a b r is = elim (by_key a b r is) as (λ _. (1 ≤ r.tag.n) × (r.tag.n ≤ c.counter + 1)) [
    | inl e ↦ (let n = fresh_n r e.2 in (omega (arith, n), omega (arith, n)))
    | inr was ↦ (let k = h.range a b r was in (k.0, omega (arith, k.1)))
  ]

  fresh_differ : AreTags store c → (a b a' b' : List ℕ) (r t : Stored) → row_at with_fresh.rows a b ≡ Some r → row_at with_fresh.rows a' b' ≡ Some t → r.tag ≡ t.tag → (a ≡ a') × (b ≡ b')
  fresh_differ h a b a' b' r t is is' same =
      let n : r.tag.n ≡ t.tag.n = ap (λ (x : Tag). x.n) same in
      elim (by_key a b r is) as (λ _. (a ≡ a') × (b ≡ b')) [
        | inl e ↦ elim (by_key a' b' t is') as (λ _. (a ≡ a') × (b ≡ b')) [
          | inl e' ↦ (sym e.0 ∙ e'.0, sym e.1 ∙ e'.1)
          | inr was' ↦ absurd (let m = fresh_n r e.2 in let k = h.range a' b' t was' in omega (arith, m, n, k.1))
        ]
        | inr was ↦ elim (by_key a' b' t is') as (λ _. (a ≡ a') × (b ≡ b')) [
          | inl e' ↦ absurd (let m = fresh_n t e'.2 in let k = h.range a b r was in omega (arith, m, n, k.1))
          | inr was' ↦ h.differ a b a' b' r t was was' same
        ]
      ]

  fresh_goes : TagsGoOn store c with_fresh
  fresh_goes = record {
    ages = record { counter = omega arith; past = fresh_past };
    tags = λ h. record { number = fresh_number h; range = fresh_range h; differ = fresh_differ h };
  }

gone_goes : (store : ℕ) (pk rk : List ℕ) (c : Contents) → TagsGoOn store c (record { rows = without_row c.rows pk rk; sealed = c.sealed; counter = c.counter })
gone_goes store pk rk c = record {
  ages = record { counter = omega arith; past = λ a b r is le. was_there c.rows pk rk a b r is };
  tags = λ h. record {
    number = λ a b r is. h.number a b r (was_there c.rows pk rk a b r is);
    range = λ a b r is. h.range a b r (was_there c.rows pk rk a b r is);
    differ = λ a b a' b' r t is is' same. h.differ a b a' b' r t (was_there c.rows pk rk a b r is) (was_there c.rows pk rk a' b' t is') same;
  };
}

put_goes : (store : ℕ) (pk : List ℕ) (put : Put) (c : Contents) → TagsGoOn store c (put_in store pk put c)
put_goes store pk (Check rk tag) c = tags_stay store c
put_goes store pk (Insert rk props) c = fresh_goes store pk rk props c
put_goes store pk (Replace rk props tag) c = fresh_goes store pk rk props c
put_goes store pk (Delete rk tag) c = gone_goes store pk rk c

-- tags go on along the puts of a call
pub puts_go : (store : ℕ) (pk : List ℕ) (puts : List Put) (c : Contents) → TagsGoOn store c (contents_after store c pk puts)
puts_go store pk [] c = tags_stay store c
puts_go store pk (put ∷ puts) c = then_tags store c (put_in store pk put c) _ (put_goes store pk put c) (puts_go store pk puts (put_in store pk put c))

-- ---- one partition

-- one store changes in one partition at most
pub record Moves (store : ℕ) (part : List ℕ) (a b : Contents) : Type 0 where
  pub sealed : b.sealed ≡ a.sealed
  pub others : (pk rk : List ℕ) → pk ≢ part → row_at b.rows pk rk ≡ row_at a.rows pk rk
  pub tags : TagsGoOn store a b

pub moves_self : (store : ℕ) (part : List ℕ) (c : Contents) → Moves store part c c
moves_self store part c = record { sealed = refl; others = λ pk rk ne. refl; tags = tags_stay store c }

pub moves_puts : (store : ℕ) (part : List ℕ) (puts : List Put) (c : Contents) → Moves store part c (contents_after store c part puts)
moves_puts store part puts c = record {
  sealed = refl;
  others = λ pk rk ne. elsewhere store c.counter part puts c.rows pk rk ne;
  tags = puts_go store part puts c;
}

-- ---- one row

-- what a put that writes or deletes leaves at its key: a row of those properties, or none
abbrev pub Leaves : Put → Option Stored → Type 0
Leaves (Check rk tag) after = ⊥
Leaves (Insert rk props) after = (r : Stored) × (after ≡ Some r) × (r.props ≡ props)
Leaves (Replace rk props tag) after = (r : Stored) × (after ≡ Some r) × (r.props ≡ props)
Leaves (Delete rk tag) after = after ≡ None

-- the row at a key afterwards is the one before, or what one of the puts left there
abbrev pub Touched : (Put → Type 0) → List ℕ → Option Stored → Option Stored → Type 0
Touched P q row after = (after ≡ row) ⊎ ((put : Put) × P put × (row_key put ≡ q) × Leaves put after)

left_touched : (P : Put → Type 0) (store n : ℕ) (put : Put) (q : List ℕ) (row : Option Stored) → P put → row_key put ≡ q → Touched P q row (left_by store n put row)
left_touched P store n (Check rk tag) q row p e = inl refl
left_touched P store n (Insert rk props) q row p e = inr (Insert rk props, p, e, (record { props = props; tag = next_tag store n }, refl, refl))
left_touched P store n (Replace rk props tag) q row p e = inr (Replace rk props tag, p, e, (record { props = props; tag = next_tag store n }, refl, refl))
left_touched P store n (Delete rk tag) q row p e = inr (Delete rk tag, p, e, refl)

pub touched : (P : Put → Type 0) (store n : ℕ) (puts : List Put) (q : List ℕ) (row : Option Stored) → Each P puts → Touched P q row (row_after store n puts q row)
touched P store n [] q row h = inl refl
touched P store n (put ∷ puts) q row h =
    elim (touched P store (counter_after n put) puts q (if bytes_eq (row_key put) q then left_by store n put row else row) h.1) as (λ _. Touched P q row (row_after store n (put ∷ puts) q row)) [
      | inr w ↦ inr w
      | inl same ↦ elim (bytes_eq (row_key put) q) as (λ b. bytes_eq (row_key put) q ≡ b → row_after store n (put ∷ puts) q row ≡ (if b then left_by store n put row else row) → Touched P q row (row_after store n (put ∷ puts) q row)) [
        | true ↦ λ e is. subst (λ x. Touched P q row x) (sym is) (left_touched P store n put q row h.0 (text_true (row_key put) q e))
        | false ↦ λ e is. inl is
      ] refl same
    ]

-- ---- conditions that held

pub same_tag : (a b : Tag) → is_same_tag a b ≡ true → b ≡ a
same_tag a b h =
    let both = and_parts (a.store == b.store) (a.n == b.n) h in
    let store_is : b.store ≡ a.store = (let e = both.0 in grind (arith, nat_tests)) in
    let n_is : b.n ≡ a.n = (let e = both.1 in grind (arith, nat_tests)) in
    λ i. record { store = store_is i; n = n_is i }

-- a row is there with that tag and those properties
pub record IsSeen (x : Option Stored) (ps : List Prop) (t : Tag) : Type 0 where
  pub row : Stored
  pub is : x ≡ Some row
  pub props : row.props ≡ ps
  pub tag : row.tag ≡ t

-- a row is there with that tag
pub tagged : (x : Option Stored) (tag : Tag) → has_tag tag x ≡ true → (r : Stored) × (x ≡ Some r) × (r.tag ≡ tag)
tagged None tag h = absurd cc
tagged (Some r) tag h = (r, refl, same_tag tag r.tag h)

-- a row that is known by its tag, and has it still, is as it was
pub seen : (c : Contents) (pk rk : List ℕ) (props : List Prop) (tag : Tag) → KnowsRow c pk rk props tag → has_tag tag (row_at c.rows pk rk) ≡ true → IsSeen (row_at c.rows pk rk) props tag
seen c pk rk props tag k h = (let x = tagged (row_at c.rows pk rk) tag h in record { row = x.0; is = x.1; props = k.same x.0 x.1 x.2; tag = x.2 })

pub no_row : (x : Option Stored) → is_none x ≡ true → x ≡ None
no_row None h = refl
no_row (Some r) h = absurd cc
