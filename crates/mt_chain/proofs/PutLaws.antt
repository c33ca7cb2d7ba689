-- What the puts of a call do to the rows, key by key.
use Rattle.std.proofs.Common.{◌≡◌, ◌≢◌, ℕ, suc, ◌+◌, ◌≤◌, ◌<◌, Bool, true, false, cond, ◌&&◌, ◌||◌, List, [], ◌∷◌, length, refl, sym, ap, ◌∙◌, arith, bytes_eq, IsTrue, Some, None, Option, if◌then◌else◌}
use Rattle.std.specs.List.{list_any, IsDistinct}
use Rattle.mt_chain.specs.declared.row.Stored.{Stored}
use Rattle.mt_chain.specs.declared.row.Put.{Put}
use Rattle.mt_chain.specs.declared.row.Put.TheVariants.{Check, Insert, Replace, Delete}
use Rattle.mt_chain.specs.Rows.{Rows, are_rising, row_at}
use Rattle.mt_chain.specs.Puts.{CanApply, row_key, holds, unmet_from, next_tag, counter_after, rows_after, all_rows_after, all_counter_after, tags_of}
use Rattle.mt_chain.proofs.KeyLaws.{text_same}
use Rattle.mt_chain.proofs.RowLaws.{differs_in_pk, row_at-with_row, with_row_elsewhere, rising_with_row, row_at-without_row, without_row_elsewhere, rising_without_row}

-- what a put leaves at its key
abbrev pub left_by : ℕ → ℕ → Put → Option Stored → Option Stored
left_by store n (Check rk tag) row = row
left_by store n (Insert rk props) row = Some (record { props = props; tag = next_tag store n })
left_by store n (Replace rk props tag) row = Some (record { props = props; tag = next_tag store n })
left_by store n (Delete rk tag) row = None

-- what puts leave at a row key of their partition
abbrev pub row_after : ℕ → ℕ → List Put → List ℕ → Option Stored → Option Stored
row_after store n [] q row = row
row_after store n (put ∷ puts) q row = row_after store (counter_after n put) puts q (if bytes_eq (row_key put) q then left_by store n put row else row)

in_pk : (pk rk q : List ℕ) (x y : Option Stored) → cond (bytes_eq pk pk && bytes_eq rk q) x y ≡ cond (bytes_eq rk q) x y
in_pk pk rk q x y = ap (λ t. cond (t && bytes_eq rk q) x y) (text_same pk)

pub same_if : {A : Type 0} (b : Bool) (x : A) → x ≡ cond b x x
same_if true x = refl
same_if false x = refl

pub one_put : (store n : ℕ) (pk : List ℕ) (put : Put) (rows : Rows) (q : List ℕ) → row_at (rows_after store n pk put rows) pk q ≡ (if bytes_eq (row_key put) q then left_by store n put (row_at rows pk q) else row_at rows pk q)
one_put store n pk (Check rk tag) rows q = same_if (bytes_eq rk q) (row_at rows pk q)
one_put store n pk (Insert rk props) rows q = row_at-with_row rows pk rk (record { props = props; tag = next_tag store n }) pk q ∙ in_pk pk rk q _ _
one_put store n pk (Replace rk props tag) rows q = row_at-with_row rows pk rk (record { props = props; tag = next_tag store n }) pk q ∙ in_pk pk rk q _ _
one_put store n pk (Delete rk tag) rows q = row_at-without_row rows pk rk pk q ∙ in_pk pk rk q _ _

-- each row of the partition is what the puts left there, in order
pub all_puts : (store n : ℕ) (pk : List ℕ) (puts : List Put) (rows : Rows) (q : List ℕ) → row_at (all_rows_after store n pk puts rows) pk q ≡ row_after store n puts q (row_at rows pk q)
all_puts store n pk [] rows q = refl
all_puts store n pk (put ∷ puts) rows q =
    all_puts store (counter_after n put) pk puts (rows_after store n pk put rows) q
    ∙ ap (row_after store (counter_after n put) puts q) (one_put store n pk put rows q)

elsewhere_one : (store n : ℕ) (pk : List ℕ) (put : Put) (rows : Rows) (a b : List ℕ) → (pk ≢ a) → row_at (rows_after store n pk put rows) a b ≡ row_at rows a b
elsewhere_one store n pk (Check rk tag) rows a b ne = refl
elsewhere_one store n pk (Insert rk props) rows a b ne = with_row_elsewhere rows pk rk _ a b (differs_in_pk pk rk a b ne)
elsewhere_one store n pk (Replace rk props tag) rows a b ne = with_row_elsewhere rows pk rk _ a b (differs_in_pk pk rk a b ne)
elsewhere_one store n pk (Delete rk tag) rows a b ne = without_row_elsewhere rows pk rk a b (differs_in_pk pk rk a b ne)

-- rows of other partitions stay
pub elsewhere : (store n : ℕ) (pk : List ℕ) (puts : List Put) (rows : Rows) (a b : List ℕ) → (a ≢ pk) → row_at (all_rows_after store n pk puts rows) a b ≡ row_at rows a b
elsewhere store n pk [] rows a b ne = refl
elsewhere store n pk (put ∷ puts) rows a b ne =
    elsewhere store (counter_after n put) pk puts (rows_after store n pk put rows) a b ne
    ∙ elsewhere_one store n pk put rows a b (λ e. ne (sym e))

-- some put names the row key
abbrev pub is_named : List ℕ → List Put → Bool
is_named q puts = list_any (λ put. bytes_eq (row_key put) q) puts

pub row_after_unnamed : (store n : ℕ) (puts : List Put) (q : List ℕ) (row : Option Stored) → is_named q puts ≡ false → row_after store n puts q row ≡ row
row_after_unnamed store n [] q row h = refl
row_after_unnamed store n (put ∷ puts) q row h =
    elim (bytes_eq (row_key put) q) as (λ x. bytes_eq (row_key put) q ≡ x → (x || is_named q puts) ≡ false → row_after store n (put ∷ puts) q row ≡ row) [
      | true ↦ λ e h. absurd cc
      | false ↦ λ e h.
          ap (λ t. row_after store (counter_after n put) puts q (if t then left_by store n put row else row)) e
          ∙ row_after_unnamed store (counter_after n put) puts q row h
    ] refl h

-- rows that no put names stay
pub unnamed : (store n : ℕ) (pk : List ℕ) (puts : List Put) (rows : Rows) (q : List ℕ) → is_named q puts ≡ false → row_at (all_rows_after store n pk puts rows) pk q ≡ row_at rows pk q
unnamed store n pk puts rows q h = all_puts store n pk puts rows q ∙ row_after_unnamed store n puts q (row_at rows pk q) h

rising_one : (store n : ℕ) (pk : List ℕ) (put : Put) (rows : Rows) → IsTrue (are_rising rows) → IsTrue (are_rising (rows_after store n pk put rows))
rising_one store n pk (Check rk tag) rows h = h
rising_one store n pk (Insert rk props) rows h = rising_with_row rows pk rk _ h
rising_one store n pk (Replace rk props tag) rows h = rising_with_row rows pk rk _ h
rising_one store n pk (Delete rk tag) rows h = rising_without_row rows pk rk h

pub rising_after : (store n : ℕ) (pk : List ℕ) (puts : List Put) (rows : Rows) → IsTrue (are_rising rows) → IsTrue (are_rising (all_rows_after store n pk puts rows))
rising_after store n pk [] rows h = h
rising_after store n pk (put ∷ puts) rows h = rising_after store (counter_after n put) pk puts (rows_after store n pk put rows) (rising_one store n pk put rows h)

-- ---- counter and tags

pub counter_one : (n : ℕ) (put : Put) → (n ≤ counter_after n put) × (counter_after n put ≤ n + 1)
counter_one n (Check rk tag) = (omega arith, omega arith)
counter_one n (Insert rk props) = (omega arith, omega arith)
counter_one n (Replace rk props tag) = (omega arith, omega arith)
counter_one n (Delete rk tag) = (omega arith, omega arith)

-- the counter rises by at most 1 a put
pub counter_rises : (n : ℕ) (puts : List Put) → (n ≤ all_counter_after n puts) × (all_counter_after n puts ≤ n + length puts)
counter_rises n [] = (omega arith, omega arith)
counter_rises n (put ∷ puts) =
    let one = counter_one n put in
    let rest = counter_rises (counter_after n put) puts in
    (omega (arith, one.0, rest.0), omega (arith, one.1, rest.1))

-- one tag answers each put
pub length-tags_of : (store n : ℕ) (puts : List Put) → length (tags_of store n puts) ≡ length puts
length-tags_of store n [] = refl
length-tags_of store n (put ∷ puts) = ap (λ k. suc k) (length-tags_of store (counter_after n put) puts)

-- ---- conditions

-- each put of a list
abbrev pub Each : (Put → Type 0) → List Put → Type 0
Each P [] = Unit {0}
Each P (put ∷ puts) = P put × Each P puts

abbrev pub Held : Rows → List ℕ → Put → Type 0
Held rows pk put = holds put (row_at rows pk (row_key put)) ≡ true

pub each_held : (i : ℕ) (rows : Rows) (pk : List ℕ) (puts : List Put) → unmet_from i rows pk puts ≡ None → Each (Held rows pk) puts
each_held i rows pk [] h = tt
each_held i rows pk (put ∷ puts) h =
    elim (holds put (row_at rows pk (row_key put))) as (λ b. holds put (row_at rows pk (row_key put)) ≡ b → cond {A = Option ℕ} b (unmet_from (i + 1) rows pk puts) (Some i) ≡ None → Each (Held rows pk) (put ∷ puts)) [
      | true ↦ λ e h. (e, each_held (i + 1) rows pk puts h)
      | false ↦ λ e h. absurd cc
    ] refl h

pub all_hold : (i : ℕ) (rows : Rows) (pk : List ℕ) (puts : List Put) → Each (Held rows pk) puts → unmet_from i rows pk puts ≡ None
all_hold i rows pk [] h = refl
all_hold i rows pk (put ∷ puts) h = ap (λ t. cond t (unmet_from (i + 1) rows pk puts) (Some i)) h.0 ∙ all_hold (i + 1) rows pk puts h.1

some_is : (x y : ℕ) → Some x ≡ Some y → x ≡ y
some_is x y e = cc

-- the index is that of one of the puts
pub unmet_in_range : (i : ℕ) (rows : Rows) (pk : List ℕ) (puts : List Put) (at : ℕ) → unmet_from i rows pk puts ≡ Some at → (i ≤ at) × (at < i + length puts)
unmet_in_range i rows pk [] at h = absurd cc
unmet_in_range i rows pk (put ∷ puts) at h =
    elim (holds put (row_at rows pk (row_key put))) as (λ b. cond {A = Option ℕ} b (unmet_from (i + 1) rows pk puts) (Some i) ≡ Some at → (i ≤ at) × (at < i + length (put ∷ puts))) [
      | true ↦ λ h. (let r = unmet_in_range (i + 1) rows pk puts at h in (omega (arith, r.0), omega (arith, r.1)))
      | false ↦ λ h. (let e = some_is i at h in (omega (arith, e), omega (arith, e)))
    ] h

-- ---- what may be asked in one call

pub can_apply_one : (put : Put) → CanApply (put ∷ [])
unfolding IsDistinct
can_apply_one put = record { some = omega arith; few = omega arith; apart = (tt, tt) }

pub can_apply_two : (first second : Put) → bytes_eq (row_key first) (row_key second) ≡ false → CanApply (first ∷ second ∷ [])
unfolding IsDistinct
can_apply_two first second apart = record { some = omega arith; few = omega arith; apart = ((apart, tt), (tt, tt)) }
