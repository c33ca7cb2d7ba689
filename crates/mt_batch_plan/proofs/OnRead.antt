-- When the puts of a batch hold, and what a read of an old that was turned tells it.
use Rattle.std.proofs.Common.{◌≡◌, ℕ, true, ◌==◌, List, [], ◌∷◌, map, refl, sym, ◌∙◌, subst, arith, eq-eqb, Some, None, Option}
use Rattle.std.proofs.lemmas.Bool.Decides.{nat_tests}
use Rattle.std.proofs.lemmas.Bool.{and_parts}
use Rattle.std.specs.List.{AllByRecursion}
use Rattle.mt_chain.specs.declared.row.Stored.{Stored}
use Rattle.mt_chain.specs.declared.op.Op.{Op}
use Rattle.mt_chain.specs.declared.op.Op.TheVariants.{Insert, Replace, Merge, Delete, InsertOrReplace, InsertOrMerge}
use Rattle.mt_chain.specs.Rows.{row_at, named_rows}
use Rattle.mt_chain.specs.Puts.{holds, has_tag}
use Rattle.mt_chain.specs.StoreCall.{Contents}
use Rattle.mt_chain.specs.Effect.{op_key, effect, any_tag, cause_on, left_by}
use Rattle.mt_chain.proofs.PutLaws.{Each, Held}
use Rattle.mt_meta.specs.Logical.{Pair, old_state_at}
use Rattle.mt_meta.specs.Sound.{AreTags, IsSound}
use Rattle.mt_meta.specs.declared.fact.Keys.TheVariants as keys
use Rattle.mt_meta.specs.Facts.{KnowsTurned, is_prefer_new}
use Rattle.mt_meta.proofs.StorePuts.{IsSeen, seen, no_row}
use Rattle.mt_meta.proofs.ReadLaws.{KnowsRead, read_at, turned_known}
use Rattle.mt_batch_plan.specs.declared.basis.Basis.{Basis}
use Rattle.mt_batch_plan.specs.Bases.{seen_by, stored_in, kept_on, put_of, put_by, row_keys}
use Rattle.mt_batch_plan.specs.Calls.{AreNames}
use Rattle.mt_batch_plan.proofs.OpLaws.{key_named}
use Rattle.mt_batch_plan.proofs.EffectLaws.{put_key}

-- ---- puts that hold

pub has_itself : (s : Stored) → has_tag s.tag (Some s) ≡ true
has_itself s = rw (eq-eqb s.tag.store s.tag.store refl, eq-eqb s.tag.n s.tag.n refl) refl

no_tag_zero : (store : ℕ) (c : Contents) (pk rk : List ℕ) (x : Option Stored) → AreTags store c → row_at c.rows pk rk ≡ x → has_tag any_tag x ≡ true → ⊥
no_tag_zero store c pk rk None tags is h = absurd cc
no_tag_zero store c pk rk (Some s) tags is h =
    let both = and_parts (0 == s.tag.store) (0 == s.tag.n) h in
    let low = (tags.range pk rk s is).0 in
    let number : s.tag.n ≡ 0 = (let e = both.1 in grind (arith, nat_tests)) in
    absurd (omega (arith, low, number))

seen_is : (s : Stored) (x : Option Stored) → IsSeen x s.props s.tag → x ≡ Some s
seen_is s x h = (let props = h.props in let tag = h.tag in h.is ∙ (λ i. Some (record { props = props i; tag = tag i })))

-- a put that held met the row that was read
held_row : (store : ℕ) (c : Contents) (pk rk : List ℕ) (row made : Option Stored) → AreTags store c → KnowsRead c pk rk row → holds (put_of rk row made) (row_at c.rows pk rk) ≡ true → row_at c.rows pk rk ≡ row
held_row store c pk rk None None tags knows h = absurd (no_tag_zero store c pk rk (row_at c.rows pk rk) tags refl h)
held_row store c pk rk None (Some made) tags knows h = no_row (row_at c.rows pk rk) h
held_row store c pk rk (Some s) None tags knows h = seen_is s (row_at c.rows pk rk) (seen c pk rk s.props s.tag knows h)
held_row store c pk rk (Some s) (Some made) tags knows h = seen_is s (row_at c.rows pk rk) (seen c pk rk s.props s.tag knows h)

-- a put of a batch that held met the row that was read
pub still_read : (store : ℕ) (c : Contents) (pk : List ℕ) (basis : Basis) (ops : List Op) → AreTags store c → ((rk : List ℕ) → KnowsRead c pk rk (stored_in basis rk))
    → Each (Held c.rows pk) (map (put_by basis) ops) → AllByRecursion (λ op. row_at c.rows pk (op_key op).rk ≡ stored_in basis (op_key op).rk) ops
still_read store c pk basis [] tags knows h = tt
still_read store c pk basis (op ∷ ops) tags knows h = (
  held_row store c pk (op_key op).rk (stored_in basis (op_key op).rk) (kept_on basis (left_by (effect op (seen_by basis (op_key op).rk) any_tag) None)) tags (knows (op_key op).rk)
      (subst (λ rk. holds (put_by basis op) (row_at c.rows pk rk) ≡ true) (put_key basis op) h.0),
  still_read store c pk basis ops tags knows h.1,
)

-- a put on the row that is there holds; an operation that is accepted where no row is leaves one
put_holds : (basis : Basis) (op : Op) (rk : List ℕ) (row seen : Option Stored) → (row ≡ None → seen ≡ None) → cause_on op seen ≡ None → holds (put_of rk row (kept_on basis (left_by (effect op seen any_tag) None))) row ≡ true
put_holds basis op rk (Some s) seen none accepted = go (kept_on basis (left_by (effect op seen any_tag) None)) where
  go : (made : Option Stored) → holds (put_of rk (Some s) made) (Some s) ≡ true
  go None = has_itself s
  go (Some made) = has_itself s
put_holds basis op rk None seen none accepted = subst (λ x. holds (put_of rk None (kept_on basis (left_by (effect op x any_tag) None))) None ≡ true) (sym (none refl)) (go op (subst (λ x. cause_on op x ≡ None) (none refl) accepted)) where
  go : (o : Op) → cause_on o None ≡ None → holds (put_of rk None (kept_on basis (left_by (effect o None any_tag) None))) None ≡ true
  go (Insert key props) h = refl
  go (Replace key props c) h = absurd cc
  go (Merge key props c) h = absurd cc
  go (Delete key c) h = absurd cc
  go (InsertOrReplace key props) h = refl
  go (InsertOrMerge key props) h = refl

-- puts on the rows that are there hold
pub puts_hold : (c : Contents) (pk : List ℕ) (basis : Basis) (ops : List Op) → ((rk : List ℕ) → stored_in basis rk ≡ None → seen_by basis rk ≡ None)
    → AllByRecursion (λ op. row_at c.rows pk (op_key op).rk ≡ stored_in basis (op_key op).rk) ops → AllByRecursion (λ op. cause_on op (seen_by basis (op_key op).rk) ≡ None) ops
    → Each (Held c.rows pk) (map (put_by basis) ops)
puts_hold c pk basis [] none same accepted = tt
puts_hold c pk basis (op ∷ ops) none same accepted = (
  subst (λ rk. holds (put_by basis op) (row_at c.rows pk rk) ≡ true) (sym (put_key basis op))
      (subst (λ o. holds (put_by basis op) o ≡ true) (sym same.0) (put_holds basis op (op_key op).rk (stored_in basis (op_key op).rk) (seen_by basis (op_key op).rk) (none (op_key op).rk) accepted.0)),
  puts_hold c pk basis ops none same.1 accepted.1,
)

-- ---- old was turned

-- a read of old that shows it turned
pub turned_read : (p : Pair) (pk : List ℕ) (ops : List Op) (names : List (List ℕ)) → IsSound p → AreNames ops names → is_prefer_new (old_state_at p pk) ≡ true
    → KnowsTurned p pk (keys.Named (row_keys ops)) (named_rows p.old.rows pk names)
turned_read p pk ops names s are h = turned_known p pk (keys.Named (row_keys ops)) (named_rows p.old.rows pk names) s h (λ rk named. sym (read_at p.old.rows pk names rk (key_named ops names rk are named)))
