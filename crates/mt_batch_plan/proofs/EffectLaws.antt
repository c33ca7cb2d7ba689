-- The key of an operation's put.
use Rattle.std.proofs.Common.{◌≡◌, ℕ, List, [], ◌∷◌, map, length, get_or, ◌<◌, refl, sym, ap, subst, ◌∙◌, Option, Some, None}
use Rattle.std.proofs.lemmas.List.Elements.{All-get_or}
use Rattle.mt_chain.specs.declared.row.Stored.{Stored}
use Rattle.mt_chain.specs.declared.op.Op.{Op}
use Rattle.mt_chain.specs.Effect.{op_key, effect, cause_on, left_by, any_tag}
use Rattle.mt_chain.specs.Puts.{row_key}
use Rattle.mt_chain.specs.Batch.{refusal_of, cause_in}
use Rattle.mt_chain.proofs.Theorems.{none_refuses}
use Rattle.mt_batch_plan.specs.declared.basis.Basis.{Basis}
use Rattle.mt_batch_plan.specs.Bases.{seen_by, stored_in, table_on, kept_on, put_of, put_by}

-- ---- the put of an operation

-- it has the operation's key
key_of_put : (rk : List ℕ) (was left : Option Stored) → row_key (put_of rk was left) ≡ rk
key_of_put rk None (Some row) = refl
key_of_put rk (Some w) (Some row) = refl
key_of_put rk (Some w) None = refl
key_of_put rk None None = refl

pub put_key : (basis : Basis) (op : Op) → row_key (put_by basis op) ≡ (op_key op).rk
put_key basis op = key_of_put (op_key op).rk (stored_in basis (op_key op).rk) (kept_on basis (left_by (effect op (seen_by basis (op_key op).rk) any_tag) None))

pub keys_of_puts : (basis : Basis) (ops : List Op) → map row_key (map (put_by basis) ops) ≡ map (λ op. (op_key op).rk) ops
keys_of_puts basis [] = refl
keys_of_puts basis (op ∷ ops) = ap (λ k. k ∷ map row_key (map (put_by basis) ops)) (put_key basis op) ∙ ap (λ ks. (op_key op).rk ∷ ks) (keys_of_puts basis ops)

-- each operation of a batch that is not refused is accepted on what clients see at its key
pub accepted_at : (ops : List Op) (basis : Basis) (i : ℕ) (op : Op) → refusal_of ops (table_on basis) ≡ None → i < length ops → op ≡ get_or ops i op → cause_on op (seen_by basis (op_key op).rk) ≡ None
accepted_at ops basis i op none inside is =
    subst (λ o. cause_in (table_on basis) o ≡ None) (sym is) (All-get_or (λ o. cause_in (table_on basis) o ≡ None) ops i op inside (none_refuses ops (table_on basis) none))
