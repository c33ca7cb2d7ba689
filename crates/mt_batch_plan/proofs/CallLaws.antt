-- What a batch call asks at a write, and what it may count on when the store's tags come.
use Rattle.std.proofs.Common.{◌≡◌, ℕ, suc, ◌+◌, List, map, length, sym, ap, subst, ◌∙◌, arith, Result, Ok, Err, IfOk}
use Rattle.std.proofs.lemmas.List.{length-map}
use Rattle.std.proofs.lemmas.List.Sorted.{length_permutation}
use Rattle.mt_model.specs.declared.text.NoMemory.{NoMemory}
use Rattle.mt_model.specs.declared.tag.Tag.{Tag}
use Rattle.mt_chain.specs.declared.op.Op.{Op}
use Rattle.mt_chain.specs.declared.ask.StoreAsk.{StoreAsk}
use Rattle.mt_chain.specs.declared.ask.StoreReply.{StoreReply}
use Rattle.mt_chain.specs.declared.ask.StoreReply.TheVariants as reply
use Rattle.mt_chain.specs.Asks.{FitsAsk}
use Rattle.mt_chain.specs.Effect.{told_tag, any_tag, op_key}
use Rattle.mt_chain.specs.Table.{Table}
use Rattle.mt_rules.specs.Batches.{partition_of}
use Rattle.mt_batch_plan.specs.declared.place.Place.{Place}
use Rattle.mt_batch_plan.specs.declared.place.Place.TheVariants.{ReadOld, ReadNew, Write}
use Rattle.mt_batch_plan.specs.declared.basis.Basis.{Basis}
use Rattle.mt_batch_plan.specs.Bases.{table_on, put_by}
use Rattle.mt_batch_plan.specs.Calls.{Call, IsInOrder, Asks, writes}
use Rattle.mt_batch_plan.specs.Plans.{IsOrder, IsPlan, IsPlanned, picked}
use Rattle.mt_batch_plan.proofs.OrderLaws.{in_order}

on_ok : {A E : Type 0} (P Q : A → Type 0) (r : Result A E) → ((a : A) → P a → Q a) → IfOk r P → IfOk r Q
on_ok P Q (Ok a) f h = f a h
on_ok P Q (Err e) f h = tt

pub asks_write : (r : Result StoreAsk NoMemory) (ops : List Op) (place : Place) (basis : Basis) (order indexes : List ℕ) (tags : List Tag) (call : Call)
    → record { batch = ops; place = place } ≡ call → place ≡ Write basis → indexes ≡ order → IsPlanned ops place order tags
    → IfOk r (λ a. a ≡ writes (partition_of ops) basis (picked ops indexes)) → IfOk r (Asks call.batch call.place)
asks_write r ops place basis order indexes tags call view at order_is plan asked =
    let planned : IsPlan ops (table_on basis) order tags = subst (λ p. IsPlanned ops p order tags) at plan in
    subst (λ (v : Call). IfOk r (Asks v.batch v.place)) view
    (subst (λ p. IfOk r (Asks ops p)) (sym at)
    (on_ok (λ a. a ≡ writes (partition_of ops) basis (picked ops indexes)) (Asks ops (Write basis)) r
    (λ a h. (picked ops order, in_order ops order planned.in_order, h ∙ ap (λ l. writes (partition_of ops) basis (picked ops l)) order_is)) asked))

-- ---- the store's tags

-- the order is that of the operations, and there is a tag for the marker and for each of them
pub record IsReady (ops : List Op) (order : List ℕ) (tags given : List Tag) : Type 0 where
  pub order_is : IsOrder ops order
  pub count : length given ≡ length ops + 1
  pub told : length tags ≡ length ops

-- the tags of a write, of which there is one for each put
counted : (ops sorted : List Op) (pk : List ℕ) (basis : Basis) (given : List Tag) (a : StoreAsk) → IsInOrder ops sorted → a ≡ writes pk basis sorted
    → FitsAsk a.ask (reply.Applied given) → length given ≡ length ops + 1
counted ops sorted pk basis given a h is fits =
    let count : length given ≡ suc (length (map (put_by basis) sorted)) = subst (λ (x : StoreAsk). FitsAsk x.ask (reply.Applied given)) is fits in
    omega (arith, count, length-map sorted (put_by basis), length_permutation ops sorted h.all)

tags_told : (ops : List Op) (table : Table) (order : List ℕ) (tags : List Tag) → IsPlan ops table order tags → length tags ≡ length ops
tags_told ops table order tags plan = ap length plan.told ∙ length-map ops (λ op. told_tag op (table (op_key op)) any_tag)

ready_at : (ops : List Op) (place : Place) (order : List ℕ) (tags given : List Tag) → IsPlanned ops place order tags → (a : StoreAsk) → Asks ops place a → FitsAsk a.ask (reply.Applied given) → IsReady ops order tags given
ready_at ops ReadOld order tags given plan a asked fits = absurd (subst (λ (x : StoreAsk). FitsAsk x.ask (reply.Applied given)) asked.2 fits)
ready_at ops (ReadNew after) order tags given plan a asked fits = absurd (subst (λ (x : StoreAsk). FitsAsk x.ask (reply.Applied given)) asked.2 fits)
ready_at ops (Write basis) order tags given plan a asked fits = record {
  order_is = plan.in_order;
  count = counted ops asked.0 (partition_of ops) basis given a asked.1 asked.2 fits;
  told = tags_told ops (table_on basis) order tags plan;
}

abbrev pub FitsCall : Call → StoreReply → Type 0
FitsCall call r = (a : StoreAsk) × Asks call.batch call.place a × FitsAsk a.ask r

pub ready : (ops : List Op) (place : Place) (order : List ℕ) (tags : List Tag) (call : Call) (r : StoreReply) (given : List Tag)
    → record { batch = ops; place = place } ≡ call → r ≡ reply.Applied given → IsPlanned ops place order tags → FitsCall call r → IsReady ops order tags given
ready ops place order tags call r given view is plan fits =
    let here : FitsCall (record { batch = ops; place = place }) (reply.Applied given) =
    subst (λ (v : Call). FitsCall v (reply.Applied given)) (sym view) (subst (FitsCall call) is fits) in
    ready_at ops place order tags given plan here.0 here.1 here.2
