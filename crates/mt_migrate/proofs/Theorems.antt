-- The laws of a migrator, in the words of its definitions.
use Rattle.std.proofs.Common.{◌≡◌, ◌≢◌, inl, inr, ℕ, ◌+◌, ◌*◌, ◌<◌, ◌≤◌, Bool, List, ◌∷◌, length, Option, Some, None, sym, ap, subst, ◌∙◌}
use Rattle.std.specs.Prelude.{Ok}
use Rattle.mt_model.specs.declared.tag.Tag.{Tag}
use Rattle.mt_chain.specs.declared.row.Stored.{Stored}
use Rattle.mt_chain.specs.declared.row.Put.TheVariants as put
use Rattle.mt_chain.specs.declared.row.StoredRow.{StoredRow}
use Rattle.mt_chain.specs.declared.ask.StoreAsk.{StoreAsk}
use Rattle.mt_chain.specs.declared.ask.StoreReply.{StoreReply}
use Rattle.mt_chain.specs.declared.ask.StoreReply.TheVariants as reply
use Rattle.mt_chain.specs.StoreCall.{IsContents}
use Rattle.mt_chain.proofs.PutLaws.{each_held}
use Rattle.mt_chain.proofs.JudgeLaws.{was_done}
use Rattle.mt_meta.specs.Markers.{marker_key}
use Rattle.mt_meta.specs.Logical.{Pair, new_at}
use Rattle.mt_meta.specs.Sound.{IsSound}
use Rattle.mt_meta.specs.Steps.{AllHold, with_new, PairMeans}
use Rattle.mt_migrate.specs.declared.migrator.MoveProgress.{MoveProgress}
use Rattle.mt_migrate.specs.declared.state.Copying.{Copying}
use Rattle.mt_migrate.specs.declared.state.State.{State}
use Rattle.mt_migrate.specs.declared.state.State.TheVariants as at
use Rattle.mt_migrate.specs.Moves.{Asks, Absorbs, MigratorFits, GoesOn, begin}
use Rattle.mt_migrate.specs.Known.{state_facts}
use Rattle.mt_migrate.specs.MoverSteps.{MoverStep, IsMoved}
use Rattle.mt_migrate.specs.RowCounts.{partitions, data_in, any_partition}
use Rattle.mt_migrate.specs.StepsLeft.{steps_left, Stands}
use Rattle.mt_migrate.specs.MostLeft.{Lasts}
use Rattle.mt_meta.proofs.StorePuts.{tagged}
use Rattle.mt_migrate.proofs.MoverLaw.{mover_law}
use Rattle.mt_migrate.proofs.AgainLaw.{lasts_less}
use Rattle.mt_migrate.proofs.AloneLaw.{nears_end, begins_within}
use Rattle.mt_migrate.proofs.BoundLaws.{most_within, lasts_some}

-- each step of a migrator keeps the pair sound, the table that clients see, and what every step is to keep but for the entries of its own epoch; what it knows then holds
pub steps_are_steps_of_an_actor : (state to : State) (a : StoreAsk) (r : StoreReply) (said : MoveProgress) (p q : Pair) (retired : Bool) → MigratorFits state → IsSound p → p.old_number < p.new_number → IsContents p.old → IsContents p.new
    → AllHold p retired (state_facts state) → Asks state a → PairMeans a r p q → Absorbs state r (Ok said) to → MoverStep state to retired p q
steps_are_steps_of_an_actor = mover_law

-- a migrator is done only there
pub done_is_moved : (p : Pair) (retired : Bool) → AllHold p retired (state_facts at.Done) → IsMoved p
done_is_moved p retired know = record { sealed = know.0.sealed; moved = λ pk there. know.0.moved pk tt there }

-- a put of a former epoch changes nothing
pub former_epoch_changes_nothing : (copying : Copying) (upto : Option (List ℕ)) (rows entries : List StoredRow) (a : StoreAsk) (r : StoreReply) (p q : Pair) (m : Stored)
    → Asks (at.Write copying upto rows entries) a → PairMeans a r p q → new_at p copying.part.pk marker_key ≡ Some m → m.tag ≢ copying.epoch → q ≡ p
former_epoch_changes_nothing copying upto rows entries a (reply.Applied tags) p q m asks means there other =
    let k = subst (λ x. PairMeans x (reply.Applied tags) p q) asks.2 means in
    let puts = put.Check marker_key copying.epoch ∷ asks.0 in
    let d = was_done p.new_number p.new copying.part.pk puts q.new tags k.0.0 in
    let held = tagged (new_at p copying.part.pk marker_key) copying.epoch (each_held 0 p.new.rows copying.part.pk puts d.met).0 in
    absurd (other (same m held.0 (sym there ∙ held.1) ∙ held.2)) where
      same : (x y : Stored) → Some x ≡ Some y → x.tag ≡ y.tag
      same x y e = ap (λ (o : Option Stored). elim o as (λ _. Tag) [ None ↦ x.tag | Some z ↦ z.tag ]) e
former_epoch_changes_nothing copying upto rows entries a (reply.Unmet index) p q m asks means there other =
    (let k = subst (λ x. PairMeans x (reply.Unmet index) p q) asks.2 means in k.1 ∙ ap (with_new p) k.0.1)
former_epoch_changes_nothing copying upto rows entries a reply.SealedOff p q m asks means there other =
    (let k = subst (λ x. PairMeans x reply.SealedOff p q) asks.2 means in k.1 ∙ ap (with_new p) k.0.1)
former_epoch_changes_nothing copying upto rows entries a (reply.Found found) p q m asks means there other = absurd (subst (λ x. PairMeans x (reply.Found found) p q) asks.2 means).0
former_epoch_changes_nothing copying upto rows entries a (reply.Next next) p q m asks means there other = absurd (subst (λ x. PairMeans x (reply.Next next) p q) asks.2 means).0
former_epoch_changes_nothing copying upto rows entries a reply.SealDone p q m asks means there other = absurd (subst (λ x. PairMeans x reply.SealDone p q) asks.2 means).0

-- a migrator that acts alone, and whose rows in hand stand, comes nearer to its end with each step
pub steps_alone_near_the_end : (state to : State) (a : StoreAsk) (r : StoreReply) (said : MoveProgress) (p q : Pair) (retired : Bool) → MigratorFits state → IsSound p → IsContents p.old → IsContents p.new
    → AllHold p retired (state_facts state) → Stands p state → Asks state a → PairMeans a r p q → Absorbs state r (Ok said) to → Stands q to × (steps_left to q + 1 ≤ steps_left state p)
steps_alone_near_the_end state to a r said p q retired fits s old new know stands asks means absorbs =
    let h = nears_end state r a p q retired fits s old.rising new.rising know stands asks means in
    subst (λ x. Stands q x × (steps_left x q + 1 ≤ steps_left state p)) (sym absorbs.0) (h.stands, h.less)

-- it is done within these steps from its beginning, where nothing is in hand: by old's partitions, old's data rows and new's data rows
pub few_steps_from_the_beginning : (p : Pair) → Lasts (16 * (partitions any_partition p + 1) + 6 * (data_in any_partition p.old.rows + data_in any_partition p.new.rows)) p begin
few_steps_from_the_beginning p = inl (tt, begins_within p)

-- whatever others did before, it lasts fewer steps after each that it makes alone
pub each_step_alone_lasts_less : (n : ℕ) (state to : State) (a : StoreAsk) (r : StoreReply) (said : MoveProgress) (p q : Pair) (retired : Bool) → MigratorFits state → IsSound p → IsContents p.old → IsContents p.new
    → AllHold p retired (state_facts state) → Asks state a → PairMeans a r p q → Absorbs state r (Ok said) to → Lasts n p state → (m : ℕ) × (m + 1 ≤ n) × Lasts m q to
each_step_alone_lasts_less n state to a r said p q retired fits s old new know asks means absorbs lasts =
    subst (λ x. (m : ℕ) × (m + 1 ≤ n) × Lasts m q x) (sym absorbs.0) (lasts_less n state r a p q retired fits s old.rising new.rising know asks means lasts)

-- so it is done within these steps from every state: by the rows of both stores, markers among them
pub few_steps_from_any_state : (state : State) (p : Pair) → IsContents p.old → IsContents p.new → Lasts (28 * (length p.old.rows + length p.new.rows) + 16) p state
few_steps_from_any_state state p old new = inr (most_within state p (old.rising, new.rising))

-- where no steps are left it is done
pub some_steps_are_left : (n : ℕ) (p : Pair) (state : State) → Lasts n p state → GoesOn state → 1 ≤ n
some_steps_are_left = lasts_some
