-- What a cleaner keeps whatever the stores reply.
use Rattle.std.proofs.Common.{◌≡◌, ℕ, ◌≤◌, Bool, true, false, List, [], ◌∷◌, length, Option, Some, None, refl, subst}
use Rattle.mt_chain.specs.declared.row.StoredRow.{StoredRow}
use Rattle.mt_chain.specs.declared.query.Found.{Found}
use Rattle.mt_chain.specs.declared.query.Next.{Next}
use Rattle.mt_chain.specs.declared.ask.StoreAsk.{StoreAsk}
use Rattle.mt_chain.specs.declared.ask.StoreReply.{StoreReply}
use Rattle.mt_chain.specs.declared.ask.StoreReply.TheVariants as reply
use Rattle.mt_chain.specs.Asks.{FitsAsk}
use Rattle.mt_chain.specs.Rows.{row_in, read_end}
use Rattle.mt_meta.specs.declared.marker.NewPhase.{NewPhase}
use Rattle.mt_meta.specs.declared.marker.NewPhase.TheVariants.{Filling, UseNew}
use Rattle.mt_meta.specs.Markers.{marker_key, new_phase_of}
use Rattle.mt_clean.specs.declared.state.State.{State}
use Rattle.mt_clean.specs.declared.state.State.TheVariants as at
use Rattle.mt_clean.specs.declared.steps.Lead.{Lead}
use Rattle.mt_clean.specs.declared.steps.Lead.TheVariants as to
use Rattle.mt_clean.specs.Cleanings.{tombs_of, Asks, walked, purged, purge_or_on, by_new_phase, read_new, read_old, dropped, after_next, after_read, after_write, after_unmet, lead, state_of, said_of, progress_at, CleanerFits, is_done, says_done}
use Rattle.mt_clean.proofs.RowLists.{are_dropped, are_purged}

walked_fits : (sealed : Bool) (pk : Option (List ℕ)) → CleanerFits (state_of (walked sealed pk))
walked_fits false pk = tt
walked_fits true None = tt
walked_fits true (Some pk) = tt

purged_fits : (pk : List ℕ) (upto : Option (List ℕ)) → CleanerFits (purged pk upto)
purged_fits pk None = tt
purged_fits pk (Some rk) = tt

purge_fits : (pk : List ℕ) (upto : Option (List ℕ)) (rows tombs : List StoredRow) → length rows ≤ 100 → tombs_of rows ≡ tombs → CleanerFits (purge_or_on pk upto tombs)
purge_fits pk upto rows [] few is = purged_fits pk upto
purge_fits pk upto rows (tomb ∷ tombs) few is = are_purged rows tomb tombs few is

new_phase_fits : (pk : List ℕ) (upto : Option (List ℕ)) (rows : List StoredRow) (phase : Option NewPhase) → length rows ≤ 100 → CleanerFits (state_of (by_new_phase pk upto rows phase))
new_phase_fits pk upto rows (Some UseNew) few = purge_fits pk upto rows (tombs_of rows) few refl
new_phase_fits pk upto rows (Some Filling) few = tt
new_phase_fits pk upto rows None few = tt

read_new_fits : (pk : List ℕ) (upto : Option (List ℕ)) (rows : List StoredRow) (m : Option StoredRow) → length rows ≤ 100 → CleanerFits (state_of (read_new pk upto rows m))
read_new_fits pk upto rows None few = tt
read_new_fits pk upto rows (Some m) few = new_phase_fits pk upto rows (new_phase_of m.props) few

read_old_fits : (pk : List ℕ) (rows : List StoredRow) (more : Bool) (m : Option StoredRow) → length rows ≤ 100 → CleanerFits (read_old pk rows more m)
read_old_fits pk rows more None few = tt
read_old_fits pk rows more (Some m) few = are_dropped rows few

dropped_fits : (pk : List ℕ) (more : Bool) → CleanerFits (dropped pk more)
dropped_fits pk true = tt
dropped_fits pk false = tt

next_fits : (state : State) (next : Next) → CleanerFits state → CleanerFits (state_of (after_next state next))
next_fits at.Walk next fits = walked_fits next.sealed next.pk
next_fits (at.Tombs pk after) next fits = tt
next_fits (at.Purge pk upto tombs) next fits = fits
next_fits (at.Rows pk) next fits = tt
next_fits (at.Drop pk marker rows more) next fits = fits
next_fits at.Done next fits = tt

read_fits : (state : State) (found : Found) (a : StoreAsk) → CleanerFits state → Asks state a → FitsAsk a.ask (reply.Found found) → CleanerFits (state_of (after_read state found))
read_fits at.Walk found a fits asks answers = tt
read_fits (at.Tombs pk after) found a fits asks answers = (let h = subst (λ (x : StoreAsk). FitsAsk x.ask (reply.Found found)) asks answers in
    read_new_fits pk (read_end found.rows found.more) found.rows (row_in found.named marker_key) h.rows.1)
read_fits (at.Purge pk upto tombs) found a fits asks answers = fits
read_fits (at.Rows pk) found a fits asks answers = (let h = subst (λ (x : StoreAsk). FitsAsk x.ask (reply.Found found)) asks answers in
    read_old_fits pk found.rows found.more (row_in found.named marker_key) h.rows.1)
read_fits (at.Drop pk marker rows more) found a fits asks answers = fits
read_fits at.Done found a fits asks answers = tt

write_fits : (state : State) → CleanerFits state → CleanerFits (after_write state)
write_fits at.Walk fits = tt
write_fits (at.Tombs pk after) fits = tt
write_fits (at.Purge pk upto tombs) fits = purged_fits pk upto
write_fits (at.Rows pk) fits = tt
write_fits (at.Drop pk marker rows more) fits = dropped_fits pk more
write_fits at.Done fits = tt

unmet_fits : (state : State) → CleanerFits state → CleanerFits (after_unmet state)
unmet_fits at.Walk fits = tt
unmet_fits (at.Tombs pk after) fits = tt
unmet_fits (at.Purge pk upto tombs) fits = tt
unmet_fits (at.Rows pk) fits = tt
unmet_fits (at.Drop pk marker rows more) fits = tt
unmet_fits at.Done fits = tt

pub lead_fits : (state : State) (r : StoreReply) (a : StoreAsk) → CleanerFits state → Asks state a → FitsAsk a.ask r → CleanerFits (state_of (lead state r))
lead_fits state (reply.Next next) a fits asks answers = next_fits state next fits
lead_fits state (reply.Found found) a fits asks answers = read_fits state found a fits asks answers
lead_fits state (reply.Applied tags) a fits asks answers = write_fits state fits
lead_fits state (reply.Unmet index) a fits asks answers = unmet_fits state fits
lead_fits state reply.SealedOff a fits asks answers = unmet_fits state fits
lead_fits state reply.SealDone a fits asks answers = fits

done_there : (state : State) → is_done state ≡ says_done (progress_at state)
done_there at.Walk = refl
done_there (at.Tombs pk after) = refl
done_there (at.Purge pk upto tombs) = refl
done_there (at.Rows pk) = refl
done_there (at.Drop pk marker rows more) = refl
done_there at.Done = refl

-- it is done exactly where it says so
pub done_said : (l : Lead) → is_done (state_of l) ≡ says_done (said_of l)
done_said (to.To state) = done_there state
done_said to.NotSealed = refl
done_said (to.NotMigrated pk) = refl
