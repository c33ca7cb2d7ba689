-- What a migrator keeps whatever the stores reply.
use Rattle.std.proofs.Common.{◌≡◌, ℕ, ◌==◌, Bool, true, false, cond, List, [], ◌∷◌, Option, Some, None, refl, ap, subst}
use Rattle.std.proofs.lemmas.Bool.{and_parts}
use Rattle.std.specs.List.{AllByRecursion}
use Rattle.std.proofs.lemmas.List.Elements.{recursion_from_All}
use Rattle.mt_model.specs.declared.tag.Tag.{Tag}
use Rattle.mt_chain.specs.declared.row.StoredRow.{StoredRow}
use Rattle.mt_chain.specs.declared.query.Found.{Found}
use Rattle.mt_chain.specs.declared.ask.StoreAsk.{StoreAsk}
use Rattle.mt_chain.specs.declared.ask.StoreReply.{StoreReply}
use Rattle.mt_chain.specs.declared.ask.StoreReply.TheVariants as reply
use Rattle.mt_chain.specs.Asks.{FitsAsk}
use Rattle.mt_chain.specs.Puts.{is_same_tag}
use Rattle.mt_chain.specs.Rows.{row_in, is_from, is_upto, is_within}
use Rattle.mt_meta.specs.declared.marker.Phase.{Phase}
use Rattle.mt_meta.specs.declared.marker.Phase.TheVariants.{UseOld, PreferOld, PreferNew}
use Rattle.mt_meta.specs.declared.marker.NewPhase.{NewPhase}
use Rattle.mt_meta.specs.declared.marker.NewPhase.TheVariants.{Filling, UseNew}
use Rattle.mt_meta.specs.Markers.{marker_key, old_phase_of, new_phase_of}
use Rattle.mt_migrate.specs.declared.state.Walk.{Walk}
use Rattle.mt_migrate.specs.declared.state.Walk.TheVariants.{BeforeSeal, AfterSeal}
use Rattle.mt_migrate.specs.declared.state.Pass.{Pass}
use Rattle.mt_migrate.specs.declared.state.Pass.TheVariants.{First, Second}
use Rattle.mt_migrate.specs.declared.state.Part.{Part}
use Rattle.mt_migrate.specs.declared.state.Copying.{Copying}
use Rattle.mt_migrate.specs.declared.state.Reading.{Reading}
use Rattle.mt_migrate.specs.declared.state.State.{State}
use Rattle.mt_migrate.specs.declared.state.State.TheVariants as at
use Rattle.mt_migrate.specs.Chunks.{end_of, chunk_end, is_wanting}
use Rattle.mt_migrate.specs.Moves.{phase_said, next_rows, Asks, walked, by_old_phase, by_old_marker, by_new_phase, claimed, by_pass, by_read_phase, read_old, pass_done, chunk_done, compared, read_new, unwritten, reading_of, first_tag, AreNext, past, MigratorFits, after_next, after_seal, after_read, after_write, after_sealed_off, after_unmet, moved}

-- rows of the range that was asked for lie past what is done
pub past_done : (done upto : Option (List ℕ)) (rows : List StoredRow) → AllByRecursion (λ (r : StoredRow). is_within (next_rows done upto) r.rk ≡ true) rows → AllByRecursion (λ (r : StoredRow). is_from (past done) r.rk ≡ true) rows
past_done done upto [] h = tt
past_done done upto (r ∷ rows) h = ((and_parts (is_from (past done) r.rk) (is_upto upto r.rk) h.0).0, past_done done upto rows h.1)

walked_fits : (walk : Walk) (pk : Option (List ℕ)) → MigratorFits (walked walk pk)
walked_fits walk (Some pk) = tt
walked_fits BeforeSeal None = tt
walked_fits AfterSeal None = tt

old_phase_fits : (part : Part) (rows : List StoredRow) (tag : Tag) (phase : Option Phase) → phase_said (row_in rows marker_key) ≡ phase → MigratorFits (by_old_phase part rows tag phase)
old_phase_fits part rows tag (Some UseOld) is = is
old_phase_fits part rows tag (Some PreferOld) is = tt
old_phase_fits part rows tag (Some PreferNew) is = tt
old_phase_fits part rows tag None is = tt

looked_fits : (part : Part) (rows : List StoredRow) (m : Option StoredRow) → row_in rows marker_key ≡ m → MigratorFits (by_old_marker part rows m)
looked_fits part rows None is = tt
looked_fits part rows (Some m) is = old_phase_fits part rows m.tag (old_phase_of m.tag.store m.props) (ap phase_said is)

new_phase_fits : (part : Part) (pass : Pass) (tag : Tag) (phase : Option NewPhase) → MigratorFits (by_new_phase part pass tag phase)
new_phase_fits part pass tag (Some Filling) = tt
new_phase_fits part pass tag (Some UseNew) = tt
new_phase_fits part pass tag None = tt

claimed_fits : (part : Part) (pass : Pass) (m : Option StoredRow) → MigratorFits (claimed part pass m)
claimed_fits part pass None = tt
claimed_fits part pass (Some m) = new_phase_fits part pass m.tag (new_phase_of m.props)

pass_fits : (copying : Copying) (old : Reading) (tag : Tag) (pass : Pass) (phase : Phase) → AreNext copying.done old.rows → MigratorFits (by_pass copying old tag pass phase)
pass_fits copying old tag Second UseOld few = few
pass_fits copying old tag Second PreferOld few = few
pass_fits copying old tag Second PreferNew few = few
pass_fits copying old tag (First was) UseOld few = few
pass_fits copying old tag (First was) PreferOld few = few
pass_fits copying old tag (First was) PreferNew few = tt

read_phase_fits : (copying : Copying) (old : Reading) (tag : Tag) (phase : Option Phase) → AreNext copying.done old.rows → MigratorFits (by_read_phase copying old tag phase)
read_phase_fits copying old tag None few = tt
read_phase_fits copying old tag (Some phase) few = pass_fits copying old tag copying.pass phase few

read_old_fits : (copying : Copying) (old : Reading) (m : Option StoredRow) → AreNext copying.done old.rows → MigratorFits (read_old copying old m)
read_old_fits copying old None few = tt
read_old_fits copying old (Some m) few = read_phase_fits copying old m.tag (old_phase_of m.tag.store m.props) few

pass_done_fits : (copying : Copying) (pass : Pass) → MigratorFits (pass_done copying pass)
pass_done_fits copying (First marker) = tt
pass_done_fits copying Second = tt

done_fits : (copying : Copying) (upto : Option (List ℕ)) → MigratorFits (chunk_done copying upto)
done_fits copying None = pass_done_fits copying copying.pass
done_fits copying (Some rk) = tt

compared_fits : (copying : Copying) (upto : Option (List ℕ)) (rows entries : List StoredRow) → AreNext copying.done rows → AreNext copying.done entries → MigratorFits (compared copying upto rows entries)
compared_fits copying upto rows entries few less = go (is_wanting upto rows entries) where
  go : (b : Bool) → MigratorFits (cond b (at.Write copying upto rows entries) (chunk_done copying upto))
  go true = (few, less)
  go false = done_fits copying upto

read_new_fits : (copying : Copying) (upto : Option (List ℕ)) (rows entries : List StoredRow) (m : Option StoredRow) → AreNext copying.done rows → AreNext copying.done entries → MigratorFits (read_new copying upto rows entries m)
read_new_fits copying upto rows entries None few less = tt
read_new_fits copying upto rows entries (Some m) few less = go (is_same_tag m.tag copying.epoch) where
  go : (b : Bool) → MigratorFits (cond b (compared copying upto rows entries) (at.Look copying.part))
  go true = compared_fits copying upto rows entries few less
  go false = tt

unwritten_fits : (copying : Copying) (index : ℕ) → MigratorFits (unwritten copying index)
unwritten_fits copying index = go (index == 0) where
  go : (b : Bool) → MigratorFits (cond b (at.Look copying.part) (at.ReadOld copying))
  go true = tt
  go false = tt

read_fits : (state : State) (found : Found) (a : StoreAsk) → MigratorFits state → Asks state a → FitsAsk a.ask (reply.Found found) → MigratorFits (after_read state found)
read_fits (at.Walk walk from) found a fits asks answers = tt
read_fits at.SealOld found a fits asks answers = tt
read_fits (at.Look part) found a fits asks answers = looked_fits part found.named (row_in found.named marker_key) refl
read_fits (at.Prepare part rows) found a fits asks answers = fits
read_fits (at.Claim part pass) found a fits asks answers = claimed_fits part pass (row_in found.named marker_key)
read_fits (at.Begin part pass) found a fits asks answers = tt
read_fits (at.Takeover part pass filling) found a fits asks answers = tt
read_fits (at.ReadOld copying) found a fits asks answers = (let h = subst (λ (x : StoreAsk). FitsAsk x.ask (reply.Found found)) asks answers in
    read_old_fits copying (reading_of found) (row_in found.named marker_key) (h.rows.1, past_done copying.done None found.rows (recursion_from_All _ found.rows h.rows.0)))
read_fits (at.ReadNew copying old) found a fits asks answers = (let h = subst (λ (x : StoreAsk). FitsAsk x.ask (reply.Found found)) asks answers in
    read_new_fits copying (chunk_end old (reading_of found)) old.rows found.rows (row_in found.named marker_key) fits (h.rows.1, past_done copying.done (end_of old) found.rows (recursion_from_All _ found.rows h.rows.0)))
read_fits (at.Write copying upto rows entries) found a fits asks answers = fits
read_fits (at.Switch part marker epoch) found a fits asks answers = tt
read_fits (at.Finish part epoch) found a fits asks answers = tt
read_fits at.Done found a fits asks answers = tt

next_fits : (state : State) (pk : Option (List ℕ)) → MigratorFits state → MigratorFits (after_next state pk)
next_fits (at.Walk walk from) pk fits = walked_fits walk pk
next_fits at.SealOld pk fits = tt
next_fits (at.Look part) pk fits = tt
next_fits (at.Prepare part rows) pk fits = fits
next_fits (at.Claim part pass) pk fits = tt
next_fits (at.Begin part pass) pk fits = tt
next_fits (at.Takeover part pass filling) pk fits = tt
next_fits (at.ReadOld copying) pk fits = tt
next_fits (at.ReadNew copying old) pk fits = fits
next_fits (at.Write copying upto rows entries) pk fits = fits
next_fits (at.Switch part marker epoch) pk fits = tt
next_fits (at.Finish part epoch) pk fits = tt
next_fits at.Done pk fits = tt

seal_fits : (state : State) → MigratorFits state → MigratorFits (after_seal state)
seal_fits (at.Walk walk from) fits = tt
seal_fits at.SealOld fits = tt
seal_fits (at.Look part) fits = tt
seal_fits (at.Prepare part rows) fits = fits
seal_fits (at.Claim part pass) fits = tt
seal_fits (at.Begin part pass) fits = tt
seal_fits (at.Takeover part pass filling) fits = tt
seal_fits (at.ReadOld copying) fits = tt
seal_fits (at.ReadNew copying old) fits = fits
seal_fits (at.Write copying upto rows entries) fits = fits
seal_fits (at.Switch part marker epoch) fits = tt
seal_fits (at.Finish part epoch) fits = tt
seal_fits at.Done fits = tt

write_fits : (state : State) (tag : Tag) → MigratorFits state → MigratorFits (after_write state tag)
write_fits (at.Walk walk from) tag fits = tt
write_fits at.SealOld tag fits = tt
write_fits (at.Look part) tag fits = tt
write_fits (at.Prepare part rows) tag fits = tt
write_fits (at.Claim part pass) tag fits = tt
write_fits (at.Begin part pass) tag fits = tt
write_fits (at.Takeover part pass filling) tag fits = tt
write_fits (at.ReadOld copying) tag fits = tt
write_fits (at.ReadNew copying old) tag fits = fits
write_fits (at.Write copying upto rows entries) tag fits = done_fits copying upto
write_fits (at.Switch part marker epoch) tag fits = tt
write_fits (at.Finish part epoch) tag fits = tt
write_fits at.Done tag fits = tt

sealed_off_fits : (state : State) → MigratorFits state → MigratorFits (after_sealed_off state)
sealed_off_fits (at.Walk walk from) fits = tt
sealed_off_fits at.SealOld fits = tt
sealed_off_fits (at.Look part) fits = tt
sealed_off_fits (at.Prepare part rows) fits = tt
sealed_off_fits (at.Claim part pass) fits = tt
sealed_off_fits (at.Begin part pass) fits = tt
sealed_off_fits (at.Takeover part pass filling) fits = tt
sealed_off_fits (at.ReadOld copying) fits = tt
sealed_off_fits (at.ReadNew copying old) fits = fits
sealed_off_fits (at.Write copying upto rows entries) fits = tt
sealed_off_fits (at.Switch part marker epoch) fits = tt
sealed_off_fits (at.Finish part epoch) fits = tt
sealed_off_fits at.Done fits = tt

unmet_fits : (state : State) (index : ℕ) → MigratorFits state → MigratorFits (after_unmet state index)
unmet_fits (at.Walk walk from) index fits = tt
unmet_fits at.SealOld index fits = tt
unmet_fits (at.Look part) index fits = tt
unmet_fits (at.Prepare part rows) index fits = tt
unmet_fits (at.Claim part pass) index fits = tt
unmet_fits (at.Begin part pass) index fits = tt
unmet_fits (at.Takeover part pass filling) index fits = tt
unmet_fits (at.ReadOld copying) index fits = tt
unmet_fits (at.ReadNew copying old) index fits = fits
unmet_fits (at.Write copying upto rows entries) index fits = unwritten_fits copying index
unmet_fits (at.Switch part marker epoch) index fits = tt
unmet_fits (at.Finish part epoch) index fits = tt
unmet_fits at.Done index fits = tt

pub moved_fits : (state : State) (r : StoreReply) (a : StoreAsk) → MigratorFits state → Asks state a → FitsAsk a.ask r → MigratorFits (moved state r)
moved_fits state (reply.Next next) a fits asks answers = next_fits state next.pk fits
moved_fits state reply.SealDone a fits asks answers = seal_fits state fits
moved_fits state (reply.Found found) a fits asks answers = read_fits state found a fits asks answers
moved_fits state (reply.Applied tags) a fits asks answers = write_fits state (first_tag tags) fits
moved_fits state (reply.Unmet index) a fits asks answers = unmet_fits state index fits
moved_fits state reply.SealedOff a fits asks answers = sealed_off_fits state fits
