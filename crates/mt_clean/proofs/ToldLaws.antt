-- What a cleaner says of two told stores is so.
use Rattle.std.proofs.Common.{◌≡◌, ℕ, Bool, true, false, List, [], ◌∷◌, Option, Some, None, refl, sym, ap, subst, ◌∙◌}
use Rattle.std.specs.Prelude.{option_map, is_some}
use Rattle.mt_chain.specs.declared.ask.StoreAsk.{StoreAsk}
use Rattle.mt_chain.specs.declared.ask.StoreReply.{StoreReply}
use Rattle.mt_chain.specs.declared.ask.StoreReply.TheVariants as reply
use Rattle.mt_chain.specs.declared.query.PkFrom.TheVariants as start
use Rattle.mt_chain.specs.declared.row.Stored.{Stored}
use Rattle.mt_chain.specs.declared.row.StoredRow.{StoredRow}
use Rattle.mt_chain.specs.Rows.{row_in, read_end, shown}
use Rattle.mt_chain.specs.StoreCall.{IsNext}
use Rattle.mt_chain.proofs.RowLaws.{no_partition, row_of_partition}
use Rattle.mt_meta.specs.declared.marker.NewPhase.{NewPhase}
use Rattle.mt_meta.specs.declared.marker.NewPhase.TheVariants.{Filling, UseNew}
use Rattle.mt_meta.specs.Markers.{marker_key, new_phase_of}
use Rattle.mt_meta.specs.Logical.{Pair, NoOld, NewState, NoNew, AtFilling, AtUseNew, BadNew, old_state, new_state, new_says, old_at, new_at, old_state_at, new_state_at}
use Rattle.mt_meta.specs.Facts.{is_there, is_use_new, KnowsSwept}
use Rattle.mt_meta.specs.Steps.{AllHold, IsEmptied, PairMeans}
use Rattle.mt_meta.proofs.ReadLaws.{marker_read}
use Rattle.mt_clean.specs.declared.state.State.{State}
use Rattle.mt_clean.specs.declared.state.State.TheVariants as at
use Rattle.mt_clean.specs.declared.cleaner.CleanProgress.TheVariants as progress
use Rattle.mt_clean.specs.Cleanings.{Asks, walked, purged, purge_or_on, by_new_phase, read_new, read_old, dropped, tombs_of, after_write, after_unmet, lead, said_of, progress_at, says_done}
use Rattle.mt_clean.specs.Known.{state_facts}
use Rattle.mt_clean.proofs.CleanerLaw.{from_start}

-- ---- a cleaner that goes on says neither

going : (s : State) → (progress_at s ≡ progress.NotSealed → ⊥) × ((pk : List ℕ) → progress_at s ≡ progress.NotMigrated pk → ⊥)
going at.Walk = (λ e. (let x = e in cc), λ pk e. (let x = e in cc))
going (at.Tombs pk after) = (λ e. (let x = e in cc), λ k e. (let x = e in cc))
going (at.Purge pk upto tombs) = (λ e. (let x = e in cc), λ k e. (let x = e in cc))
going (at.Rows pk) = (λ e. (let x = e in cc), λ k e. (let x = e in cc))
going (at.Drop pk marker rows more) = (λ e. (let x = e in cc), λ k e. (let x = e in cc))
going at.Done = (λ e. (let x = e in cc), λ pk e. (let x = e in cc))

-- ---- not sealed

phase_not_sealed : (pk : List ℕ) (upto : Option (List ℕ)) (rows : List StoredRow) (phase : Option NewPhase) → said_of (by_new_phase pk upto rows phase) ≡ progress.NotSealed → ⊥
phase_not_sealed pk upto rows (Some UseNew) e = (going (purge_or_on pk upto (tombs_of rows))).0 e
phase_not_sealed pk upto rows (Some Filling) e = (let x = e in cc)
phase_not_sealed pk upto rows None e = (let x = e in cc)

marker_not_sealed : (pk : List ℕ) (upto : Option (List ℕ)) (rows : List StoredRow) (m : Option StoredRow) → said_of (read_new pk upto rows m) ≡ progress.NotSealed → ⊥
marker_not_sealed pk upto rows None e = (let x = e in cc)
marker_not_sealed pk upto rows (Some m) e = phase_not_sealed pk upto rows (new_phase_of m.props) e

walk_not_sealed : (sealed : Bool) (pk : Option (List ℕ)) → said_of (walked sealed pk) ≡ progress.NotSealed → sealed ≡ false
walk_not_sealed false pk e = refl
walk_not_sealed true None e = absurd (let x = e in cc)
walk_not_sealed true (Some pk) e = absurd (let x = e in cc)

-- it says that old is not sealed only where its call has just shown that
pub not_sealed_is_so : (state : State) (r : StoreReply) (a : StoreAsk) (p q : Pair) → Asks state a → PairMeans a r p q → said_of (lead state r) ≡ progress.NotSealed → p.old.sealed ≡ false
not_sealed_is_so at.Walk (reply.Next next) a p q asks means e = (let m = (subst (λ x. PairMeans x (reply.Next next) p q) asks means) in sym m.0.2 ∙ walk_not_sealed next.sealed next.pk e)
not_sealed_is_so at.Walk (reply.Found found) a p q asks means e = absurd (subst (λ x. PairMeans x (reply.Found found) p q) asks means).0
not_sealed_is_so at.Walk (reply.Applied tags) a p q asks means e = absurd (subst (λ x. PairMeans x (reply.Applied tags) p q) asks means).0
not_sealed_is_so at.Walk (reply.Unmet index) a p q asks means e = absurd (subst (λ x. PairMeans x (reply.Unmet index) p q) asks means).0
not_sealed_is_so at.Walk reply.SealedOff a p q asks means e = absurd (subst (λ x. PairMeans x reply.SealedOff p q) asks means).0
not_sealed_is_so at.Walk reply.SealDone a p q asks means e = absurd (subst (λ x. PairMeans x reply.SealDone p q) asks means).0
not_sealed_is_so (at.Tombs pk after) (reply.Next next) a p q asks means e = absurd (subst (λ x. PairMeans x (reply.Next next) p q) asks means).0
not_sealed_is_so (at.Tombs pk after) (reply.Found found) a p q asks means e = absurd (marker_not_sealed pk (read_end found.rows found.more) found.rows (row_in found.named marker_key) e)
not_sealed_is_so (at.Tombs pk after) (reply.Applied tags) a p q asks means e = absurd (subst (λ x. PairMeans x (reply.Applied tags) p q) asks means).0
not_sealed_is_so (at.Tombs pk after) (reply.Unmet index) a p q asks means e = absurd (subst (λ x. PairMeans x (reply.Unmet index) p q) asks means).0
not_sealed_is_so (at.Tombs pk after) reply.SealedOff a p q asks means e = absurd (subst (λ x. PairMeans x reply.SealedOff p q) asks means).0
not_sealed_is_so (at.Tombs pk after) reply.SealDone a p q asks means e = absurd (subst (λ x. PairMeans x reply.SealDone p q) asks means).0
not_sealed_is_so (at.Purge pk upto tombs) (reply.Next next) a p q asks means e = absurd (subst (λ x. PairMeans x (reply.Next next) p q) asks means).0
not_sealed_is_so (at.Purge pk upto tombs) (reply.Found found) a p q asks means e = absurd (subst (λ x. PairMeans x (reply.Found found) p q) asks means).0
not_sealed_is_so (at.Purge pk upto tombs) (reply.Applied tags) a p q asks means e = absurd ((going (after_write (at.Purge pk upto tombs))).0 e)
not_sealed_is_so (at.Purge pk upto tombs) (reply.Unmet index) a p q asks means e = absurd ((going (after_unmet (at.Purge pk upto tombs))).0 e)
not_sealed_is_so (at.Purge pk upto tombs) reply.SealedOff a p q asks means e = absurd ((going (after_unmet (at.Purge pk upto tombs))).0 e)
not_sealed_is_so (at.Purge pk upto tombs) reply.SealDone a p q asks means e = absurd (subst (λ x. PairMeans x reply.SealDone p q) asks means).0
not_sealed_is_so (at.Rows pk) (reply.Next next) a p q asks means e = absurd (subst (λ x. PairMeans x (reply.Next next) p q) asks means).0
not_sealed_is_so (at.Rows pk) (reply.Found found) a p q asks means e = absurd ((going (read_old pk found.rows found.more (row_in found.named marker_key))).0 e)
not_sealed_is_so (at.Rows pk) (reply.Applied tags) a p q asks means e = absurd (subst (λ x. PairMeans x (reply.Applied tags) p q) asks means).0
not_sealed_is_so (at.Rows pk) (reply.Unmet index) a p q asks means e = absurd (subst (λ x. PairMeans x (reply.Unmet index) p q) asks means).0
not_sealed_is_so (at.Rows pk) reply.SealedOff a p q asks means e = absurd (subst (λ x. PairMeans x reply.SealedOff p q) asks means).0
not_sealed_is_so (at.Rows pk) reply.SealDone a p q asks means e = absurd (subst (λ x. PairMeans x reply.SealDone p q) asks means).0
not_sealed_is_so (at.Drop pk marker rows more) (reply.Next next) a p q asks means e = absurd (subst (λ x. PairMeans x (reply.Next next) p q) asks means).0
not_sealed_is_so (at.Drop pk marker rows more) (reply.Found found) a p q asks means e = absurd (subst (λ x. PairMeans x (reply.Found found) p q) asks means).0
not_sealed_is_so (at.Drop pk marker rows more) (reply.Applied tags) a p q asks means e = absurd ((going (after_write (at.Drop pk marker rows more))).0 e)
not_sealed_is_so (at.Drop pk marker rows more) (reply.Unmet index) a p q asks means e = absurd ((going (after_unmet (at.Drop pk marker rows more))).0 e)
not_sealed_is_so (at.Drop pk marker rows more) reply.SealedOff a p q asks means e = absurd ((going (after_unmet (at.Drop pk marker rows more))).0 e)
not_sealed_is_so (at.Drop pk marker rows more) reply.SealDone a p q asks means e = absurd (subst (λ x. PairMeans x reply.SealDone p q) asks means).0
not_sealed_is_so at.Done r a p q asks means e = absurd asks

-- ---- not migrated

the_key : (a b : List ℕ) → progress.NotMigrated a ≡ progress.NotMigrated b → a ≡ b
the_key a b e = cc

phase_not_migrated : (pk : List ℕ) (upto : Option (List ℕ)) (rows : List StoredRow) (phase : Option NewPhase) (k : List ℕ) → said_of (by_new_phase pk upto rows phase) ≡ progress.NotMigrated k → (pk ≡ k) × (is_use_new (new_says phase) ≡ false)
phase_not_migrated pk upto rows (Some UseNew) k e = absurd ((going (purge_or_on pk upto (tombs_of rows))).1 k e)
phase_not_migrated pk upto rows (Some Filling) k e = (the_key pk k e, refl)
phase_not_migrated pk upto rows None k e = absurd (let x = e in cc)

marker_not_migrated : (pk : List ℕ) (upto : Option (List ℕ)) (rows : List StoredRow) (x : Option Stored) (k : List ℕ) → said_of (read_new pk upto rows (option_map (shown marker_key) x)) ≡ progress.NotMigrated k → (pk ≡ k) × (is_use_new (new_state x) ≡ false)
marker_not_migrated pk upto rows None k e = (the_key pk k e, refl)
marker_not_migrated pk upto rows (Some r) k e = phase_not_migrated pk upto rows (new_phase_of r.props) k e

walk_not_migrated : (sealed : Bool) (pk : Option (List ℕ)) (k : List ℕ) → said_of (walked sealed pk) ≡ progress.NotMigrated k → ⊥
walk_not_migrated false pk k e = (let x = e in cc)
walk_not_migrated true None k e = (let x = e in cc)
walk_not_migrated true (Some pk) k e = (let x = e in cc)

-- the partition was found in old, and new does not use it alone
abbrev pub IsUnmigrated : Pair → List ℕ → Type 0
IsUnmigrated p pk = (is_there (old_state_at p pk) (new_state_at p pk) ≡ true) × (is_use_new (new_state_at p pk) ≡ false)

-- it says that a partition is not migrated only where its call has just shown that
pub not_migrated_is_so : (state : State) (r : StoreReply) (a : StoreAsk) (p q : Pair) (retired : Bool) (k : List ℕ) → AllHold p retired (state_facts state) → Asks state a → PairMeans a r p q → said_of (lead state r) ≡ progress.NotMigrated k → IsUnmigrated p k
not_migrated_is_so at.Walk (reply.Next next) a p q retired k know asks means e = absurd (walk_not_migrated next.sealed next.pk k e)
not_migrated_is_so at.Walk (reply.Found found) a p q retired k know asks means e = absurd (subst (λ x. PairMeans x (reply.Found found) p q) asks means).0
not_migrated_is_so at.Walk (reply.Applied tags) a p q retired k know asks means e = absurd (subst (λ x. PairMeans x (reply.Applied tags) p q) asks means).0
not_migrated_is_so at.Walk (reply.Unmet index) a p q retired k know asks means e = absurd (subst (λ x. PairMeans x (reply.Unmet index) p q) asks means).0
not_migrated_is_so at.Walk reply.SealedOff a p q retired k know asks means e = absurd (subst (λ x. PairMeans x reply.SealedOff p q) asks means).0
not_migrated_is_so at.Walk reply.SealDone a p q retired k know asks means e = absurd (subst (λ x. PairMeans x reply.SealDone p q) asks means).0
not_migrated_is_so (at.Tombs pk after) (reply.Next next) a p q retired k know asks means e = absurd (subst (λ x. PairMeans x (reply.Next next) p q) asks means).0
not_migrated_is_so (at.Tombs pk after) (reply.Found found) a p q retired k know asks means e = (let m = (subst (λ x. PairMeans x (reply.Found found) p q) asks means) in let h = marker_not_migrated pk (read_end found.rows found.more) found.rows (new_at p pk marker_key) k (ap (λ x. said_of (read_new pk (read_end found.rows found.more) found.rows x)) (sym (ap (λ rows. row_in rows marker_key) m.0.1.named ∙ marker_read p.new.rows pk)) ∙ e) in subst (IsUnmigrated p) h.0 (know.0, h.1))
not_migrated_is_so (at.Tombs pk after) (reply.Applied tags) a p q retired k know asks means e = absurd (subst (λ x. PairMeans x (reply.Applied tags) p q) asks means).0
not_migrated_is_so (at.Tombs pk after) (reply.Unmet index) a p q retired k know asks means e = absurd (subst (λ x. PairMeans x (reply.Unmet index) p q) asks means).0
not_migrated_is_so (at.Tombs pk after) reply.SealedOff a p q retired k know asks means e = absurd (subst (λ x. PairMeans x reply.SealedOff p q) asks means).0
not_migrated_is_so (at.Tombs pk after) reply.SealDone a p q retired k know asks means e = absurd (subst (λ x. PairMeans x reply.SealDone p q) asks means).0
not_migrated_is_so (at.Purge pk upto tombs) (reply.Next next) a p q retired k know asks means e = absurd (subst (λ x. PairMeans x (reply.Next next) p q) asks means).0
not_migrated_is_so (at.Purge pk upto tombs) (reply.Found found) a p q retired k know asks means e = absurd (subst (λ x. PairMeans x (reply.Found found) p q) asks means).0
not_migrated_is_so (at.Purge pk upto tombs) (reply.Applied tags) a p q retired k know asks means e = absurd ((going (after_write (at.Purge pk upto tombs))).1 k e)
not_migrated_is_so (at.Purge pk upto tombs) (reply.Unmet index) a p q retired k know asks means e = absurd ((going (after_unmet (at.Purge pk upto tombs))).1 k e)
not_migrated_is_so (at.Purge pk upto tombs) reply.SealedOff a p q retired k know asks means e = absurd ((going (after_unmet (at.Purge pk upto tombs))).1 k e)
not_migrated_is_so (at.Purge pk upto tombs) reply.SealDone a p q retired k know asks means e = absurd (subst (λ x. PairMeans x reply.SealDone p q) asks means).0
not_migrated_is_so (at.Rows pk) (reply.Next next) a p q retired k know asks means e = absurd (subst (λ x. PairMeans x (reply.Next next) p q) asks means).0
not_migrated_is_so (at.Rows pk) (reply.Found found) a p q retired k know asks means e = absurd ((going (read_old pk found.rows found.more (row_in found.named marker_key))).1 k e)
not_migrated_is_so (at.Rows pk) (reply.Applied tags) a p q retired k know asks means e = absurd (subst (λ x. PairMeans x (reply.Applied tags) p q) asks means).0
not_migrated_is_so (at.Rows pk) (reply.Unmet index) a p q retired k know asks means e = absurd (subst (λ x. PairMeans x (reply.Unmet index) p q) asks means).0
not_migrated_is_so (at.Rows pk) reply.SealedOff a p q retired k know asks means e = absurd (subst (λ x. PairMeans x reply.SealedOff p q) asks means).0
not_migrated_is_so (at.Rows pk) reply.SealDone a p q retired k know asks means e = absurd (subst (λ x. PairMeans x reply.SealDone p q) asks means).0
not_migrated_is_so (at.Drop pk marker rows more) (reply.Next next) a p q retired k know asks means e = absurd (subst (λ x. PairMeans x (reply.Next next) p q) asks means).0
not_migrated_is_so (at.Drop pk marker rows more) (reply.Found found) a p q retired k know asks means e = absurd (subst (λ x. PairMeans x (reply.Found found) p q) asks means).0
not_migrated_is_so (at.Drop pk marker rows more) (reply.Applied tags) a p q retired k know asks means e = absurd ((going (after_write (at.Drop pk marker rows more))).1 k e)
not_migrated_is_so (at.Drop pk marker rows more) (reply.Unmet index) a p q retired k know asks means e = absurd ((going (after_unmet (at.Drop pk marker rows more))).1 k e)
not_migrated_is_so (at.Drop pk marker rows more) reply.SealedOff a p q retired k know asks means e = absurd ((going (after_unmet (at.Drop pk marker rows more))).1 k e)
not_migrated_is_so (at.Drop pk marker rows more) reply.SealDone a p q retired k know asks means e = absurd (subst (λ x. PairMeans x reply.SealDone p q) asks means).0
not_migrated_is_so at.Done r a p q retired k know asks means e = absurd asks

none_there : (n : NewState) → is_there NoOld n ≡ true → is_use_new n ≡ true
none_there NoNew h = absurd (let x = h in cc)
none_there AtFilling h = absurd (let x = h in cc)
none_there AtUseNew h = refl
none_there BadNew h = absurd (let x = h in cc)

-- that cannot be where each partition of old is in new alone
pub none_unmigrated : (p : Pair) (pk : List ℕ) → KnowsSwept p None → IsUnmigrated p pk → ⊥
none_unmigrated p pk swept h = (let x : true ≡ false = sym (go (old_at p pk marker_key) refl) ∙ h.1 in cc) where
  go : (x : Option Stored) → old_at p pk marker_key ≡ x → is_use_new (new_state_at p pk) ≡ true
  go (Some r) e = swept.moved pk tt (ap is_some e)
  go None e = none_there (new_state_at p pk) (subst (λ x. is_there (old_state x) (new_state_at p pk) ≡ true) e h.0)

-- ---- done

phase_not_done : (pk : List ℕ) (upto : Option (List ℕ)) (rows tombs : List StoredRow) → says_done (progress_at (purge_or_on pk upto tombs)) ≡ true → ⊥
phase_not_done pk None rows [] e = (let x = e in cc)
phase_not_done pk (Some rk) rows [] e = (let x = e in cc)
phase_not_done pk upto rows (tomb ∷ tombs) e = (let x = e in cc)

new_not_done : (pk : List ℕ) (upto : Option (List ℕ)) (rows : List StoredRow) (phase : Option NewPhase) → says_done (said_of (by_new_phase pk upto rows phase)) ≡ true → ⊥
new_not_done pk upto rows (Some UseNew) e = phase_not_done pk upto rows (tombs_of rows) e
new_not_done pk upto rows (Some Filling) e = (let x = e in cc)
new_not_done pk upto rows None e = (let x = e in cc)

marker_not_done : (pk : List ℕ) (upto : Option (List ℕ)) (rows : List StoredRow) (m : Option StoredRow) → says_done (said_of (read_new pk upto rows m)) ≡ true → ⊥
marker_not_done pk upto rows None e = (let x = e in cc)
marker_not_done pk upto rows (Some m) e = new_not_done pk upto rows (new_phase_of m.props) e

old_not_done : (pk : List ℕ) (rows : List StoredRow) (more : Bool) (m : Option StoredRow) → says_done (progress_at (read_old pk rows more m)) ≡ true → ⊥
old_not_done pk rows more None e = (let x = e in cc)
old_not_done pk rows more (Some m) e = (let x = e in cc)

purged_not_done : (pk : List ℕ) (upto : Option (List ℕ)) → says_done (progress_at (purged pk upto)) ≡ true → ⊥
purged_not_done pk None e = (let x = e in cc)
purged_not_done pk (Some rk) e = (let x = e in cc)

dropped_not_done : (pk : List ℕ) (more : Bool) → says_done (progress_at (dropped pk more)) ≡ true → ⊥
dropped_not_done pk true e = (let x = e in cc)
dropped_not_done pk false e = (let x = e in cc)

walk_done : (sealed : Bool) (pk : Option (List ℕ)) → says_done (said_of (walked sealed pk)) ≡ true → (sealed ≡ true) × (pk ≡ None)
walk_done false pk e = absurd (let x = e in cc)
walk_done true None e = (refl, refl)
walk_done true (Some pk) e = absurd (let x = e in cc)

-- it says that it is done only where its walk has just found old sealed and empty
pub done_is_so : (state : State) (r : StoreReply) (a : StoreAsk) (p q : Pair) → Asks state a → PairMeans a r p q → says_done (said_of (lead state r)) ≡ true → (state ≡ at.Walk) × IsEmptied p
done_is_so at.Walk (reply.Next next) a p q asks means e = (let m = (subst (λ x. PairMeans x (reply.Next next) p q) asks means) in let h = walk_done next.sealed next.pk e in (refl, record { sealed = sym m.0.2 ∙ h.0; rows = λ k rk. no_partition p.old.rows k rk ((subst (λ o. IsNext (start.From []) o p.old.rows) h.1 m.0.1) k (from_start k)) }))
done_is_so at.Walk (reply.Found found) a p q asks means e = absurd (subst (λ x. PairMeans x (reply.Found found) p q) asks means).0
done_is_so at.Walk (reply.Applied tags) a p q asks means e = absurd (subst (λ x. PairMeans x (reply.Applied tags) p q) asks means).0
done_is_so at.Walk (reply.Unmet index) a p q asks means e = absurd (subst (λ x. PairMeans x (reply.Unmet index) p q) asks means).0
done_is_so at.Walk reply.SealedOff a p q asks means e = absurd (subst (λ x. PairMeans x reply.SealedOff p q) asks means).0
done_is_so at.Walk reply.SealDone a p q asks means e = absurd (subst (λ x. PairMeans x reply.SealDone p q) asks means).0
done_is_so (at.Tombs pk after) (reply.Next next) a p q asks means e = absurd (subst (λ x. PairMeans x (reply.Next next) p q) asks means).0
done_is_so (at.Tombs pk after) (reply.Found found) a p q asks means e = absurd (marker_not_done pk (read_end found.rows found.more) found.rows (row_in found.named marker_key) e)
done_is_so (at.Tombs pk after) (reply.Applied tags) a p q asks means e = absurd (subst (λ x. PairMeans x (reply.Applied tags) p q) asks means).0
done_is_so (at.Tombs pk after) (reply.Unmet index) a p q asks means e = absurd (subst (λ x. PairMeans x (reply.Unmet index) p q) asks means).0
done_is_so (at.Tombs pk after) reply.SealedOff a p q asks means e = absurd (subst (λ x. PairMeans x reply.SealedOff p q) asks means).0
done_is_so (at.Tombs pk after) reply.SealDone a p q asks means e = absurd (subst (λ x. PairMeans x reply.SealDone p q) asks means).0
done_is_so (at.Purge pk upto tombs) (reply.Next next) a p q asks means e = absurd (subst (λ x. PairMeans x (reply.Next next) p q) asks means).0
done_is_so (at.Purge pk upto tombs) (reply.Found found) a p q asks means e = absurd (subst (λ x. PairMeans x (reply.Found found) p q) asks means).0
done_is_so (at.Purge pk upto tombs) (reply.Applied tags) a p q asks means e = absurd (purged_not_done pk upto e)
done_is_so (at.Purge pk upto tombs) (reply.Unmet index) a p q asks means e = absurd (let x = e in cc)
done_is_so (at.Purge pk upto tombs) reply.SealedOff a p q asks means e = absurd (let x = e in cc)
done_is_so (at.Purge pk upto tombs) reply.SealDone a p q asks means e = absurd (subst (λ x. PairMeans x reply.SealDone p q) asks means).0
done_is_so (at.Rows pk) (reply.Next next) a p q asks means e = absurd (subst (λ x. PairMeans x (reply.Next next) p q) asks means).0
done_is_so (at.Rows pk) (reply.Found found) a p q asks means e = absurd (old_not_done pk found.rows found.more (row_in found.named marker_key) e)
done_is_so (at.Rows pk) (reply.Applied tags) a p q asks means e = absurd (subst (λ x. PairMeans x (reply.Applied tags) p q) asks means).0
done_is_so (at.Rows pk) (reply.Unmet index) a p q asks means e = absurd (subst (λ x. PairMeans x (reply.Unmet index) p q) asks means).0
done_is_so (at.Rows pk) reply.SealedOff a p q asks means e = absurd (subst (λ x. PairMeans x reply.SealedOff p q) asks means).0
done_is_so (at.Rows pk) reply.SealDone a p q asks means e = absurd (subst (λ x. PairMeans x reply.SealDone p q) asks means).0
done_is_so (at.Drop pk marker rows more) (reply.Next next) a p q asks means e = absurd (subst (λ x. PairMeans x (reply.Next next) p q) asks means).0
done_is_so (at.Drop pk marker rows more) (reply.Found found) a p q asks means e = absurd (subst (λ x. PairMeans x (reply.Found found) p q) asks means).0
done_is_so (at.Drop pk marker rows more) (reply.Applied tags) a p q asks means e = absurd (dropped_not_done pk more e)
done_is_so (at.Drop pk marker rows more) (reply.Unmet index) a p q asks means e = absurd (let x = e in cc)
done_is_so (at.Drop pk marker rows more) reply.SealedOff a p q asks means e = absurd (let x = e in cc)
done_is_so (at.Drop pk marker rows more) reply.SealDone a p q asks means e = absurd (subst (λ x. PairMeans x reply.SealDone p q) asks means).0
done_is_so at.Done r a p q asks means e = absurd asks

found_none : (p : Pair) (pk : Option (List ℕ)) → IsEmptied p → IsNext (start.From []) pk p.old.rows → pk ≡ None
found_none p None h next = refl
found_none p (Some pk) h next = absurd (let x = row_of_partition p.old.rows pk next.1 in let y : None ≡ Some x.1 = sym (h.rows pk x.0) ∙ x.2 in cc)

-- and wherever it finds that
pub emptied_is_told : (r : StoreReply) (a : StoreAsk) (p q : Pair) → Asks at.Walk a → PairMeans a r p q → IsEmptied p → says_done (said_of (lead at.Walk r)) ≡ true
emptied_is_told (reply.Next next) a p q asks means h = (let m = (subst (λ x. PairMeans x (reply.Next next) p q) asks means) in ap (λ b. says_done (said_of (walked b next.pk))) (m.0.2 ∙ h.sealed) ∙ ap (λ o. says_done (said_of (walked true o))) (found_none p next.pk h m.0.1))
emptied_is_told (reply.Found found) a p q asks means h = absurd (subst (λ x. PairMeans x (reply.Found found) p q) asks means).0
emptied_is_told (reply.Applied tags) a p q asks means h = absurd (subst (λ x. PairMeans x (reply.Applied tags) p q) asks means).0
emptied_is_told (reply.Unmet index) a p q asks means h = absurd (subst (λ x. PairMeans x (reply.Unmet index) p q) asks means).0
emptied_is_told reply.SealedOff a p q asks means h = absurd (subst (λ x. PairMeans x reply.SealedOff p q) asks means).0
emptied_is_told reply.SealDone a p q asks means h = absurd (subst (λ x. PairMeans x reply.SealDone p q) asks means).0
