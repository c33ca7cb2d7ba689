-- A cleaner that acts alone comes nearer to its end with each step.
use Rattle.std.proofs.Common.{◌≡◌, ℕ, ◌+◌, ◌*◌, ◌≤◌, Bool, true, false, cond, not, ◌&&◌, nat_lt, List, [], ◌∷◌, take, filter, length, Option, Some, None, refl, sym, ap, subst, ◌∙◌, arith, bytes_eq, ◌==◌}
use Rattle.std.specs.Prelude.{option_map}
use Rattle.std.proofs.lemmas.Bool.{and_parts}
use Rattle.std.proofs.lemmas.Bool.Decides.{nat_tests}
use Rattle.std.specs.List.{AllByRecursion}
use Rattle.mt_model.specs.declared.tag.Tag.{Tag}
use Rattle.mt_chain.specs.declared.ask.StoreAsk.{StoreAsk}
use Rattle.mt_chain.specs.declared.ask.StoreReply.{StoreReply}
use Rattle.mt_chain.specs.declared.ask.StoreReply.TheVariants as reply
use Rattle.mt_chain.specs.declared.query.Found.{Found}
use Rattle.mt_chain.specs.declared.query.PkFrom.TheVariants as start
use Rattle.mt_chain.specs.declared.row.Stored.{Stored}
use Rattle.mt_chain.specs.declared.row.StoredRow.{StoredRow}
use Rattle.mt_chain.specs.Rows.{Rows, row_at, row_in, last_key, read_end, shown, are_rising, has_partition, is_within, rows_within}
use Rattle.mt_chain.specs.declared.row.Put.{Put}
use Rattle.mt_chain.specs.Puts.{is_same_tag, has_tag, unmet_from}
use Rattle.mt_chain.specs.StoreCall.{Contents, is_sealed_off, IsFound, IsNext}
use Rattle.mt_chain.proofs.KeyLaws.{text_true}
use Rattle.mt_chain.proofs.RowLaws.{has_its_partition, row_of_partition}
use Rattle.mt_chain.proofs.PutLaws.{Each, Held, each_held, all_hold}
use Rattle.mt_chain.proofs.JudgeLaws.{was_done, was_unmet, was_sealed_off, sealed_off_parts, contents_after}
use Rattle.mt_chain.proofs.RangeRows.{Entry, IsRowOf, members, all_taken, rising_within}
use Rattle.mt_meta.specs.declared.marker.NewPhase.{NewPhase}
use Rattle.mt_meta.specs.declared.marker.NewPhase.TheVariants.{Filling, UseNew}
use Rattle.mt_meta.specs.Markers.{marker_key, new_phase_of}
use Rattle.mt_meta.specs.Logical.{Pair, old_at, new_at}
use Rattle.mt_meta.specs.Sound.{IsSound}
use Rattle.mt_meta.specs.Steps.{AllHold, with_old, with_new, PairMeans}
use Rattle.mt_meta.proofs.Rules.{new_read}
use Rattle.mt_meta.proofs.Growth.{no_rows}
use Rattle.mt_meta.proofs.ReadLaws.{marker_read}
use Rattle.mt_meta.proofs.StorePuts.{tagged}
use Rattle.mt_clean.specs.declared.state.State.{State}
use Rattle.mt_clean.specs.declared.state.State.TheVariants as at
use Rattle.mt_clean.specs.declared.cleaner.CleanProgress.TheVariants as progress
use Rattle.mt_clean.specs.Cleanings.{is_data, is_tombstone, data_rows, tombs_of, next_rows, deletes_of, marker_put, Asks, walked, purged, purge_or_on, by_new_phase, read_new, read_old, dropped, lead, state_of, said_of, AreDropped, CleanerFits}
use Rattle.mt_clean.specs.Known.{state_facts}
use Rattle.mt_clean.specs.StepsLeft.{unread_rows, steps_left, Stands}
use Rattle.mt_clean.proofs.Changes.{all_gone, thin_marker}
use Rattle.mt_clean.proofs.Counts.{fewer, all_of, deletes_less, in_range, unread_less, unread_deletes, deletes_bear_none, split_shared, thin_count, some_data}

-- what a step leaves: the rows in hand stand, and fewer steps are left
pub record Nears (p q : Pair) (state to : State) : Type 0 where
  pub stands : Stands q to
  pub less : steps_left to q + 1 ≤ steps_left state p

-- ---- the walk

walk_nears : (p : Pair) (sealed : Bool) (pk : Option (List ℕ)) → IsNext (start.From []) pk p.old.rows → said_of (walked sealed pk) ≡ progress.More → Nears p p at.Walk (state_of (walked sealed pk))
walk_nears p false pk next said = absurd (let x = said in cc)
walk_nears p true None next said = absurd (let x = said in cc)
walk_nears p true (Some pk) next said = record {
  stands = next.1;
  less = (let x = split_shared p.new.rows p.old.rows pk next.1 in omega (arith, x));
}

-- ---- a read of new

same_itself : (t : Tag) → is_same_tag t t ≡ true
same_itself t = both (t.store == t.store) (t.n == t.n) (grind (arith, nat_tests)) (grind (arith, nat_tests)) where
  both : (a b : Bool) → a ≡ true → b ≡ true → (a && b) ≡ true
  both a b ha hb = ap (λ x. x && b) ha ∙ hb

-- rows that were read stand
rows_held : (rows : Rows) (pk : List ℕ) (read : List StoredRow) → AllByRecursion (IsRowOf rows pk) read → Each (Held rows pk) (deletes_of read)
rows_held rows pk [] h = tt
rows_held rows pk (r ∷ read) h = (one h.0.row h.0.there h.0.tag, rows_held rows pk read h.1) where
  one : (s : Stored) → row_at rows pk r.rk ≡ Some s → s.tag ≡ r.tag → has_tag r.tag (row_at rows pk r.rk) ≡ true
  one s is tag = ap (has_tag r.tag) is ∙ ap (is_same_tag r.tag) tag ∙ same_itself r.tag

kept_are : (rows : Rows) (pk : List ℕ) (test : StoredRow → Bool) (read : List StoredRow) → AllByRecursion (IsRowOf rows pk) read → AllByRecursion (IsRowOf rows pk) (filter test read)
kept_are rows pk test [] h = tt
kept_are rows pk test (r ∷ read) h = go (test r) (kept_are rows pk test read h.1) where
  go : (b : Bool) → AllByRecursion (IsRowOf rows pk) (filter test read) → AllByRecursion (IsRowOf rows pk) (cond b (r ∷ filter test read) (filter test read))
  go true rest = (h.0, rest)
  go false rest = rest

ends_at : (rows : List StoredRow) (more : Bool) (rk : List ℕ) → read_end rows more ≡ Some rk → last_key rows ≡ Some rk
ends_at rows true rk e = e
ends_at rows false rk e = absurd (let x = e in cc)

-- what a reading of new says of what is left
module _ (p : Pair) (pk : List ℕ) (after : Option (List ℕ)) (found : Found) (s : IsSound p) (there : has_partition p.old.rows pk ≡ true) (rise : are_rising p.new.rows ≡ true)
    (is : found.rows ≡ take 100 (rows_within p.new.rows pk (next_rows after))) where
  read_are : AllByRecursion (IsRowOf p.new.rows pk) found.rows
  read_are = subst (AllByRecursion (IsRowOf p.new.rows pk)) (sym is) (all_taken (IsRowOf p.new.rows pk) 100 _ (members p.new.rows pk (next_rows after) rise))

  read_within : AllByRecursion (λ r. is_within (next_rows after) r.rk ≡ true) found.rows
  read_within = subst (AllByRecursion (λ r. is_within (next_rows after) r.rk ≡ true)) (sym is) (all_taken (λ r. is_within (next_rows after) r.rk ≡ true) 100 _ (in_range p.new.rows pk (next_rows after)))

  tombs_met : unmet_from 0 p.new.rows pk (deletes_of (tombs_of found.rows)) ≡ None
  tombs_met = all_hold 0 p.new.rows pk (deletes_of (tombs_of found.rows)) (rows_held p.new.rows pk (tombs_of found.rows) (kept_are p.new.rows pk is_tombstone found.rows read_are))

  less_unread : (rk : List ℕ) → read_end found.rows found.more ≡ Some rk → unread_rows pk (Some rk) p + 1 ≤ unread_rows pk after p
  less_unread rk e = unread_less p.new.rows pk after rk found.rows read_are read_within (ends_at found.rows found.more rk e)

  purge_nears : (upto : Option (List ℕ)) (tombs : List StoredRow) → read_end found.rows found.more ≡ upto → tombs_of found.rows ≡ tombs → Nears p p (at.Tombs pk after) (purge_or_on pk upto tombs)
  purge_nears None [] e t = record { stands = there; less = omega arith }
  purge_nears (Some rk) [] e t = record { stands = there; less = (let x = less_unread rk e in omega (arith, x)) }
  purge_nears None (tomb ∷ tombs) e t = record { stands = (there, subst (λ l. unmet_from 0 p.new.rows pk (deletes_of l) ≡ None) t tombs_met); less = omega arith }
  purge_nears (Some rk) (tomb ∷ tombs) e t = record { stands = (there, subst (λ l. unmet_from 0 p.new.rows pk (deletes_of l) ≡ None) t tombs_met); less = (let x = less_unread rk e in omega (arith, x)) }

  phase_nears : (r : Stored) (phase : Option NewPhase) → new_at p pk marker_key ≡ Some r → new_phase_of r.props ≡ phase → said_of (by_new_phase pk (read_end found.rows found.more) found.rows phase) ≡ progress.More
      → Nears p p (at.Tombs pk after) (state_of (by_new_phase pk (read_end found.rows found.more) found.rows phase))
  phase_nears r (Some UseNew) at_marker reads said = purge_nears (read_end found.rows found.more) (tombs_of found.rows) refl refl
  phase_nears r (Some Filling) at_marker reads said = absurd (let x = said in cc)
  phase_nears r None at_marker reads said =
      let m = (s.forms.1.markers pk r at_marker).0 in
      absurd (let x : None ≡ Some m.0 = sym reads ∙ ap new_phase_of m.1 ∙ new_read m.0 in cc)

  marker_nears : (x : Option Stored) → new_at p pk marker_key ≡ x → said_of (read_new pk (read_end found.rows found.more) found.rows (option_map (shown marker_key) x)) ≡ progress.More
      → Nears p p (at.Tombs pk after) (state_of (read_new pk (read_end found.rows found.more) found.rows (option_map (shown marker_key) x)))
  marker_nears None at_marker said = absurd (let x = said in cc)
  marker_nears (Some r) at_marker said = phase_nears r (new_phase_of r.props) at_marker refl said

tombs_near : (p : Pair) (pk : List ℕ) (after : Option (List ℕ)) (found : Found) → IsSound p → has_partition p.old.rows pk ≡ true → are_rising p.new.rows ≡ true → IsFound (record { pk = pk; named = marker_key ∷ []; range = Some (next_rows after) }) found p.new
    → said_of (read_new pk (read_end found.rows found.more) found.rows (row_in found.named marker_key)) ≡ progress.More
    → Nears p p (at.Tombs pk after) (state_of (read_new pk (read_end found.rows found.more) found.rows (row_in found.named marker_key)))
tombs_near p pk after found s there rise is said =
    let reads = ap (λ rows. row_in rows marker_key) is.named ∙ marker_read p.new.rows pk in
    subst (λ m. Nears p p (at.Tombs pk after) (state_of (read_new pk (read_end found.rows found.more) found.rows m))) (sym reads)
    (marker_nears p pk after found s there rise is.rows (new_at p pk marker_key) refl (subst (λ m. said_of (read_new pk (read_end found.rows found.more) found.rows m) ≡ progress.More) reads said))

-- ---- tombstones go

purged_nears : (p : Pair) (pk : List ℕ) (upto : Option (List ℕ)) (tombs : List StoredRow) → Stands p (at.Purge pk upto tombs) → Nears p (with_new p (contents_after p.new_number p.new pk (deletes_of tombs))) (at.Purge pk upto tombs) (purged pk upto)
purged_nears p pk None tombs h = record {
  stands = h.0;
  less = (let x = deletes_less (λ e. not (bytes_eq pk e.0.pk) && has_partition p.old.rows e.0.pk) p.new_number p.new.counter pk tombs p.new.rows in omega (arith, x));
}
purged_nears p pk (Some rk) tombs h = record {
  stands = h.0;
  less = (
      let x = deletes_less (λ e. not (bytes_eq pk e.0.pk) && has_partition p.old.rows e.0.pk) p.new_number p.new.counter pk tombs p.new.rows in
      let y = unread_deletes p.new_number p.new.counter pk (Some rk) tombs p.new.rows in omega (arith, x, y)
      );
}

-- ---- a read of old

old_marker : (p : Pair) (pk : List ℕ) → IsSound p → has_partition p.old.rows pk ≡ true → old_at p pk marker_key ≡ None → ⊥
old_marker p pk s there none = (let x = row_of_partition p.old.rows pk there in let y : None ≡ Some x.1 = sym (no_rows p s pk none x.0) ∙ x.2 in cc)

marker_held : (p : Pair) (pk : List ℕ) (r : Stored) (more : Bool) (dead : List StoredRow) → old_at p pk marker_key ≡ Some r → Each (Held p.old.rows pk) (deletes_of dead) → unmet_from 0 p.old.rows pk (marker_put r.tag more ∷ deletes_of dead) ≡ None
marker_held p pk r true dead is held = all_hold 0 p.old.rows pk (marker_put r.tag true ∷ deletes_of dead) (ap (has_tag r.tag) is ∙ same_itself r.tag, held)
marker_held p pk r false dead is held = all_hold 0 p.old.rows pk (marker_put r.tag false ∷ deletes_of dead) (ap (has_tag r.tag) is ∙ same_itself r.tag, held)

old_nears : (p : Pair) (pk : List ℕ) (found : Found) (x : Option Stored) → IsSound p → has_partition p.old.rows pk ≡ true → are_rising p.old.rows ≡ true
    → found.rows ≡ take 100 (rows_within p.old.rows pk (next_rows None)) → found.more ≡ nat_lt 100 (length (rows_within p.old.rows pk (next_rows None)))
    → old_at p pk marker_key ≡ x → Nears p p (at.Rows pk) (read_old pk found.rows found.more (option_map (shown marker_key) x))
old_nears p pk found None s there rise rows more is = absurd (old_marker p pk s there is)
old_nears p pk found (Some r) s there rise rows more is = record {
  stands = (
    marker_held p pk r found.more (data_rows found.rows) is
        (rows_held p.old.rows pk (data_rows found.rows) (kept_are p.old.rows pk is_data found.rows (subst (AllByRecursion (IsRowOf p.old.rows pk)) (sym rows) (all_taken (IsRowOf p.old.rows pk) 100 _ (members p.old.rows pk (next_rows None) rise))))),
    λ e. subst (λ l. 1 ≤ length (data_rows l)) (sym rows) (some_data 98 (rows_within p.old.rows pk (next_rows None)) (rising_within p.old.rows pk (next_rows None) rise) (sym more ∙ e)),
  );
  less = omega arith;
}

rows_near : (p : Pair) (pk : List ℕ) (found : Found) → IsSound p → has_partition p.old.rows pk ≡ true → are_rising p.old.rows ≡ true → IsFound (record { pk = pk; named = marker_key ∷ []; range = Some (next_rows None) }) found p.old
    → Nears p p (at.Rows pk) (read_old pk found.rows found.more (row_in found.named marker_key))
rows_near p pk found s there rise is =
    subst (λ m. Nears p p (at.Rows pk) (read_old pk found.rows found.more m)) (sym (ap (λ rows. row_in rows marker_key) is.named ∙ marker_read p.old.rows pk))
    (old_nears p pk found (old_at p pk marker_key) s there rise is.rows is.more refl)

-- ---- rows of old go

fewer_shared : (pk : List ℕ) (new before after : Rows) → ((x : List ℕ) → has_partition after x ≡ true → has_partition before x ≡ true)
    → length (filter (λ (e : Entry). not (bytes_eq pk e.0.pk) && has_partition after e.0.pk) new) ≤ length (filter (λ (e : Entry). not (bytes_eq pk e.0.pk) && has_partition before e.0.pk) new)
fewer_shared pk new before after h = fewer (λ e. not (bytes_eq pk e.0.pk) && has_partition after e.0.pk) (λ e. not (bytes_eq pk e.0.pk) && has_partition before e.0.pk) new
    (λ e x. (let y = and_parts (not (bytes_eq pk e.0.pk)) (has_partition after e.0.pk) x in ap (λ b. b && has_partition before e.0.pk) y.0 ∙ h e.0.pk y.1))

none_there : (rows : Rows) (pk : List ℕ) → ((rk : List ℕ) → row_at rows pk rk ≡ None) → has_partition rows pk ≡ false
none_there rows pk none = go (has_partition rows pk) refl where
  go : (b : Bool) → has_partition rows pk ≡ b → b ≡ false
  go false e = refl
  go true e = absurd (let x = row_of_partition rows pk e in let y : None ≡ Some x.1 = sym (none x.0) ∙ x.2 in cc)

-- a partition that has gone shares no rows
gone_shared : (pk : List ℕ) (new before after : Rows) → ((x : List ℕ) → has_partition after x ≡ true → has_partition before x ≡ true) → has_partition after pk ≡ false
    → length (filter (λ (e : Entry). has_partition after e.0.pk) new) ≤ length (filter (λ (e : Entry). not (bytes_eq pk e.0.pk) && has_partition before e.0.pk) new)
gone_shared pk new before after h gone = fewer (λ e. has_partition after e.0.pk) (λ e. not (bytes_eq pk e.0.pk) && has_partition before e.0.pk) new
    (λ e x. ap (λ b. not b && has_partition before e.0.pk) (other e.0.pk x (bytes_eq pk e.0.pk) refl) ∙ h e.0.pk x) where
      other : (k : List ℕ) → has_partition after k ≡ true → (b : Bool) → bytes_eq pk k ≡ b → b ≡ false
      other k x false e = refl
      other k x true e = absurd (let y : true ≡ false = sym x ∙ ap (has_partition after) (sym (text_true pk k e)) ∙ gone in cc)

drop_nears : (p : Pair) (pk : List ℕ) (marker : Tag) (rows : List StoredRow) (more : Bool) → IsSound p → AreDropped rows → (retired : Bool) → AllHold p retired (state_facts (at.Drop pk marker rows more)) → Stands p (at.Drop pk marker rows more)
    → Nears p (with_old p (contents_after p.old_number p.old pk (marker_put marker more ∷ deletes_of rows))) (at.Drop pk marker rows more) (dropped pk more)
drop_nears p pk marker rows true s fits retired know h =
    let held = each_held 0 p.old.rows pk (marker_put marker true ∷ deletes_of rows) h.0 in
    let m = tagged (old_at p pk marker_key) marker held.0 in
    record {
      stands = has_its_partition _ pk marker_key m.0 (thin_marker [] p pk marker rows s know.1.1.0.moved fits ∙ m.1);
      less = (
          let x = thin_count p.old_number p.old.counter pk rows p.old.rows (h.1 refl) held.1 in
          let y = fewer_shared pk p.new.rows p.old.rows _ (deletes_bear_none p.old_number p.old.counter pk rows p.old.rows) in omega (arith, x, y)
          );
    }
drop_nears p pk marker rows false s fits retired know h =
    let held = each_held 0 p.old.rows pk (marker_put marker false ∷ deletes_of rows) h.0 in
    let all : List StoredRow = record { rk = marker_key; props = []; tag = marker } ∷ rows in
    let gone = none_there _ pk (all_gone [] p pk marker rows s know.1.0.sealed know.1.1.0) in
    record {
      stands = tt;
      less = (
          let x = thin_count p.old_number p.old.counter pk all p.old.rows (omega arith) held in
          let y = gone_shared pk p.new.rows p.old.rows _ (deletes_bear_none p.old_number p.old.counter pk all p.old.rows) gone in omega (arith, x, y)
          );
    }

-- ---- puts that stand are made

not_unmet : (c : Contents) (pk : List ℕ) (puts : List Put) (index : ℕ) → unmet_from 0 c.rows pk puts ≡ None → unmet_from 0 c.rows pk puts ≡ Some index → ⊥
not_unmet c pk puts index met unmet = (let x : None ≡ Some index = sym met ∙ unmet in cc)

new_allowed : (p : Pair) (pk : List ℕ) → IsSound p → is_sealed_off p.new pk ≡ true → ⊥
new_allowed p pk s off = (let x : true ≡ false = sym (sealed_off_parts p.new pk off).0 ∙ s.unsealed in cc)

old_allowed : (p : Pair) (pk : List ℕ) (marker : Tag) (rows : List StoredRow) (more : Bool) → Stands p (at.Drop pk marker rows more) → is_sealed_off p.old pk ≡ true → ⊥
old_allowed p pk marker rows more h off = go more h.0 where
  by_row : has_tag marker (old_at p pk marker_key) ≡ true → ⊥
  by_row held =
      let m = tagged (old_at p pk marker_key) marker held in
      let x : true ≡ false = sym (has_its_partition p.old.rows pk marker_key m.0 m.1) ∙ (sealed_off_parts p.old pk off).1 in cc

  go : (b : Bool) → unmet_from 0 p.old.rows pk (marker_put marker b ∷ deletes_of rows) ≡ None → ⊥
  go true met = by_row (each_held 0 p.old.rows pk (marker_put marker true ∷ deletes_of rows) met).0
  go false met = by_row (each_held 0 p.old.rows pk (marker_put marker false ∷ deletes_of rows) met).0

-- ---- a step

same_old : (p q : Pair) (state to : State) → q.old ≡ p.old → q ≡ with_old p q.old → Nears p p state to → Nears p q state to
same_old p q state to same is h = subst (λ x. Nears p x state to) (sym (is ∙ ap (with_old p) same)) h

same_new : (p q : Pair) (state to : State) → q.new ≡ p.new → q ≡ with_new p q.new → Nears p p state to → Nears p q state to
same_new p q state to same is h = subst (λ x. Nears p x state to) (sym (is ∙ ap (with_new p) same)) h

-- a step that is made alone, after which the cleaner goes on
pub nears_end : (state : State) (r : StoreReply) (a : StoreAsk) (p q : Pair) (retired : Bool) → CleanerFits state → IsSound p → are_rising p.old.rows ≡ true → are_rising p.new.rows ≡ true → AllHold p retired (state_facts state) → Stands p state → Asks state a → PairMeans a r p q
    → said_of (lead state r) ≡ progress.More → Nears p q state (state_of (lead state r))
nears_end at.Walk (reply.Next next) a p q retired fits s old new know stands asks means said = (let m = (subst (λ x. PairMeans x (reply.Next next) p q) asks means) in same_old p q at.Walk (state_of (walked next.sealed next.pk)) m.0.0 m.1 (walk_nears p next.sealed next.pk m.0.1 said))
nears_end at.Walk (reply.Found found) a p q retired fits s old new know stands asks means said = absurd (subst (λ x. PairMeans x (reply.Found found) p q) asks means).0
nears_end at.Walk (reply.Applied tags) a p q retired fits s old new know stands asks means said = absurd (subst (λ x. PairMeans x (reply.Applied tags) p q) asks means).0
nears_end at.Walk (reply.Unmet index) a p q retired fits s old new know stands asks means said = absurd (subst (λ x. PairMeans x (reply.Unmet index) p q) asks means).0
nears_end at.Walk reply.SealedOff a p q retired fits s old new know stands asks means said = absurd (subst (λ x. PairMeans x reply.SealedOff p q) asks means).0
nears_end at.Walk reply.SealDone a p q retired fits s old new know stands asks means said = absurd (subst (λ x. PairMeans x reply.SealDone p q) asks means).0
nears_end (at.Tombs pk after) (reply.Next next) a p q retired fits s old new know stands asks means said = absurd (subst (λ x. PairMeans x (reply.Next next) p q) asks means).0
nears_end (at.Tombs pk after) (reply.Found found) a p q retired fits s old new know stands asks means said = (let m = (subst (λ x. PairMeans x (reply.Found found) p q) asks means) in same_new p q (at.Tombs pk after) _ m.0.0 m.1 (tombs_near p pk after found s stands new m.0.1 said))
nears_end (at.Tombs pk after) (reply.Applied tags) a p q retired fits s old new know stands asks means said = absurd (subst (λ x. PairMeans x (reply.Applied tags) p q) asks means).0
nears_end (at.Tombs pk after) (reply.Unmet index) a p q retired fits s old new know stands asks means said = absurd (subst (λ x. PairMeans x (reply.Unmet index) p q) asks means).0
nears_end (at.Tombs pk after) reply.SealedOff a p q retired fits s old new know stands asks means said = absurd (subst (λ x. PairMeans x reply.SealedOff p q) asks means).0
nears_end (at.Tombs pk after) reply.SealDone a p q retired fits s old new know stands asks means said = absurd (subst (λ x. PairMeans x reply.SealDone p q) asks means).0
nears_end (at.Purge pk upto tombs) (reply.Next next) a p q retired fits s old new know stands asks means said = absurd (subst (λ x. PairMeans x (reply.Next next) p q) asks means).0
nears_end (at.Purge pk upto tombs) (reply.Found found) a p q retired fits s old new know stands asks means said = absurd (subst (λ x. PairMeans x (reply.Found found) p q) asks means).0
nears_end (at.Purge pk upto tombs) (reply.Applied tags) a p q retired fits s old new know stands asks means said = (let m = (subst (λ x. PairMeans x (reply.Applied tags) p q) asks means) in let d = was_done p.new_number p.new pk (deletes_of tombs) q.new tags m.0.0 in subst (λ x. Nears p x (at.Purge pk upto tombs) (purged pk upto)) (sym (m.1 ∙ ap (with_new p) d.contents)) (purged_nears p pk upto tombs stands))
nears_end (at.Purge pk upto tombs) (reply.Unmet index) a p q retired fits s old new know stands asks means said = (let m = (subst (λ x. PairMeans x (reply.Unmet index) p q) asks means) in absurd (not_unmet p.new pk (deletes_of tombs) index stands.1 (was_unmet p.new_number p.new pk (deletes_of tombs) index m.0.0).unmet))
nears_end (at.Purge pk upto tombs) reply.SealedOff a p q retired fits s old new know stands asks means said = (let m = (subst (λ x. PairMeans x reply.SealedOff p q) asks means) in absurd (new_allowed p pk s (was_sealed_off p.new_number p.new pk (deletes_of tombs) m.0.0)))
nears_end (at.Purge pk upto tombs) reply.SealDone a p q retired fits s old new know stands asks means said = absurd (subst (λ x. PairMeans x reply.SealDone p q) asks means).0
nears_end (at.Rows pk) (reply.Next next) a p q retired fits s old new know stands asks means said = absurd (subst (λ x. PairMeans x (reply.Next next) p q) asks means).0
nears_end (at.Rows pk) (reply.Found found) a p q retired fits s old new know stands asks means said = (let m = (subst (λ x. PairMeans x (reply.Found found) p q) asks means) in same_old p q (at.Rows pk) _ m.0.0 m.1 (rows_near p pk found s stands old m.0.1))
nears_end (at.Rows pk) (reply.Applied tags) a p q retired fits s old new know stands asks means said = absurd (subst (λ x. PairMeans x (reply.Applied tags) p q) asks means).0
nears_end (at.Rows pk) (reply.Unmet index) a p q retired fits s old new know stands asks means said = absurd (subst (λ x. PairMeans x (reply.Unmet index) p q) asks means).0
nears_end (at.Rows pk) reply.SealedOff a p q retired fits s old new know stands asks means said = absurd (subst (λ x. PairMeans x reply.SealedOff p q) asks means).0
nears_end (at.Rows pk) reply.SealDone a p q retired fits s old new know stands asks means said = absurd (subst (λ x. PairMeans x reply.SealDone p q) asks means).0
nears_end (at.Drop pk marker rows more) (reply.Next next) a p q retired fits s old new know stands asks means said = absurd (subst (λ x. PairMeans x (reply.Next next) p q) asks means).0
nears_end (at.Drop pk marker rows more) (reply.Found found) a p q retired fits s old new know stands asks means said = absurd (subst (λ x. PairMeans x (reply.Found found) p q) asks means).0
nears_end (at.Drop pk marker rows more) (reply.Applied tags) a p q retired fits s old new know stands asks means said = (let m = (subst (λ x. PairMeans x (reply.Applied tags) p q) asks means) in let d = was_done p.old_number p.old pk (marker_put marker more ∷ deletes_of rows) q.old tags m.0.0 in subst (λ x. Nears p x (at.Drop pk marker rows more) (dropped pk more)) (sym (m.1 ∙ ap (with_old p) d.contents)) (drop_nears p pk marker rows more s fits retired know stands))
nears_end (at.Drop pk marker rows more) (reply.Unmet index) a p q retired fits s old new know stands asks means said = (let m = (subst (λ x. PairMeans x (reply.Unmet index) p q) asks means) in absurd (not_unmet p.old pk (marker_put marker more ∷ deletes_of rows) index stands.0 (was_unmet p.old_number p.old pk (marker_put marker more ∷ deletes_of rows) index m.0.0).unmet))
nears_end (at.Drop pk marker rows more) reply.SealedOff a p q retired fits s old new know stands asks means said = (let m = (subst (λ x. PairMeans x reply.SealedOff p q) asks means) in absurd (old_allowed p pk marker rows more stands (was_sealed_off p.old_number p.old pk (marker_put marker more ∷ deletes_of rows) m.0.0)))
nears_end (at.Drop pk marker rows more) reply.SealDone a p q retired fits s old new know stands asks means said = absurd (subst (λ x. PairMeans x reply.SealDone p q) asks means).0
nears_end at.Done r a p q retired fits s old new know stands asks means said = absurd asks

-- at its beginning a cleaner has at most five steps for each row of the two stores, and four
pub begins_within : (p : Pair) → steps_left at.Walk p ≤ 5 * (length p.old.rows + length p.new.rows) + 4
begins_within p = (let x = fewer (λ e. has_partition p.old.rows e.0.pk) (λ e. true) p.new.rows (λ e h. refl) in let y = ap length (all_of p.new.rows) in omega (arith, x, y))
