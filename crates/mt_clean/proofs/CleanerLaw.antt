-- A step of a cleaner, over two told stores that are a sound pair.
use Rattle.std.proofs.Common.{◌≡◌, ◌≢◌, ◌⊎◌, ℕ, Bool, true, false, cond, not, ◌&&◌, nat_lt, List, [], ◌∷◌, take, length, Option, Some, None, refl, sym, ap, subst, ◌∙◌, arith, inl, inr, Less, Equal, Greater, Ordering}
use Rattle.std.specs.Prelude.{option_map, Ok}
use Rattle.std.specs.List.{AllByRecursion}
use Rattle.std.specs.Ordering.{nat_cmp, is_le, is_lt, ordering_reverse}
use Rattle.std.specs.Cmp.Lexicographic.{slice_cmp, nat_list_cmp_total}
use Rattle.mt_model.specs.declared.tag.Tag.{Tag}
use Rattle.mt_chain.specs.declared.ask.Side.TheVariants.{New}
use Rattle.mt_chain.specs.declared.ask.StoreAsk.{StoreAsk}
use Rattle.mt_chain.specs.declared.ask.StoreReply.{StoreReply}
use Rattle.mt_chain.specs.declared.ask.StoreReply.TheVariants as reply
use Rattle.mt_chain.specs.declared.query.PkFrom.TheVariants as start
use Rattle.mt_chain.specs.declared.query.RkFrom.TheVariants.{Start}
use Rattle.mt_chain.specs.declared.query.Found.{Found}
use Rattle.mt_chain.specs.declared.row.Stored.{Stored}
use Rattle.mt_chain.specs.declared.row.StoredRow.{StoredRow}
use Rattle.mt_chain.specs.Rows.{Rows, row_at, row_in, read_end, shown, are_rising, has_partition, is_from, is_upto, rows_within}
use Rattle.mt_chain.specs.Puts.{unmet_from}
use Rattle.mt_chain.specs.StoreCall.{Contents, IsContents, IsFound, IsNext}
use Rattle.mt_chain.proofs.KeyLaws.{text_false}
use Rattle.mt_chain.proofs.RowLaws.{no_partition, row_of_partition}
use Rattle.mt_chain.proofs.JudgeLaws.{WasDone, was_done, contents_after}
use Rattle.mt_chain.proofs.TextOrder.{text_cmp}
use Rattle.mt_chain.proofs.RangeRows.{IsRowOf, members, all_taken, in_whole, rising_within, up_to_end}
use Rattle.mt_meta.specs.declared.marker.Phase.{Phase}
use Rattle.mt_meta.specs.declared.marker.Phase.TheVariants.{UseOld, PreferOld, PreferNew}
use Rattle.mt_meta.specs.declared.marker.NewPhase.{NewPhase}
use Rattle.mt_meta.specs.declared.marker.NewPhase.TheVariants.{Filling, UseNew}
use Rattle.mt_meta.specs.Markers.{marker_key, old_phase_of, new_phase_of}
use Rattle.mt_meta.specs.Marks.{mark_of}
use Rattle.mt_meta.specs.Logical.{Pair, NewState, old_says, new_says, old_state, new_state, old_at, new_at, old_state_at, new_state_at, logical}
use Rattle.mt_meta.specs.Sound.{NoTomb, IsSound}
use Rattle.mt_meta.specs.declared.fact.Keys.TheVariants as keys
use Rattle.mt_meta.specs.declared.fact.Fact.{Fact}
use Rattle.mt_meta.specs.Facts.{is_in, is_there, is_use_new, KnowsRow, KnowsClean, Holds, AllPlain}
use Rattle.mt_meta.specs.Steps.{AllHold, row_facts, with_old, with_new, PairMeans}
use Rattle.mt_meta.proofs.Growth.{grows_self, no_rows}
use Rattle.mt_meta.proofs.Parts.{by_part}
use Rattle.mt_meta.proofs.Actors.{plain_apart, plain_rows}
use Rattle.mt_meta.proofs.FactLists.{plain_kept}
use Rattle.mt_meta.proofs.ReadLaws.{row_known, marker_read}
use Rattle.mt_clean.specs.declared.state.State.{State}
use Rattle.mt_clean.specs.declared.state.State.TheVariants as at
use Rattle.mt_clean.specs.declared.cleaner.CleanProgress.{CleanProgress}
use Rattle.mt_clean.specs.Cleanings.{is_tomb, is_tombstone, data_rows, tombs_of, past, next_rows, deletes_of, marker_put, Asks, walked, purged, purge_or_on, by_new_phase, read_new, read_old, dropped, lead, state_of, Absorbs, ArePurged, AreDropped, CleanerFits}
use Rattle.mt_clean.specs.Known.{sealed_fact, found_facts, keys_of, clean_but, done_facts, clean_fact, rest_of, state_facts}
use Rattle.mt_clean.specs.CleanerSteps.{ShowsSame, retired_at, CleanerStep}
use Rattle.mt_clean.proofs.RowLists.{data_in, tomb_listed}
use Rattle.mt_clean.proofs.Changes.{Shows, purges, purge_row, purge_marker, still_no_tomb, thins, drops}

-- ---- facts

done_plain : (pk : List ℕ) (after : Option (List ℕ)) → AllPlain (done_facts pk after)
done_plain pk None = tt
done_plain pk (Some rk) = (tt, tt)

-- no fact of a cleaner speaks of an epoch
pub all_plain : (state : State) → AllPlain (state_facts state)
all_plain at.Walk = tt
all_plain (at.Tombs pk after) = (tt, (tt, done_plain pk after))
all_plain (at.Purge pk upto tombs) = (tt, (tt, (tt, plain_rows New pk tombs)))
all_plain (at.Rows pk) = (tt, (tt, (tt, tt)))
all_plain (at.Drop pk marker rows more) = (tt, (tt, (tt, tt)))
all_plain at.Done = (tt, tt)

nothing_below : (pk : List ℕ) → is_lt (slice_cmp nat_cmp pk []) ≡ true → ⊥
nothing_below [] h = cc
nothing_below (x ∷ xs) h = cc

is_sealed : (p : Pair) (retired : Bool) → p.old.sealed ≡ true → Holds p retired sealed_fact
is_sealed p retired h = record { sealed = h; empty = λ pk low below rk. absurd (nothing_below pk below) }

-- ---- steps that change nothing

stay : (p : Pair) (retired : Bool) (state to : State) → IsSound p → AllHold p (retired_at retired to) (state_facts to) → retired_at retired to ≡ retired → CleanerStep state to retired p p
stay p retired state to s know goes_on = record {
  sound = s;
  grows = grows_self (state_facts state) p s;
  knows = know;
  apart = λ f h a. plain_apart f (state_facts to) (all_plain to);
  stays = λ h. goes_on ∙ h;
  retires = λ h. inl (sym goes_on ∙ h);
  does = λ pk rk. refl;
}

-- ---- the walk

pub from_start : (pk : List ℕ) → is_le (slice_cmp nat_cmp [] pk) ≡ true
from_start [] = refl
from_start (x ∷ xs) = refl

there_in : (phase : Option Phase) (n : NewState) → is_there (old_says phase) n ≡ true
there_in (Some UseOld) n = refl
there_in (Some PreferOld) n = refl
there_in (Some PreferNew) n = refl
there_in None n = refl

-- old has the marker of a partition that it has
is_found : (p : Pair) (pk : List ℕ) → IsSound p → has_partition p.old.rows pk ≡ true → is_there (old_state_at p pk) (new_state_at p pk) ≡ true
is_found p pk s h = go (old_at p pk marker_key) refl where
  go : (x : Option Stored) → old_at p pk marker_key ≡ x → is_there (old_state_at p pk) (new_state_at p pk) ≡ true
  go None e = absurd (let x = row_of_partition p.old.rows pk h in let y : None ≡ Some x.1 = sym (no_rows p s pk e x.0) ∙ x.2 in cc)
  go (Some r) e = ap (λ x. is_there (old_state x) (new_state_at p pk)) e ∙ there_in (old_phase_of r.tag.store r.props) (new_state_at p pk)

-- old is sealed and has no partition
retires : (p : Pair) (retired : Bool) → IsSound p → p.old.sealed ≡ true → IsNext (start.From []) None p.old.rows → CleanerStep at.Walk at.Done retired p p
retires p retired s sealed none = record {
  sound = s;
  grows = grows_self [] p s;
  knows = (refl, tt);
  apart = λ f h a. plain_apart f (state_facts at.Done) (all_plain at.Done);
  stays = λ h. refl;
  retires = λ h. inr (record { sealed = sealed; rows = λ pk rk. no_partition p.old.rows pk rk (none pk (from_start pk)) });
  does = λ pk rk. refl;
}

walk_law : (p : Pair) (retired sealed : Bool) (pk : Option (List ℕ)) → IsSound p → IsNext (start.From []) pk p.old.rows → sealed ≡ p.old.sealed → CleanerStep at.Walk (state_of (walked sealed pk)) retired p p
walk_law p retired false pk s next e = stay p retired at.Walk at.Walk s tt refl
walk_law p retired true None s next e = retires p retired s (sym e) next
walk_law p retired true (Some pk) s next e = stay p retired at.Walk (at.Tombs pk None) s (is_found p pk s next.1, (is_sealed p retired (sym e), tt)) refl

-- ---- a read of new

-- up to its end a reading has the rows of its range
reading_is : (rows : Rows) (pk : List ℕ) (after : Option (List ℕ)) (found : Found) (rk : List ℕ) → are_rising rows ≡ true → found.rows ≡ take 100 (rows_within rows pk (next_rows after)) → found.more ≡ nat_lt 100 (length (rows_within rows pk (next_rows after)))
    → is_from (past after) rk ≡ true → is_upto (read_end found.rows found.more) rk ≡ true → option_map (shown rk) (row_at rows pk rk) ≡ row_in found.rows rk
reading_is rows pk after found rk rise is more from end =
    let all = rows_within rows pk (next_rows after) in
    let ended : is_upto (read_end (take 100 all) (nat_lt 100 (length all))) rk ≡ true =
    ap (λ (x : List StoredRow). is_upto (read_end x (nat_lt 100 (length all))) rk) (sym is) ∙ ap (λ (b : Bool). is_upto (read_end found.rows b) rk) (sym more) ∙ end in
    sym (in_whole rows pk (next_rows after) rk (ap (λ b. b && true) from))
    ∙ sym (up_to_end 100 all rk (omega arith) (rising_within rows pk (next_rows after) rise) ended)
    ∙ ap (λ l. row_in l rk) (sym is)

-- a key is past what was read before, or within it
is_past_or_done : (after : Option (List ℕ)) (rk : List ℕ) → (is_from (past after) rk ≡ true) ⊎ ((d : List ℕ) × (after ≡ Some d) × (is_upto (Some d) rk ≡ true))
is_past_or_done None rk = inl refl
is_past_or_done (Some d) rk = go (text_cmp d rk) refl where
  go : (o : Ordering) → text_cmp d rk ≡ o → (is_from (past (Some d)) rk ≡ true) ⊎ ((k : List ℕ) × (Some d ≡ Some k) × (is_upto (Some k) rk ≡ true))
  go Less e = inl (ap is_lt e)
  go Equal e = inr (d, refl, ap is_le (nat_list_cmp_total.antisymm rk d ∙ ap ordering_reverse e))
  go Greater e = inr (d, refl, ap is_le (nat_list_cmp_total.antisymm rk d ∙ ap ordering_reverse e))

-- a row that is no tombstone of those that were read
not_tomb : (rows : List StoredRow) (rk : List ℕ) (x : Option Stored) → rk ≢ marker_key → option_map (shown rk) x ≡ row_in rows rk → is_in rk (keys_of (tombs_of rows)) ≡ false → NoTomb x
not_tomb rows rk None other reads out = tt
not_tomb rows rk (Some r) other reads out = λ tomb.
    let is : is_tombstone (shown rk r) ≡ true = ap (λ b. not b && is_tomb (mark_of r.props)) (text_false rk marker_key other) ∙ ap is_tomb tomb in
    let x : true ≡ false = sym (tomb_listed rows rk (shown rk r) (sym reads) is) ∙ out in cc

-- what is known of new's tombstones up to where the reading ends
module _ (p : Pair) (retired : Bool) (pk : List ℕ) (after : Option (List ℕ)) (found : Found) (s : IsSound p) (moved : is_use_new (new_state_at p pk) ≡ true) (rise : are_rising p.new.rows ≡ true)
    (before : AllHold p retired (done_facts pk after)) (is : found.rows ≡ take 100 (rows_within p.new.rows pk (next_rows after))) (more : found.more ≡ nat_lt 100 (length (rows_within p.new.rows pk (next_rows after)))) where
  clean_before : (a : Option (List ℕ)) → AllHold p retired (done_facts pk a) → (d : List ℕ) → a ≡ Some d → KnowsClean p pk (keys.Within Start (Some d) []) None
  clean_before None h d e = absurd cc
  clean_before (Some x) h d e = subst (λ k. KnowsClean p pk (keys.Within Start (Some k) []) None) (the_key x d e) h.0 where
    the_key : (a b : List ℕ) → Some a ≡ Some b → a ≡ b
    the_key a b e = cc

  clean_read : Holds p retired (clean_but pk (read_end found.rows found.more) (tombs_of found.rows))
  clean_read = record {
    moved = moved;
    tombs = λ rk other within. elim (is_past_or_done after rk) as (λ _. NoTomb (new_at p pk rk)) [
      | inl from ↦ not_tomb found.rows rk (new_at p pk rk) other (reading_is p.new.rows pk after found rk rise is more from within.1) within.2
      | inr done ↦ (clean_before after before done.0 done.1).tombs rk other (refl, done.2, refl)
    ];
    left = tt;
  }

known_rows : (p : Pair) (retired : Bool) (pk : List ℕ) (rows : List StoredRow) → IsSound p → AllByRecursion (IsRowOf p.new.rows pk) rows → AllHold p retired (row_facts New pk rows)
known_rows p retired pk [] s h = tt
known_rows p retired pk (r ∷ rows) s h = (
  subst (λ t. KnowsRow p.new pk r.rk r.props t) h.0.tag (subst (λ ps. KnowsRow p.new pk r.rk ps h.0.row.tag) h.0.props (row_known p.new_number p.new pk r.rk h.0.row s.tags.1 h.0.there)),
  known_rows p retired pk rows s h.1,
)

tombs_known : (p : Pair) (retired : Bool) (pk : List ℕ) (rows : List StoredRow) → AllHold p retired (row_facts New pk rows) → AllHold p retired (row_facts New pk (tombs_of rows))
tombs_known p retired pk [] h = tt
tombs_known p retired pk (r ∷ rows) h = go (is_tombstone r) (tombs_known p retired pk rows h.1) where
  go : (b : Bool) → AllHold p retired (row_facts New pk (tombs_of rows)) → AllHold p retired (row_facts New pk (cond b (r ∷ tombs_of rows) (tombs_of rows)))
  go true rest = (h.0, rest)
  go false rest = rest

purged_on : (pk : List ℕ) (upto : Option (List ℕ)) (retired : Bool) → retired_at retired (purged pk upto) ≡ retired
purged_on pk None retired = refl
purged_on pk (Some rk) retired = refl

-- the tombstones up to there are gone
purged_knows : (p : Pair) (retired : Bool) (pk : List ℕ) (upto : Option (List ℕ)) → AllHold p retired (found_facts pk) → Holds p retired (clean_but pk upto []) → AllHold p (retired_at retired (purged pk upto)) (state_facts (purged pk upto))
purged_knows p retired pk None found clean = (found.0, (found.1.0, (clean, tt)))
purged_knows p retired pk (Some rk) found clean = (found.0, (found.1.0, (clean, tt)))

purge_or_on_law : (p : Pair) (retired : Bool) (state : State) (pk : List ℕ) (upto : Option (List ℕ)) (tombs : List StoredRow) → IsSound p → AllHold p retired (found_facts pk) → Holds p retired (clean_but pk upto tombs) → AllHold p retired (row_facts New pk tombs)
    → CleanerStep state (purge_or_on pk upto tombs) retired p p
purge_or_on_law p retired state pk upto [] s found clean known = stay p retired state (purged pk upto) s (purged_knows p retired pk upto found clean) (purged_on pk upto retired)
purge_or_on_law p retired state pk upto (t ∷ tombs) s found clean known = stay p retired state (at.Purge pk upto (t ∷ tombs)) s (found.0, (found.1.0, (clean, known))) refl

new_phase_law : (p : Pair) (retired : Bool) (pk : List ℕ) (after : Option (List ℕ)) (found : Found) (r : Stored) (phase : Option NewPhase) → IsSound p → are_rising p.new.rows ≡ true → AllHold p retired (state_facts (at.Tombs pk after))
    → found.rows ≡ take 100 (rows_within p.new.rows pk (next_rows after)) → found.more ≡ nat_lt 100 (length (rows_within p.new.rows pk (next_rows after)))
    → new_at p pk marker_key ≡ Some r → new_phase_of r.props ≡ phase → CleanerStep (at.Tombs pk after) (state_of (by_new_phase pk (read_end found.rows found.more) found.rows phase)) retired p p
new_phase_law p retired pk after found r (Some UseNew) s rise know rows more is reads =
    let moved : is_use_new (new_state_at p pk) ≡ true = ap (λ x. is_use_new (new_state x)) is ∙ ap (λ (x : Option NewPhase). is_use_new (new_says x)) reads in
    purge_or_on_law p retired (at.Tombs pk after) pk (read_end found.rows found.more) (tombs_of found.rows) s (know.0, (know.1.0, tt))
    (clean_read p retired pk after found s moved rise know.1.1 rows more)
    (tombs_known p retired pk found.rows (known_rows p retired pk found.rows s
    (subst (AllByRecursion (IsRowOf p.new.rows pk)) (sym rows) (all_taken (IsRowOf p.new.rows pk) 100 _ (members p.new.rows pk (next_rows after) rise)))))
new_phase_law p retired pk after found r (Some Filling) s rise know rows more is reads = stay p retired (at.Tombs pk after) at.Walk s tt refl
new_phase_law p retired pk after found r None s rise know rows more is reads = stay p retired (at.Tombs pk after) at.Walk s tt refl

new_read_law : (p : Pair) (retired : Bool) (pk : List ℕ) (after : Option (List ℕ)) (found : Found) (x : Option Stored) → IsSound p → are_rising p.new.rows ≡ true → AllHold p retired (state_facts (at.Tombs pk after))
    → found.rows ≡ take 100 (rows_within p.new.rows pk (next_rows after)) → found.more ≡ nat_lt 100 (length (rows_within p.new.rows pk (next_rows after)))
    → new_at p pk marker_key ≡ x → CleanerStep (at.Tombs pk after) (state_of (read_new pk (read_end found.rows found.more) found.rows (option_map (shown marker_key) x))) retired p p
new_read_law p retired pk after found None s rise know rows more is = stay p retired (at.Tombs pk after) at.Walk s tt refl
new_read_law p retired pk after found (Some r) s rise know rows more is = new_phase_law p retired pk after found r (new_phase_of r.props) s rise know rows more is refl

read_new_law : (p : Pair) (retired : Bool) (pk : List ℕ) (after : Option (List ℕ)) (found : Found) → IsSound p → are_rising p.new.rows ≡ true → AllHold p retired (state_facts (at.Tombs pk after))
    → IsFound (record { pk = pk; named = marker_key ∷ []; range = Some (next_rows after) }) found p.new
    → CleanerStep (at.Tombs pk after) (state_of (read_new pk (read_end found.rows found.more) found.rows (row_in found.named marker_key))) retired p p
read_new_law p retired pk after found s rise know is =
    subst (λ m. CleanerStep (at.Tombs pk after) (state_of (read_new pk (read_end found.rows found.more) found.rows m)) retired p p) (sym (ap (λ rows. row_in rows marker_key) is.named ∙ marker_read p.new.rows pk))
    (new_read_law p retired pk after found (new_at p pk marker_key) s rise know is.rows is.more refl)

-- ---- a read of old

old_read_law : (p : Pair) (retired : Bool) (pk : List ℕ) (found : Found) (x : Option Stored) → IsSound p → are_rising p.old.rows ≡ true → AllHold p retired (state_facts (at.Rows pk))
    → found.rows ≡ take 100 (rows_within p.old.rows pk (next_rows None)) → found.more ≡ nat_lt 100 (length (rows_within p.old.rows pk (next_rows None)))
    → CleanerStep (at.Rows pk) (read_old pk found.rows found.more (option_map (shown marker_key) x)) retired p p
old_read_law p retired pk found None s rise know rows more = stay p retired (at.Rows pk) at.Walk s tt refl
old_read_law p retired pk found (Some r) s rise know rows more =
    stay p retired (at.Rows pk) (at.Drop pk r.tag (data_rows found.rows) found.more) s (know.0, (know.1.0, (go found.more refl, tt))) refl where
      go : (b : Bool) → found.more ≡ b → Holds p retired (clean_fact pk (rest_of (data_rows found.rows) b))
      go true e = know.1.1.0
      go false e = record {
        moved = know.1.1.0.moved;
        tombs = know.1.1.0.tombs;
        left = λ rk r other is.
            data_in found.rows rk other
            ∙ sym (reading_is p.old.rows pk None found rk rise rows more refl (ap (λ (b : Bool). is_upto (read_end found.rows b) rk) e))
            ∙ ap (option_map (shown rk)) is;
      }

read_old_law : (p : Pair) (retired : Bool) (pk : List ℕ) (found : Found) → IsSound p → are_rising p.old.rows ≡ true → AllHold p retired (state_facts (at.Rows pk))
    → IsFound (record { pk = pk; named = marker_key ∷ []; range = Some (next_rows None) }) found p.old
    → CleanerStep (at.Rows pk) (read_old pk found.rows found.more (row_in found.named marker_key)) retired p p
read_old_law p retired pk found s rise know is =
    subst (λ m. CleanerStep (at.Rows pk) (read_old pk found.rows found.more m) retired p p) (sym (ap (λ rows. row_in rows marker_key) is.named ∙ marker_read p.old.rows pk))
    (old_read_law p retired pk found (old_at p pk marker_key) s rise know is.rows is.more)

-- ---- steps that change a store

shows_all : (own : List Fact) (p q : Pair) (pk : List ℕ) → Shows own p q pk → ShowsSame p q
shows_all own p q pk h x rk = by_part pk x (λ y. logical q y rk ≡ logical p y rk) (h.same rk) (λ ne. h.step.others x rk ne)

changed : (p q : Pair) (retired : Bool) (state to : State) (pk : List ℕ) → Shows (state_facts state) p q pk → AllHold q (retired_at retired to) (state_facts to) → retired_at retired to ≡ retired → CleanerStep state to retired p q
changed p q retired state to pk h know goes_on = record {
  sound = h.step.sound;
  grows = h.step.grows;
  knows = know;
  apart = λ f x a. plain_apart f (state_facts to) (all_plain to);
  stays = λ x. goes_on ∙ x;
  retires = λ x. inl (sym goes_on ∙ x);
  does = shows_all (state_facts state) p q pk h;
}

-- the tombstones in hand are deleted
module _ (p : Pair) (retired : Bool) (pk : List ℕ) (upto : Option (List ℕ)) (tombs : List StoredRow) (s : IsSound p) (fits : ArePurged tombs) (know : AllHold p retired (state_facts (at.Purge pk upto tombs)))
    (met : unmet_from 0 p.new.rows pk (deletes_of tombs) ≡ None) where
  abbrev own : List Fact
  own = state_facts (at.Purge pk upto tombs)

  abbrev q : Pair
  q = with_new p (contents_after p.new_number p.new pk (deletes_of tombs))

  shows : Shows own p q pk
  shows = purges own p retired pk tombs s know.1.1.0.moved fits know.1.1.1 met

  found_still : AllHold q retired (found_facts pk)
  found_still = plain_kept own p q retired s shows.step.sound shows.step.grows (found_facts pk) (tt, (tt, tt)) (know.0, (know.1.0, tt))

  no_tomb_left : (rk : List ℕ) → rk ≢ marker_key → is_upto upto rk ≡ true → (b : Bool) → is_in rk (keys_of tombs) ≡ b → NoTomb (new_at q pk rk)
  no_tomb_left rk other within true e = subst NoTomb (sym (purge_row own p retired pk tombs s know.1.1.0.moved fits know.1.1.1 met rk ∙ ap (λ b. cond b None (new_at p pk rk)) e)) tt
  no_tomb_left rk other within false e = still_no_tomb own p retired pk tombs s know.1.1.0.moved fits know.1.1.1 met rk (know.1.1.0.tombs rk other (refl, within, e))

  clean_then : Holds q retired (clean_but pk upto [])
  clean_then = record {
    moved = ap (λ x. is_use_new (new_state x)) (purge_marker own p retired pk tombs s know.1.1.0.moved fits know.1.1.1 met) ∙ know.1.1.0.moved;
    tombs = λ rk other within. no_tomb_left rk other within.1 (is_in rk (keys_of tombs)) refl;
    left = tt;
  }

  purge_step : CleanerStep (at.Purge pk upto tombs) (purged pk upto) retired p q
  purge_step = changed p q retired (at.Purge pk upto tombs) (purged pk upto) pk shows (purged_knows q retired pk upto found_still clean_then) (purged_on pk upto retired)

purge_law : (p : Pair) (retired : Bool) (pk : List ℕ) (upto : Option (List ℕ)) (tombs : List StoredRow) (c : Contents) (tags : List Tag) → IsSound p → ArePurged tombs → AllHold p retired (state_facts (at.Purge pk upto tombs))
    → WasDone p.new_number p.new pk (deletes_of tombs) c tags → CleanerStep (at.Purge pk upto tombs) (purged pk upto) retired p (with_new p c)
purge_law p retired pk upto tombs c tags s fits know done =
    subst (λ x. CleanerStep (at.Purge pk upto tombs) (purged pk upto) retired p (with_new p x)) (sym done.contents) (purge_step p retired pk upto tombs s fits know done.met)

-- the rows in hand are dropped
drop_law : (p : Pair) (retired : Bool) (pk : List ℕ) (marker : Tag) (rows : List StoredRow) (more : Bool) (c : Contents) (tags : List Tag) → IsSound p → AreDropped rows → AllHold p retired (state_facts (at.Drop pk marker rows more))
    → WasDone p.old_number p.old pk (marker_put marker more ∷ deletes_of rows) c tags → CleanerStep (at.Drop pk marker rows more) (dropped pk more) retired p (with_old p c)
drop_law p retired pk marker rows true c tags s fits know done =
    let own = state_facts (at.Drop pk marker rows true) in
    let h = thins own p pk marker rows s know.1.1.0.moved fits in
    subst (λ x. CleanerStep (at.Drop pk marker rows true) (at.Rows pk) retired p (with_old p x)) (sym done.contents)
    (changed p _ retired (at.Drop pk marker rows true) (at.Rows pk) pk h (plain_kept own p _ retired s h.step.sound h.step.grows own (all_plain (at.Drop pk marker rows true)) know) refl)
drop_law p retired pk marker rows false c tags s fits know done =
    subst (λ x. CleanerStep (at.Drop pk marker rows false) at.Walk retired p (with_old p x)) (sym done.contents)
    (changed p _ retired (at.Drop pk marker rows false) at.Walk pk (drops (state_facts (at.Drop pk marker rows false)) p pk marker rows s know.1.0.sealed know.1.1.0) tt refl)

-- puts were not made
unmet_purge : (p : Pair) (retired : Bool) (pk : List ℕ) (upto : Option (List ℕ)) (tombs : List StoredRow) → IsSound p → AllHold p retired (state_facts (at.Purge pk upto tombs)) → CleanerStep (at.Purge pk upto tombs) (at.Tombs pk None) retired p p
unmet_purge p retired pk upto tombs s know = stay p retired (at.Purge pk upto tombs) (at.Tombs pk None) s (know.0, (know.1.0, tt)) refl

unmet_drop : (p : Pair) (retired : Bool) (pk : List ℕ) (marker : Tag) (rows : List StoredRow) (more : Bool) → IsSound p → AllHold p retired (state_facts (at.Drop pk marker rows more)) → CleanerStep (at.Drop pk marker rows more) (at.Rows pk) retired p p
unmet_drop p retired pk marker rows more s know = stay p retired (at.Drop pk marker rows more) (at.Rows pk) s (know.0, (know.1.0, (record { moved = know.1.1.0.moved; tombs = know.1.1.0.tombs; left = tt }, tt))) refl

-- ---- a step

-- a call that changes nothing leaves the pair as it is
old_stays : (p q : Pair) (retired : Bool) (state to : State) → q.old ≡ p.old → q ≡ with_old p q.old → CleanerStep state to retired p p → CleanerStep state to retired p q
old_stays p q retired state to same is h = subst (λ x. CleanerStep state to retired p x) (sym (is ∙ ap (with_old p) same)) h

new_stays : (p q : Pair) (retired : Bool) (state to : State) → q.new ≡ p.new → q ≡ with_new p q.new → CleanerStep state to retired p p → CleanerStep state to retired p q
new_stays p q retired state to same is h = subst (λ x. CleanerStep state to retired p x) (sym (is ∙ ap (with_new p) same)) h

-- where each reply leads, over two stores that tell their rows in the order of their keys
lead_law : (state : State) (r : StoreReply) (a : StoreAsk) (p q : Pair) (retired : Bool) → CleanerFits state → IsSound p → are_rising p.old.rows ≡ true → are_rising p.new.rows ≡ true → AllHold p retired (state_facts state) → Asks state a → PairMeans a r p q
    → CleanerStep state (state_of (lead state r)) retired p q
lead_law at.Walk (reply.Next next) a p q retired fits s old new know asks means = (let m = (subst (λ x. PairMeans x (reply.Next next) p q) asks means) in old_stays p q retired at.Walk (state_of (walked next.sealed next.pk)) m.0.0 m.1 (walk_law p retired next.sealed next.pk s m.0.1 m.0.2))
lead_law at.Walk (reply.Found found) a p q retired fits s old new know asks means = absurd (subst (λ x. PairMeans x (reply.Found found) p q) asks means).0
lead_law at.Walk (reply.Applied tags) a p q retired fits s old new know asks means = absurd (subst (λ x. PairMeans x (reply.Applied tags) p q) asks means).0
lead_law at.Walk (reply.Unmet index) a p q retired fits s old new know asks means = absurd (subst (λ x. PairMeans x (reply.Unmet index) p q) asks means).0
lead_law at.Walk reply.SealedOff a p q retired fits s old new know asks means = absurd (subst (λ x. PairMeans x reply.SealedOff p q) asks means).0
lead_law at.Walk reply.SealDone a p q retired fits s old new know asks means = absurd (subst (λ x. PairMeans x reply.SealDone p q) asks means).0
lead_law (at.Tombs pk after) (reply.Next next) a p q retired fits s old new know asks means = absurd (subst (λ x. PairMeans x (reply.Next next) p q) asks means).0
lead_law (at.Tombs pk after) (reply.Found found) a p q retired fits s old new know asks means = (let m = (subst (λ x. PairMeans x (reply.Found found) p q) asks means) in new_stays p q retired (at.Tombs pk after) (state_of (read_new pk (read_end found.rows found.more) found.rows (row_in found.named marker_key))) m.0.0 m.1 (read_new_law p retired pk after found s new know m.0.1))
lead_law (at.Tombs pk after) (reply.Applied tags) a p q retired fits s old new know asks means = absurd (subst (λ x. PairMeans x (reply.Applied tags) p q) asks means).0
lead_law (at.Tombs pk after) (reply.Unmet index) a p q retired fits s old new know asks means = absurd (subst (λ x. PairMeans x (reply.Unmet index) p q) asks means).0
lead_law (at.Tombs pk after) reply.SealedOff a p q retired fits s old new know asks means = absurd (subst (λ x. PairMeans x reply.SealedOff p q) asks means).0
lead_law (at.Tombs pk after) reply.SealDone a p q retired fits s old new know asks means = absurd (subst (λ x. PairMeans x reply.SealDone p q) asks means).0
lead_law (at.Purge pk upto tombs) (reply.Next next) a p q retired fits s old new know asks means = absurd (subst (λ x. PairMeans x (reply.Next next) p q) asks means).0
lead_law (at.Purge pk upto tombs) (reply.Found found) a p q retired fits s old new know asks means = absurd (subst (λ x. PairMeans x (reply.Found found) p q) asks means).0
lead_law (at.Purge pk upto tombs) (reply.Applied tags) a p q retired fits s old new know asks means = (let m = (subst (λ x. PairMeans x (reply.Applied tags) p q) asks means) in subst (λ x. CleanerStep (at.Purge pk upto tombs) (purged pk upto) retired p x) (sym m.1) (purge_law p retired pk upto tombs q.new tags s fits know (was_done p.new_number p.new pk _ q.new tags m.0.0)))
lead_law (at.Purge pk upto tombs) (reply.Unmet index) a p q retired fits s old new know asks means = (let m = (subst (λ x. PairMeans x (reply.Unmet index) p q) asks means) in new_stays p q retired (at.Purge pk upto tombs) (at.Tombs pk None) m.0.1 m.1 (unmet_purge p retired pk upto tombs s know))
lead_law (at.Purge pk upto tombs) reply.SealedOff a p q retired fits s old new know asks means = (let m = (subst (λ x. PairMeans x reply.SealedOff p q) asks means) in new_stays p q retired (at.Purge pk upto tombs) (at.Tombs pk None) m.0.1 m.1 (unmet_purge p retired pk upto tombs s know))
lead_law (at.Purge pk upto tombs) reply.SealDone a p q retired fits s old new know asks means = absurd (subst (λ x. PairMeans x reply.SealDone p q) asks means).0
lead_law (at.Rows pk) (reply.Next next) a p q retired fits s old new know asks means = absurd (subst (λ x. PairMeans x (reply.Next next) p q) asks means).0
lead_law (at.Rows pk) (reply.Found found) a p q retired fits s old new know asks means = (let m = (subst (λ x. PairMeans x (reply.Found found) p q) asks means) in old_stays p q retired (at.Rows pk) (read_old pk found.rows found.more (row_in found.named marker_key)) m.0.0 m.1 (read_old_law p retired pk found s old know m.0.1))
lead_law (at.Rows pk) (reply.Applied tags) a p q retired fits s old new know asks means = absurd (subst (λ x. PairMeans x (reply.Applied tags) p q) asks means).0
lead_law (at.Rows pk) (reply.Unmet index) a p q retired fits s old new know asks means = absurd (subst (λ x. PairMeans x (reply.Unmet index) p q) asks means).0
lead_law (at.Rows pk) reply.SealedOff a p q retired fits s old new know asks means = absurd (subst (λ x. PairMeans x reply.SealedOff p q) asks means).0
lead_law (at.Rows pk) reply.SealDone a p q retired fits s old new know asks means = absurd (subst (λ x. PairMeans x reply.SealDone p q) asks means).0
lead_law (at.Drop pk marker rows more) (reply.Next next) a p q retired fits s old new know asks means = absurd (subst (λ x. PairMeans x (reply.Next next) p q) asks means).0
lead_law (at.Drop pk marker rows more) (reply.Found found) a p q retired fits s old new know asks means = absurd (subst (λ x. PairMeans x (reply.Found found) p q) asks means).0
lead_law (at.Drop pk marker rows more) (reply.Applied tags) a p q retired fits s old new know asks means = (let m = (subst (λ x. PairMeans x (reply.Applied tags) p q) asks means) in subst (λ x. CleanerStep (at.Drop pk marker rows more) (dropped pk more) retired p x) (sym m.1) (drop_law p retired pk marker rows more q.old tags s fits know (was_done p.old_number p.old pk _ q.old tags m.0.0)))
lead_law (at.Drop pk marker rows more) (reply.Unmet index) a p q retired fits s old new know asks means = (let m = (subst (λ x. PairMeans x (reply.Unmet index) p q) asks means) in old_stays p q retired (at.Drop pk marker rows more) (at.Rows pk) m.0.1 m.1 (unmet_drop p retired pk marker rows more s know))
lead_law (at.Drop pk marker rows more) reply.SealedOff a p q retired fits s old new know asks means = (let m = (subst (λ x. PairMeans x reply.SealedOff p q) asks means) in old_stays p q retired (at.Drop pk marker rows more) (at.Rows pk) m.0.1 m.1 (unmet_drop p retired pk marker rows more s know))
lead_law (at.Drop pk marker rows more) reply.SealDone a p q retired fits s old new know asks means = absurd (subst (λ x. PairMeans x reply.SealDone p q) asks means).0
lead_law at.Done r a p q retired fits s old new know asks means = absurd asks

-- each step of a cleaner is a step of an actor, after which clients see the same
pub cleaner_law : (state to : State) (a : StoreAsk) (r : StoreReply) (said : CleanProgress) (p q : Pair) (retired : Bool) → CleanerFits state → IsSound p → IsContents p.old → IsContents p.new
    → AllHold p retired (state_facts state) → Asks state a → PairMeans a r p q → Absorbs state r (Ok said) to → CleanerStep state to retired p q
cleaner_law state to a r said p q retired fits s old new know asks means absorbs =
    subst (λ x. CleanerStep state x retired p q) (sym absorbs.0) (lead_law state r a p q retired fits s old.rising new.rising know asks means)
