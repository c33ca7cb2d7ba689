-- A step of a migrator, over two told stores that are a sound pair.
use Rattle.std.proofs.Common.{◌≡◌, ◌≢◌, ℕ, ◌<◌, ◌==◌, Bool, true, false, cond, List, [], ◌∷◌, ◌++◌, Option, Some, None, refl, sym, ap, subst, ◌∙◌, arith, inl, inr, bytes_eq}
use Rattle.std.specs.Prelude.{option_map, is_some}
use Rattle.std.specs.List.{AllByRecursion}
use Rattle.std.specs.Ordering.{nat_cmp, is_le}
use Rattle.std.specs.Cmp.Lexicographic.{slice_cmp}
use Rattle.mt_model.specs.declared.tag.Tag.{Tag}
use Rattle.mt_chain.specs.declared.ask.Side.TheVariants.{Old, New}
use Rattle.mt_chain.specs.declared.ask.StoreAsk.{StoreAsk}
use Rattle.mt_chain.specs.declared.ask.StoreReply.{StoreReply}
use Rattle.mt_chain.specs.declared.ask.StoreReply.TheVariants as reply
use Rattle.mt_chain.specs.declared.query.PkFrom.{PkFrom}
use Rattle.mt_chain.specs.declared.query.PkFrom.TheVariants as start
use Rattle.mt_chain.specs.declared.query.RkFrom.TheVariants.{Start}
use Rattle.mt_chain.specs.declared.query.Found.{Found}
use Rattle.mt_chain.specs.declared.row.Stored.{Stored}
use Rattle.mt_chain.specs.declared.row.StoredRow.{StoredRow}
use Rattle.mt_chain.specs.declared.row.Put.{Put}
use Rattle.mt_chain.specs.declared.row.Put.TheVariants as put
use Rattle.mt_chain.specs.Rows.{row_in, shown, named_rows, are_rising, is_from, is_upto}
use Rattle.mt_chain.specs.Puts.{unmet_from, is_same_tag, next_tag}
use Rattle.mt_chain.specs.StoreCall.{Contents, IsFound, IsNext, sealed_of}
use Rattle.mt_chain.proofs.KeyLaws.{text_true}
use Rattle.mt_chain.proofs.PutLaws.{row_after, all_puts, Each}
use Rattle.mt_chain.proofs.JudgeLaws.{WasDone, was_done, contents_after}
use Rattle.mt_meta.specs.declared.marker.Phase.{Phase}
use Rattle.mt_meta.specs.declared.marker.Phase.TheVariants.{UseOld, PreferOld, PreferNew}
use Rattle.mt_meta.specs.declared.marker.NewPhase.{NewPhase}
use Rattle.mt_meta.specs.declared.marker.NewPhase.TheVariants.{Filling, UseNew}
use Rattle.mt_meta.specs.Markers.{marker_key, marker_props, old_kind, new_kind, old_phase_of, new_phase_of}
use Rattle.mt_meta.specs.Logical.{Pair, AtUseOld, old_says, new_says, old_state, new_state, old_at, new_at, old_state_at, new_state_at, logical}
use Rattle.mt_meta.specs.Sound.{IsSound}
use Rattle.mt_meta.specs.Modes.{Mode, Empty, AtOld, Prepared, Copying, Overlaid, Settled, NewOnly, Broken, mode}
use Rattle.mt_meta.specs.declared.fact.Keys.{Keys}
use Rattle.mt_meta.specs.declared.fact.Keys.TheVariants as keys
use Rattle.mt_meta.specs.declared.fact.Fact.{Fact}
use Rattle.mt_meta.specs.declared.fact.Fact.TheVariants as fact
use Rattle.mt_meta.specs.Facts.{is_in, InKeys, is_begun, is_prefer_new, is_marked, is_filling, is_use_new, KnowsEpoch, Holds, Apart, ApartFrom, AllPlain}
use Rattle.mt_meta.specs.Steps.{AllHold, row_facts, with_old, with_new, PairMeans}
use Rattle.mt_meta.proofs.Rules.{old_read}
use Rattle.mt_meta.proofs.ModeLaws.{IsWhole, old_in, new_in, says, whole}
use Rattle.mt_meta.proofs.Growth.{grows_self, fact_kept}
use Rattle.mt_meta.proofs.Actors.{plain_right, plain_apart, plain_rows}
use Rattle.mt_migrate.specs.declared.state.Walk.{Walk}
use Rattle.mt_migrate.specs.declared.state.Walk.TheVariants.{BeforeSeal, AfterSeal}
use Rattle.mt_migrate.specs.declared.state.Pass.{Pass}
use Rattle.mt_migrate.specs.declared.state.Pass.TheVariants.{First, Second}
use Rattle.mt_migrate.specs.declared.state.Part.{Part}
use Rattle.mt_migrate.specs.declared.state.Copying.{Copying as CopyingPart}
use Rattle.mt_migrate.specs.declared.state.Reading.{Reading}
use Rattle.mt_migrate.specs.declared.state.State.{State}
use Rattle.mt_migrate.specs.declared.state.State.TheVariants as at
use Rattle.mt_migrate.specs.Chunks.{end_of, chunk_end, is_wanting, waiting, wants_put, ArePuts}
use Rattle.mt_migrate.specs.Moves.{past, next_rows, Asks, begin, onward, walked, by_old_phase, by_old_marker, looked, by_new_phase, claimed, pass_begun, first_tag, by_pass, by_read_phase, read_old, chunk_done, compared, read_new, unwritten, reading_of, moved, MigratorFits}
use Rattle.mt_migrate.specs.Known.{behind, walk_facts, old_known, rows_known, epoch_known, done_keys, done_known, kept_facts, state_facts}
use Rattle.mt_migrate.specs.MoverSteps.{ShowsSame, MoverStep}
use Rattle.mt_meta.proofs.Parts.{by_part}
use Rattle.std.specs.List.{list_any}
use Rattle.std.proofs.lemmas.Bool.{or_cases}
use Rattle.mt_chain.specs.StoreCall.{IsContents}
use Rattle.mt_migrate.specs.declared.migrator.MoveProgress.{MoveProgress}
use Rattle.std.specs.Prelude.{Ok}
use Rattle.mt_migrate.specs.Chunks.{is_want}
use Rattle.mt_migrate.specs.Moves.{replaces, phase_said, Absorbs}
use Rattle.mt_chain.proofs.TextOrder.{or_left, or_right, or_neither}
use Rattle.mt_chain.proofs.TwoLists.{has, not_there}
use Rattle.mt_chain.proofs.RangeRows.{IsRowOf, members, all_taken}
use Rattle.mt_migrate.proofs.Merging.{nothing_wanted}
use Rattle.mt_migrate.proofs.MarkerChanges.{Shows, prepared, switched, Begins, begins, takes_over, finishes, epoch_alone, seals}
use Rattle.mt_migrate.proofs.CopyChanges.{CopyPut, copies, the_marker, copy_row}
use Rattle.mt_migrate.proofs.ChunkLaws.{is_waiting, each_good, named_past, epoch_filled, epoch_written}
use Rattle.mt_meta.specs.ReadRows.{tag_or}
use Rattle.mt_meta.proofs.FactLists.{hold_more, hold_first, hold_rest, plain_more, apart_left, plain_kept}
use Rattle.mt_meta.proofs.StorePuts.{same_tag}
use Rattle.mt_meta.proofs.ReadLaws.{row_known, known_in, marker_read, named_known, turned_known}
use Rattle.mt_migrate.proofs.Knowing.{behind_plain, old_plain, rows_plain, kept_plain, epoch_apart, fresh_apart, as_known, known_alone, known_apart, apart_known, known_as, prefer_old_props, filling_props, less_rows, rows_to_old, swept_to, swept_all, further, kept_known, entries_known, kept_row_at, known_at, reading_is, lesser_left, lesser_right}

-- ---- steps that change nothing

step_same : (p : Pair) (retired : Bool) (state to : State) → IsSound p → AllHold p retired (state_facts to) → ((f : Fact) → ApartFrom f (state_facts state) → ApartFrom f (state_facts to)) → MoverStep state to retired p p
step_same p retired state to s know apart = record {
  sound = s;
  grows = grows_self (state_facts state) p s;
  knows = know;
  apart = λ f h a. apart f a;
  stays = λ x. x;
  retires = λ x. inl x;
  does = λ pk rk. refl;
}

stay : (p : Pair) (retired : Bool) (state to : State) → IsSound p → AllHold p retired (state_facts to) → AllPlain (state_facts to) → MoverStep state to retired p p
stay p retired state to s know plain = step_same p retired state to s know (λ f a. plain_apart f (state_facts to) plain)

to_look : (p : Pair) (retired : Bool) (state : State) (part : Part) → IsSound p → AllHold p retired (walk_facts part) → MoverStep state (at.Look part) retired p p
to_look p retired state part s know = stay p retired state (at.Look part) s know (behind_plain part.walk (start.From part.pk))

to_begin : (p : Pair) (retired : Bool) (state : State) → IsSound p → MoverStep state begin retired p p
to_begin p retired state s = stay p retired state begin s tt tt

to_next : (p : Pair) (retired : Bool) (state : State) (part : Part) → IsSound p → AllHold p retired (walk_facts part) → (is_some (old_at p part.pk marker_key) ≡ true → is_use_new (new_state_at p part.pk) ≡ true) → MoverStep state (onward part) retired p p
to_next p retired state part s know here = stay p retired state (onward part) s (further p retired part know here) (behind_plain part.walk (start.After part.pk))

none_there : (x : Option Stored) → x ≡ None → is_some x ≡ true → ⊥
none_there x none there = (let e : false ≡ true = sym (ap is_some none) ∙ there in cc)

-- ---- old tells its next partition

walk_law : (p : Pair) (retired : Bool) (walk : Walk) (from : PkFrom) (pk : Option (List ℕ)) → IsSound p → AllHold p retired (behind walk from) → IsNext from pk p.old.rows → MoverStep (at.Walk walk from) (walked walk pk) retired p p
walk_law p retired BeforeSeal from (Some pk) s know next = to_look p retired (at.Walk BeforeSeal from) (record { walk = BeforeSeal; pk = pk }) s tt
walk_law p retired AfterSeal from (Some pk) s know next = to_look p retired (at.Walk AfterSeal from) (record { walk = AfterSeal; pk = pk }) s (swept_to p from pk know.0 next, tt)
walk_law p retired BeforeSeal from None s know next = stay p retired (at.Walk BeforeSeal from) at.SealOld s tt tt
walk_law p retired AfterSeal from None s know next = stay p retired (at.Walk AfterSeal from) at.Done s (swept_all p from know.0 next, tt) (tt, tt)

-- ---- a look at old's marker

pub old_state_is : (p : Pair) (pk : List ℕ) (r : Stored) (phase : Option Phase) → old_at p pk marker_key ≡ Some r → old_phase_of r.tag.store r.props ≡ phase → old_state_at p pk ≡ old_says phase
old_state_is p pk r phase is reads = ap old_state is ∙ ap old_says reads

pub new_state_is : (p : Pair) (pk : List ℕ) (r : Stored) (phase : Option NewPhase) → new_at p pk marker_key ≡ Some r → new_phase_of r.props ≡ phase → new_state_at p pk ≡ new_says phase
new_state_is p pk r phase is reads = ap new_state is ∙ ap new_says reads

old_phase_law : (p : Pair) (retired : Bool) (state : State) (part : Part) (named : List StoredRow) (r : Stored) (phase : Option Phase) → IsSound p → AllHold p retired (walk_facts part) → AllHold p retired (row_facts Old part.pk named)
    → old_at p part.pk marker_key ≡ Some r → old_phase_of r.tag.store r.props ≡ phase → MoverStep state (by_old_phase part named r.tag phase) retired p p
old_phase_law p retired state part named r (Some UseOld) s know rows is reads = stay p retired state (at.Prepare part named) s (hold_more p retired (row_facts Old part.pk named) (walk_facts part) rows know)
    (plain_more (row_facts Old part.pk named) (walk_facts part) (plain_rows Old part.pk named) (behind_plain part.walk (start.From part.pk)))
old_phase_law p retired state part named r (Some PreferOld) s know rows is reads = stay p retired state (at.Claim part (First r.tag)) s
    (ap (λ x. is_begun x (new_state_at p part.pk)) (old_state_is p part.pk r (Some PreferOld) is reads), (known_as p.old_number p.old part.pk marker_key r (marker_props (old_kind PreferOld)) s.tags.0 is (prefer_old_props p part.pk r s is reads), know))
    (tt, (tt, behind_plain part.walk (start.From part.pk)))
old_phase_law p retired state part named r (Some PreferNew) s know rows is reads = stay p retired state (at.Claim part Second) s
    (ap (λ x. is_begun x (new_state_at p part.pk)) (old_state_is p part.pk r (Some PreferNew) is reads), (turned_known p part.pk keys.None [] s (ap is_prefer_new (old_state_is p part.pk r (Some PreferNew) is reads)) (λ rk x. absurd x), know))
    (tt, (tt, behind_plain part.walk (start.From part.pk)))
old_phase_law p retired state part named r None s know rows is reads = to_begin p retired state s

look_law : (p : Pair) (retired : Bool) (state : State) (part : Part) (named : List StoredRow) (x : Option Stored) → IsSound p → AllHold p retired (walk_facts part) → AllHold p retired (row_facts Old part.pk named)
    → old_at p part.pk marker_key ≡ x → MoverStep state (by_old_marker part named (option_map (shown marker_key) x)) retired p p
look_law p retired state part named None s know rows is = to_next p retired state part s know (λ there. absurd (none_there (old_at p part.pk marker_key) is there))
look_law p retired state part named (Some r) s know rows is = old_phase_law p retired state part named r (old_phase_of r.tag.store r.props) s know rows is refl

looked_law : (p : Pair) (retired : Bool) (part : Part) (found : Found) → IsSound p → AllHold p retired (walk_facts part) → IsFound (record { pk = part.pk; named = marker_key ∷ []; range = None }) found p.old → MoverStep (at.Look part) (looked part found.named) retired p p
looked_law p retired part found s know is =
    let named = named_rows p.old.rows part.pk (marker_key ∷ []) in
    subst (λ rows. MoverStep (at.Look part) (looked part rows) retired p p) (sym is.named)
    (subst (λ m. MoverStep (at.Look part) (by_old_marker part named m) retired p p) (sym (marker_read p.old.rows part.pk))
    (look_law p retired (at.Look part) part named (old_at p part.pk marker_key) s know (named_known Old p retired part.pk (marker_key ∷ []) s.tags.0) refl))

-- ---- a look at new's marker

new_phase_law : (p : Pair) (retired : Bool) (state : State) (part : Part) (pass : Pass) (r : Stored) (phase : Option NewPhase) → IsSound p → AllHold p retired (old_known part.pk pass ∷ walk_facts part)
    → new_at p part.pk marker_key ≡ Some r → new_phase_of r.props ≡ phase → MoverStep state (by_new_phase part pass r.tag phase) retired p p
new_phase_law p retired state part pass r (Some Filling) s know is reads = stay p retired state (at.Takeover part pass r.tag) s
    (known_as p.new_number p.new part.pk marker_key r (marker_props (new_kind Filling)) s.tags.1 is (filling_props p part.pk r s is reads), know)
    (tt, (old_plain part.pk pass, behind_plain part.walk (start.From part.pk)))
new_phase_law p retired state part pass r (Some UseNew) s know is reads = to_next p retired state part s know.1 (λ there. ap is_use_new (new_state_is p part.pk r (Some UseNew) is reads))
new_phase_law p retired state part pass r None s know is reads = to_begin p retired state s

claim_law : (p : Pair) (retired : Bool) (part : Part) (pass : Pass) (x : Option Stored) → IsSound p → AllHold p retired (state_facts (at.Claim part pass)) → new_at p part.pk marker_key ≡ x
    → MoverStep (at.Claim part pass) (claimed part pass (option_map (shown marker_key) x)) retired p p
claim_law p retired part pass None s know is = stay p retired (at.Claim part pass) (at.Begin part pass) s know (tt, (old_plain part.pk pass, behind_plain part.walk (start.From part.pk)))
claim_law p retired part pass (Some r) s know is = new_phase_law p retired (at.Claim part pass) part pass r (new_phase_of r.props) s know.1 is refl

claimed_law : (p : Pair) (retired : Bool) (part : Part) (pass : Pass) (found : Found) → IsSound p → AllHold p retired (state_facts (at.Claim part pass)) → IsFound (record { pk = part.pk; named = marker_key ∷ []; range = None }) found p.new
    → MoverStep (at.Claim part pass) (claimed part pass (row_in found.named marker_key)) retired p p
claimed_law p retired part pass found s know is =
    subst (λ m. MoverStep (at.Claim part pass) (claimed part pass m) retired p p) (sym (ap (λ rows. row_in rows marker_key) is.named ∙ marker_read p.new.rows part.pk))
    (claim_law p retired part pass (new_at p part.pk marker_key) s know refl)

-- ---- old's rows are read

abbrev pub copying_of : Part → Pass → Tag → Option (List ℕ) → CopyingPart
copying_of part pass epoch done = record { part = part; pass = pass; epoch = epoch; done = done }

-- the rows that were read are old's, up to where the reading ends
abbrev ReadsOld : Pair → List ℕ → Option (List ℕ) → Reading → Type 0
ReadsOld p pk done old = (rk : List ℕ) → rk ≢ marker_key → is_from (past done) rk ≡ true → is_upto (end_of old) rk ≡ true → option_map (shown rk) (old_at p pk rk) ≡ row_in old.rows rk

unturned : (m : Mode) → IsWhole m → old_in m ≡ AtUseOld → is_marked (new_in m) ≡ true → ⊥
unturned Empty w e h = cc
unturned AtOld w e h = cc
unturned Prepared w e h = cc
unturned Copying w e h = cc
unturned Overlaid w e h = cc
unturned Settled w e h = cc
unturned NewOnly w e h = cc
unturned Broken w e h = w

pass_law : (p : Pair) (retired : Bool) (part : Part) (pass : Pass) (epoch : Tag) (done : Option (List ℕ)) (old : Reading) (r : Stored) (phase : Phase) → IsSound p → AllHold p retired (state_facts (at.ReadOld (copying_of part pass epoch done)))
    → old_at p part.pk marker_key ≡ Some r → old_phase_of r.tag.store r.props ≡ Some phase → AllHold p retired (kept_facts part.pk old.rows) → ReadsOld p part.pk done old
    → MoverStep (at.ReadOld (copying_of part pass epoch done)) (by_pass (copying_of part pass epoch done) old r.tag pass phase) retired p p
pass_law p retired part Second epoch done old r phase s know is reads kept rows =
    let c = copying_of part Second epoch done in
    step_same p retired (at.ReadOld c) (at.ReadNew c old) s
    (know.0, (record { marked = know.1.0.marked; turned = know.1.0.turned; rows = λ f rk other h. rows rk other h.0 h.1 }, hold_more p retired (kept_facts part.pk old.rows) (walk_facts part) kept know.1.1))
    (λ f a. (
      a.0,
      (
        plain_right f (rows_known c Second (end_of old) old.rows) tt,
        plain_apart f (kept_facts part.pk old.rows ++ walk_facts part) (plain_more (kept_facts part.pk old.rows) (walk_facts part) (kept_plain part.pk old.rows) (behind_plain part.walk (start.From part.pk))),
      ),
    ))
pass_law p retired part (First was) epoch done old r PreferNew s know is reads kept rows =
    let c = copying_of part (First was) epoch done in
    step_same p retired (at.ReadOld c) (pass_begun part Second epoch) s
    (know.0, (turned_known p part.pk keys.None [] s (ap is_prefer_new (old_state_is p part.pk r (Some PreferNew) is reads)) (λ rk x. absurd x), know.1.1))
    (λ f a. (a.0, (plain_right f (old_known part.pk Second) tt, plain_apart f (walk_facts part) (behind_plain part.walk (start.From part.pk)))))
pass_law p retired part (First was) epoch done old r PreferOld s know is reads kept rows =
    let c = copying_of part (First was) epoch done in
    let c' = copying_of part (First r.tag) epoch done in
    step_same p retired (at.ReadOld c) (at.ReadNew c' old) s
    (know.0, (known_as p.old_number p.old part.pk marker_key r (marker_props (old_kind PreferOld)) s.tags.0 is (prefer_old_props p part.pk r s is reads), hold_more p retired (kept_facts part.pk old.rows) (walk_facts part) kept know.1.1))
    (λ f a. (
      a.0,
      (
        plain_right f (rows_known c' (First r.tag) (end_of old) old.rows) tt,
        plain_apart f (kept_facts part.pk old.rows ++ walk_facts part) (plain_more (kept_facts part.pk old.rows) (walk_facts part) (kept_plain part.pk old.rows) (behind_plain part.walk (start.From part.pk))),
      ),
    ))
-- old cannot be at `use-old` where new has a marker
pass_law p retired part (First was) epoch done old r UseOld s know is reads kept rows =
    let y = says p s part.pk in
    absurd (unturned (mode p part.pk) (whole p s part.pk) (sym y.old ∙ old_state_is p part.pk r (Some UseOld) is reads) (sym (ap is_marked y.new) ∙ know.0.marked))

read_phase_law : (p : Pair) (retired : Bool) (part : Part) (pass : Pass) (epoch : Tag) (done : Option (List ℕ)) (old : Reading) (r : Stored) (phase : Option Phase) → IsSound p → AllHold p retired (state_facts (at.ReadOld (copying_of part pass epoch done)))
    → old_at p part.pk marker_key ≡ Some r → old_phase_of r.tag.store r.props ≡ phase → AllHold p retired (kept_facts part.pk old.rows) → ReadsOld p part.pk done old
    → MoverStep (at.ReadOld (copying_of part pass epoch done)) (by_read_phase (copying_of part pass epoch done) old r.tag phase) retired p p
read_phase_law p retired part pass epoch done old r None s know is reads kept rows = to_begin p retired (at.ReadOld (copying_of part pass epoch done)) s
read_phase_law p retired part pass epoch done old r (Some phase) s know is reads kept rows = pass_law p retired part pass epoch done old r phase s know is reads kept rows

old_read_law : (p : Pair) (retired : Bool) (part : Part) (pass : Pass) (epoch : Tag) (done : Option (List ℕ)) (old : Reading) (x : Option Stored) → IsSound p → AllHold p retired (state_facts (at.ReadOld (copying_of part pass epoch done)))
    → old_at p part.pk marker_key ≡ x → AllHold p retired (kept_facts part.pk old.rows) → ReadsOld p part.pk done old
    → MoverStep (at.ReadOld (copying_of part pass epoch done)) (read_old (copying_of part pass epoch done) old (option_map (shown marker_key) x)) retired p p
old_read_law p retired part pass epoch done old None s know is kept rows = to_next p retired (at.ReadOld (copying_of part pass epoch done)) part s know.1.1 (λ there. absurd (none_there (old_at p part.pk marker_key) is there))
old_read_law p retired part pass epoch done old (Some r) s know is kept rows = read_phase_law p retired part pass epoch done old r (old_phase_of r.tag.store r.props) s know is refl kept rows

read_old_law : (p : Pair) (retired : Bool) (part : Part) (pass : Pass) (epoch : Tag) (done : Option (List ℕ)) (found : Found) → IsSound p → p.old_number < p.new_number → are_rising p.old.rows ≡ true → AllHold p retired (state_facts (at.ReadOld (copying_of part pass epoch done)))
    → IsFound (record { pk = part.pk; named = marker_key ∷ []; range = Some (next_rows done None) }) found p.old
    → MoverStep (at.ReadOld (copying_of part pass epoch done)) (read_old (copying_of part pass epoch done) (reading_of found) (row_in found.named marker_key)) retired p p
read_old_law p retired part pass epoch done found s lower rise know is =
    subst (λ m. MoverStep (at.ReadOld (copying_of part pass epoch done)) (read_old (copying_of part pass epoch done) (reading_of found) m) retired p p) (sym (ap (λ rows. row_in rows marker_key) is.named ∙ marker_read p.old.rows part.pk))
    (old_read_law p retired part pass epoch done (reading_of found) (old_at p part.pk marker_key) s know refl
    (kept_known p retired part.pk found.rows s lower (subst (AllByRecursion (IsRowOf p.old.rows part.pk)) (sym is.rows) (all_taken (IsRowOf p.old.rows part.pk) 50 _ (members p.old.rows part.pk (next_rows done None) rise))))
    (λ rk other from within. reading_is p.old.rows part.pk done None found rk rise is.rows is.more from refl within))

-- ---- a chunk is done

done_knows : (p : Pair) (retired : Bool) (part : Part) (pass : Pass) (epoch : Tag) (done upto end : Option (List ℕ)) (rows : List StoredRow)
    → Holds p retired (epoch_known (copying_of part pass epoch done) pass (keys.Within Start upto [])) → Holds p retired (rows_known (copying_of part pass epoch done) pass end rows) → AllHold p retired (walk_facts part)
    → AllHold p retired (state_facts (chunk_done (copying_of part pass epoch done) upto))
done_knows p retired part (First marker) epoch done None end rows e r walk = (e, (r, walk))
done_knows p retired part Second epoch done None end rows e r walk = (e, walk)
done_knows p retired part (First marker) epoch done (Some rk) end rows e r walk = (e, (r, walk))
done_knows p retired part Second epoch done (Some rk) end rows e r walk = (e, (less_rows p part.pk (keys.Within (past done) end []) rows r, walk))

done_apart : (f : Fact) (part : Part) (pass : Pass) (epoch : Tag) (done upto : Option (List ℕ)) → Apart f (fact.Epoch part.pk epoch keys.None) → ApartFrom f (state_facts (chunk_done (copying_of part pass epoch done) upto))
done_apart f part (First marker) epoch done None a = (a, (plain_right f (old_known part.pk (First marker)) tt, plain_apart f (walk_facts part) (behind_plain part.walk (start.From part.pk))))
done_apart f part Second epoch done None a = (epoch_apart f part.pk epoch keys.None (keys.Within Start None []) a, plain_apart f (walk_facts part) (behind_plain part.walk (start.From part.pk)))
done_apart f part (First marker) epoch done (Some rk) a = (a, (plain_right f (old_known part.pk (First marker)) tt, plain_apart f (walk_facts part) (behind_plain part.walk (start.From part.pk))))
done_apart f part Second epoch done (Some rk) a = (epoch_apart f part.pk epoch keys.None (keys.Within Start (Some rk) []) a, (plain_right f (old_known part.pk Second) tt, plain_apart f (walk_facts part) (behind_plain part.walk (start.From part.pk))))

-- ---- new's entries are read

any_wants : (upto : Option (List ℕ)) (rows entries : List StoredRow) (xs : List StoredRow) (rk : List ℕ) → has rk xs ≡ true → wants_put upto rows entries rk ≡ true → list_any (λ r. wants_put upto rows entries r.rk) xs ≡ true
any_wants upto rows entries [] rk h w = absurd (let e = h in cc)
any_wants upto rows entries (x ∷ xs) rk h w = elim (or_cases (bytes_eq rk x.rk) (has rk xs) h) as (λ _. list_any (λ r. wants_put upto rows entries r.rk) (x ∷ xs) ≡ true) [
  | inl e ↦ or_left (wants_put upto rows entries x.rk) _ (subst (λ k. wants_put upto rows entries k ≡ true) (text_true rk x.rk e) w)
  | inr e ↦ or_right (wants_put upto rows entries x.rk) _ (any_wants upto rows entries xs rk e w)
]

none_waits : (upto : Option (List ℕ)) (rows entries : List StoredRow) → is_wanting upto rows entries ≡ false → (rk : List ℕ) → is_in rk (waiting upto rows entries) ≡ false
none_waits upto rows entries out rk = go (is_in rk (waiting upto rows entries)) refl where
  none : wants_put upto rows entries rk ≡ true → ⊥
  none w = both (has rk rows) (has rk entries) refl refl where
    parts : (list_any (λ (r : StoredRow). wants_put upto rows entries r.rk) rows ≡ false) × (list_any (λ (r : StoredRow). wants_put upto rows entries r.rk) entries ≡ false)
    parts = or_neither _ _ out

    both : (x y : Bool) → has rk rows ≡ x → has rk entries ≡ y → ⊥
    both true y ex ey = (let e : true ≡ false = sym (any_wants upto rows entries rows rk ex w) ∙ parts.0 in cc)
    both false true ex ey = (let e : true ≡ false = sym (any_wants upto rows entries entries rk ey w) ∙ parts.1 in cc)
    both false false ex ey = (let e : false ≡ true = sym (ap is_want (nothing_wanted upto rows entries rk (not_there rows rk ex) (not_there entries rk ey))) ∙ w in cc)

  go : (b : Bool) → is_in rk (waiting upto rows entries) ≡ b → b ≡ false
  go false e = refl
  go true e = absurd (none (is_waiting upto rows entries rk e))

more_keys : (p : Pair) (pk : List ℕ) (tag : Tag) (part part' : Keys) → ((rk : List ℕ) → InKeys part' rk → InKeys part rk) → KnowsEpoch p pk tag part → KnowsEpoch p pk tag part'
more_keys p pk tag part part' sub h = record { past = h.past; marked = h.marked; filling = h.filling; turned = λ m is e rk x. h.turned m is e rk (sub rk x); exact = λ m is e rk other x. h.exact m is e rk other (sub rk x) }

more_known : (p : Pair) (retired : Bool) (copying : CopyingPart) (pass : Pass) (part part' : Keys) → ((rk : List ℕ) → InKeys part' rk → InKeys part rk) → Holds p retired (epoch_known copying pass part) → Holds p retired (epoch_known copying pass part')
more_known p retired copying (First marker) part part' sub h = h
more_known p retired copying Second part part' sub h = more_keys p copying.part.pk copying.epoch part part' sub h

rows_less : (p : Pair) (retired : Bool) (copying : CopyingPart) (pass : Pass) (end upto : Option (List ℕ)) (rows : List StoredRow) → ((rk : List ℕ) → is_upto upto rk ≡ true → is_upto end rk ≡ true) → Holds p retired (rows_known copying pass end rows) → Holds p retired (rows_known copying pass upto rows)
rows_less p retired copying (First marker) end upto rows sub h = h
rows_less p retired copying Second end upto rows sub h = record { marked = h.marked; turned = h.turned; rows = λ f rk other x. h.rows f rk other (x.0, sub rk x.1, refl) }

pub fills_at : (p : Pair) (pk : List ℕ) (epoch : Tag) (part : Keys) (m : Stored) → KnowsEpoch p pk epoch part → new_at p pk marker_key ≡ Some m → m.tag ≡ epoch → is_filling (new_state_at p pk) ≡ true
fills_at p pk epoch part m know is e = ap (λ x. is_filling (new_state x)) is ∙ ap (λ c. is_filling (new_says c)) (know.filling m is e)

-- the rows that were read are new's, in the chunk
abbrev ReadsNew : Pair → List ℕ → Option (List ℕ) → Option (List ℕ) → List StoredRow → Type 0
ReadsNew p pk done upto entries = (rk : List ℕ) → rk ≢ marker_key → is_from (past done) rk ≡ true → is_upto upto rk ≡ true → option_map (shown rk) (new_at p pk rk) ≡ row_in entries rk

filled : (p : Pair) (retired : Bool) (part : Part) (pass : Pass) (epoch : Tag) (done end upto : Option (List ℕ)) (rows entries : List StoredRow) (m : Stored) → IsSound p
    → Holds p retired (done_known (copying_of part pass epoch done)) → Holds p retired (rows_known (copying_of part pass epoch done) pass end rows) → ((rk : List ℕ) → is_upto upto rk ≡ true → is_upto end rk ≡ true)
    → new_at p part.pk marker_key ≡ Some m → m.tag ≡ epoch → ReadsNew p part.pk done upto entries
    → Holds p retired (epoch_known (copying_of part pass epoch done) pass (keys.Within Start upto (waiting upto rows entries)))
filled p retired part (First marker) epoch done end upto rows entries m s know rows_are sub is e new = know
filled p retired part Second epoch done end upto rows entries m s know rows_are sub is e new =
    let fills = fills_at p part.pk epoch (done_keys done) m know is e in
    epoch_filled p part.pk epoch done upto rows entries s know (rows_are.turned fills) (record {
      old = λ rk other from within. rows_are.rows fills rk other (from, sub rk within, refl);
      new = new;
    })

write_plain : (f : Fact) (part : Part) (pass : Pass) (epoch : Tag) (done upto : Option (List ℕ)) (rows entries : List StoredRow) → ApartFrom f (rows_known (copying_of part pass epoch done) pass upto rows ∷ (kept_facts part.pk rows ++ (row_facts New part.pk entries ++ walk_facts part)))
write_plain f part pass epoch done upto rows entries = (
  plain_right f (rows_known (copying_of part pass epoch done) pass upto rows) (rows_plain (copying_of part pass epoch done) pass upto rows),
  plain_apart f _ (plain_more (kept_facts part.pk rows) (row_facts New part.pk entries ++ walk_facts part) (kept_plain part.pk rows)
      (plain_more (row_facts New part.pk entries) (walk_facts part) (plain_rows New part.pk entries) (behind_plain part.walk (start.From part.pk)))),
)

compare_law : (p : Pair) (retired : Bool) (part : Part) (pass : Pass) (epoch : Tag) (done : Option (List ℕ)) (old new : Reading) (m : Stored) → IsSound p → AllHold p retired (state_facts (at.ReadNew (copying_of part pass epoch done) old))
    → new_at p part.pk marker_key ≡ Some m → m.tag ≡ epoch → AllHold p retired (row_facts New part.pk new.rows) → ReadsNew p part.pk done (chunk_end old new) new.rows
    → MoverStep (at.ReadNew (copying_of part pass epoch done) old) (compared (copying_of part pass epoch done) (chunk_end old new) old.rows new.rows) retired p p
compare_law p retired part pass epoch done old new m s know is e entries reads = go (is_wanting (chunk_end old new) old.rows new.rows) refl where
  kept : AllHold p retired (kept_facts part.pk old.rows)
  kept = hold_first p retired (kept_facts part.pk old.rows) (walk_facts part) know.1.1

  walk : AllHold p retired (walk_facts part)
  walk = hold_rest p retired (kept_facts part.pk old.rows) (walk_facts part) know.1.1

  sub : (rk : List ℕ) → is_upto (chunk_end old new) rk ≡ true → is_upto (end_of old) rk ≡ true
  sub rk h = lesser_left (end_of old) (end_of new) rk h

  epoch_now : Holds p retired (epoch_known (copying_of part pass epoch done) pass (keys.Within Start (chunk_end old new) (waiting (chunk_end old new) old.rows new.rows)))
  epoch_now = filled p retired part pass epoch done (end_of old) (chunk_end old new) old.rows new.rows m s know.0 know.1.0 sub is e reads

  go : (b : Bool) → is_wanting (chunk_end old new) old.rows new.rows ≡ b
      → MoverStep (at.ReadNew (copying_of part pass epoch done) old) (cond b (at.Write (copying_of part pass epoch done) (chunk_end old new) old.rows new.rows) (chunk_done (copying_of part pass epoch done) (chunk_end old new))) retired p p
  go true wants = step_same p retired (at.ReadNew (copying_of part pass epoch done) old) (at.Write (copying_of part pass epoch done) (chunk_end old new) old.rows new.rows) s (
    epoch_now,
    (
      know.0,
      (
        rows_less p retired (copying_of part pass epoch done) pass (end_of old) (chunk_end old new) old.rows sub know.1.0,
        hold_more p retired (kept_facts part.pk old.rows) (row_facts New part.pk new.rows ++ walk_facts part) kept (hold_more p retired (row_facts New part.pk new.rows) (walk_facts part) entries walk),
      ),
    ),
  )
      (λ f a. (
        apart_known f (copying_of part pass epoch done) pass keys.None (keys.Within Start (chunk_end old new) (waiting (chunk_end old new) old.rows new.rows)) (known_apart f (copying_of part pass epoch done) pass (done_keys done) keys.None a.0),
        (a.0, write_plain f part pass epoch done (chunk_end old new) old.rows new.rows),
      ))
  go false none = step_same p retired (at.ReadNew (copying_of part pass epoch done) old) (chunk_done (copying_of part pass epoch done) (chunk_end old new)) s
      (done_knows p retired part pass epoch done (chunk_end old new) (end_of old) old.rows
      (more_known p retired (copying_of part pass epoch done) pass (keys.Within Start (chunk_end old new) (waiting (chunk_end old new) old.rows new.rows)) (keys.Within Start (chunk_end old new) [])
      (λ rk h. (h.0, h.1, none_waits (chunk_end old new) old.rows new.rows none rk)) epoch_now)
      know.1.0 walk)
      (λ f a. done_apart f part pass epoch done (chunk_end old new) (known_apart f (copying_of part pass epoch done) pass (done_keys done) keys.None a.0))

new_read_law : (p : Pair) (retired : Bool) (part : Part) (pass : Pass) (epoch : Tag) (done : Option (List ℕ)) (old new : Reading) (x : Option Stored) → IsSound p → AllHold p retired (state_facts (at.ReadNew (copying_of part pass epoch done) old))
    → new_at p part.pk marker_key ≡ x → AllHold p retired (row_facts New part.pk new.rows) → ReadsNew p part.pk done (chunk_end old new) new.rows
    → MoverStep (at.ReadNew (copying_of part pass epoch done) old) (read_new (copying_of part pass epoch done) (chunk_end old new) old.rows new.rows (option_map (shown marker_key) x)) retired p p
new_read_law p retired part pass epoch done old new None s know is entries reads =
    to_look p retired (at.ReadNew (copying_of part pass epoch done) old) part s (hold_rest p retired (kept_facts part.pk old.rows) (walk_facts part) know.1.1)
new_read_law p retired part pass epoch done old new (Some m) s know is entries reads = go (is_same_tag m.tag epoch) refl where
  go : (b : Bool) → is_same_tag m.tag epoch ≡ b
      → MoverStep (at.ReadNew (copying_of part pass epoch done) old) (cond b (compared (copying_of part pass epoch done) (chunk_end old new) old.rows new.rows) (at.Look part)) retired p p
  go true e = compare_law p retired part pass epoch done old new m s know is (sym (same_tag m.tag epoch e)) entries reads
  go false e = to_look p retired (at.ReadNew (copying_of part pass epoch done) old) part s (hold_rest p retired (kept_facts part.pk old.rows) (walk_facts part) know.1.1)

read_new_law : (p : Pair) (retired : Bool) (part : Part) (pass : Pass) (epoch : Tag) (done : Option (List ℕ)) (old : Reading) (found : Found) → IsSound p → are_rising p.new.rows ≡ true → AllHold p retired (state_facts (at.ReadNew (copying_of part pass epoch done) old))
    → IsFound (record { pk = part.pk; named = marker_key ∷ []; range = Some (next_rows done (end_of old)) }) found p.new
    → MoverStep (at.ReadNew (copying_of part pass epoch done) old) (read_new (copying_of part pass epoch done) (chunk_end old (reading_of found)) old.rows found.rows (row_in found.named marker_key)) retired p p
read_new_law p retired part pass epoch done old found s rise know is =
    subst (λ m. MoverStep (at.ReadNew (copying_of part pass epoch done) old) (read_new (copying_of part pass epoch done) (chunk_end old (reading_of found)) old.rows found.rows m) retired p p)
    (sym (ap (λ rows. row_in rows marker_key) is.named ∙ marker_read p.new.rows part.pk))
    (new_read_law p retired part pass epoch done old (reading_of found) (new_at p part.pk marker_key) s know refl
    (entries_known p retired part.pk found.rows s (subst (AllByRecursion (IsRowOf p.new.rows part.pk)) (sym is.rows) (all_taken (IsRowOf p.new.rows part.pk) 50 _ (members p.new.rows part.pk (next_rows done (end_of old)) rise))))
    (λ rk other from within. reading_is p.new.rows part.pk done (end_of old) found rk rise is.rows is.more from
    (lesser_left (end_of old) (end_of (reading_of found)) rk within) (lesser_right (end_of old) (end_of (reading_of found)) rk within)))

-- ---- steps that change a store

shows_all : (own : List Fact) (p q : Pair) (pk : List ℕ) → Shows own p q pk → ShowsSame p q
shows_all own p q pk h x rk = by_part pk x (λ y. logical q y rk ≡ logical p y rk) (h.same rk) (λ ne. h.step.others x rk ne)

changed : (p q : Pair) (retired : Bool) (state to : State) (pk : List ℕ) → Shows (state_facts state) p q pk → AllHold q retired (state_facts to) → ((f : Fact) → Holds p retired f → ApartFrom f (state_facts state) → ApartFrom f (state_facts to)) → MoverStep state to retired p q
changed p q retired state to pk h know apart = record {
  sound = h.step.sound;
  grows = h.step.grows;
  knows = know;
  apart = apart;
  stays = λ x. x;
  retires = λ x. inl x;
  does = shows_all (state_facts state) p q pk h;
}

prepare_law : (p : Pair) (retired : Bool) (part : Part) (rows : List StoredRow) (m : Option StoredRow) (c : Contents) (tags : List Tag) → IsSound p → AllHold p retired (state_facts (at.Prepare part rows)) → row_in rows marker_key ≡ m → phase_said m ≡ Some UseOld
    → WasDone p.old_number p.old part.pk (replaces (old_kind PreferOld) (tag_or m) ∷ []) c tags → MoverStep (at.Prepare part rows) (at.Claim part (First (first_tag tags))) retired p (with_old p c)
prepare_law p retired part rows None c tags s know at_marker fits done = absurd (let e = fits in cc)
prepare_law p retired part rows (Some m) c tags s know at_marker fits done =
    let own = state_facts (at.Prepare part rows) in
    let h = prepared own p part.pk m.props m.tag s (known_in Old p retired part.pk rows (hold_first p retired (row_facts Old part.pk rows) (walk_facts part) know) marker_key m at_marker) fits done.met in
    let q = with_old p (contents_after p.old_number p.old part.pk (replaces (old_kind PreferOld) m.tag ∷ [])) in
    let there : old_at q part.pk marker_key ≡ Some (record { props = marker_props (old_kind PreferOld); tag = next_tag p.old_number p.old.counter }) = all_puts p.old_number p.old.counter part.pk (replaces (old_kind PreferOld) m.tag ∷ []) p.old.rows marker_key in
    let tag_is : first_tag tags ≡ next_tag p.old_number p.old.counter = ap first_tag done.answer in
    subst (λ x. MoverStep (at.Prepare part rows) (at.Claim part (First (first_tag tags))) retired p (with_old p x)) (sym done.contents)
    (subst (λ t. MoverStep (at.Prepare part rows) (at.Claim part (First t)) retired p q) (sym tag_is)
    (changed p q retired (at.Prepare part rows) (at.Claim part (First (next_tag p.old_number p.old.counter))) part.pk h (
      ap (λ x. is_begun (old_state x) (new_state_at q part.pk)) there ∙ ap (λ x. is_begun (old_says x) (new_state_at q part.pk)) (old_read p.old_number PreferOld),
      (
        row_known p.old_number q.old part.pk marker_key _ h.step.sound.tags.0 there,
        plain_kept own p q retired s h.step.sound h.step.grows (walk_facts part) (behind_plain part.walk (start.From part.pk)) (hold_rest p retired (row_facts Old part.pk rows) (walk_facts part) know),
      ),
    )
    (λ f x a. plain_apart f (state_facts (at.Claim part (First (next_tag p.old_number p.old.counter)))) (tt, (tt, behind_plain part.walk (start.From part.pk))))))

switch_law : (p : Pair) (retired : Bool) (part : Part) (marker epoch : Tag) (c : Contents) (tags : List Tag) → IsSound p → AllHold p retired (state_facts (at.Switch part marker epoch))
    → WasDone p.old_number p.old part.pk (replaces (old_kind PreferNew) marker ∷ []) c tags → MoverStep (at.Switch part marker epoch) (pass_begun part Second epoch) retired p (with_old p c)
switch_law p retired part marker epoch c tags s know done =
    let own = state_facts (at.Switch part marker epoch) in
    let h = switched own p part.pk marker s know.1.0 know.0.marked done.met in
    let q = with_old p (contents_after p.old_number p.old part.pk (replaces (old_kind PreferNew) marker ∷ [])) in
    let there : old_at q part.pk marker_key ≡ Some (record { props = marker_props (old_kind PreferNew); tag = next_tag p.old_number p.old.counter }) = all_puts p.old_number p.old.counter part.pk (replaces (old_kind PreferNew) marker ∷ []) p.old.rows marker_key in
    subst (λ x. MoverStep (at.Switch part marker epoch) (pass_begun part Second epoch) retired p (with_old p x)) (sym done.contents)
    (changed p q retired (at.Switch part marker epoch) (pass_begun part Second epoch) part.pk h (
      epoch_alone own p q part.pk epoch keys.None s h.step.sound h.step.grows know.0,
      (
        turned_known q part.pk keys.None [] h.step.sound (ap (λ x. is_prefer_new (old_state x)) there ∙ ap (λ x. is_prefer_new (old_says x)) (old_read p.old_number PreferNew)) (λ rk x. absurd x),
        plain_kept own p q retired s h.step.sound h.step.grows (walk_facts part) (behind_plain part.walk (start.From part.pk)) know.1.1,
      ),
    )
    (λ f x a. (a.0, (plain_right f (old_known part.pk Second) tt, plain_apart f (walk_facts part) (behind_plain part.walk (start.From part.pk))))))

begun_law : (p q : Pair) (retired : Bool) (state : State) (part : Part) (pass : Pass) → IsSound p → Begins (state_facts state) p q part.pk → AllHold p retired (old_known part.pk pass ∷ walk_facts part)
    → MoverStep state (pass_begun part pass (next_tag p.new_number p.new.counter)) retired p q
begun_law p q retired state part pass s h know =
    let n = next_tag p.new_number p.new.counter in
    let c = copying_of part pass n None in
    changed p q retired state (pass_begun part pass n) part.pk h.shows (
      as_known q retired c pass keys.None (λ e. h.epoch) h.epoch,
      plain_kept (state_facts state) p q retired s h.shows.step.sound h.shows.step.grows (old_known part.pk pass ∷ walk_facts part) (old_plain part.pk pass, behind_plain part.walk (start.From part.pk)) know,
    )
    (λ f x a. (
      apart_known f c pass keys.None keys.None (fresh_apart p retired f part.pk n keys.None (omega arith) x),
      (plain_right f (old_known part.pk pass) (old_plain part.pk pass), plain_apart f (walk_facts part) (behind_plain part.walk (start.From part.pk))),
    ))

begin_law : (p : Pair) (retired : Bool) (part : Part) (pass : Pass) (c : Contents) (tags : List Tag) → IsSound p → AllHold p retired (state_facts (at.Begin part pass))
    → WasDone p.new_number p.new part.pk (put.Insert marker_key (marker_props (new_kind Filling)) ∷ []) c tags → MoverStep (at.Begin part pass) (pass_begun part pass (first_tag tags)) retired p (with_new p c)
begin_law p retired part pass c tags s know done =
    subst (λ x. MoverStep (at.Begin part pass) (pass_begun part pass (first_tag tags)) retired p (with_new p x)) (sym done.contents)
    (subst (λ t. MoverStep (at.Begin part pass) (pass_begun part pass t) retired p (with_new p (contents_after p.new_number p.new part.pk (put.Insert marker_key (marker_props (new_kind Filling)) ∷ [])))) (sym (ap first_tag done.answer))
    (begun_law p _ retired (at.Begin part pass) part pass s (begins (state_facts (at.Begin part pass)) p part.pk s know.0 done.met) know.1))

takeover_law : (p : Pair) (retired : Bool) (part : Part) (pass : Pass) (filling : Tag) (c : Contents) (tags : List Tag) → IsSound p → AllHold p retired (state_facts (at.Takeover part pass filling))
    → WasDone p.new_number p.new part.pk (replaces (new_kind Filling) filling ∷ []) c tags → MoverStep (at.Takeover part pass filling) (pass_begun part pass (first_tag tags)) retired p (with_new p c)
takeover_law p retired part pass filling c tags s know done =
    subst (λ x. MoverStep (at.Takeover part pass filling) (pass_begun part pass (first_tag tags)) retired p (with_new p x)) (sym done.contents)
    (subst (λ t. MoverStep (at.Takeover part pass filling) (pass_begun part pass t) retired p (with_new p (contents_after p.new_number p.new part.pk (replaces (new_kind Filling) filling ∷ [])))) (sym (ap first_tag done.answer))
    (begun_law p _ retired (at.Takeover part pass filling) part pass s (takes_over (state_facts (at.Takeover part pass filling)) p part.pk filling s know.0 done.met) know.1))

finish_law : (p : Pair) (retired : Bool) (part : Part) (epoch : Tag) (c : Contents) (tags : List Tag) → IsSound p → AllHold p retired (state_facts (at.Finish part epoch))
    → WasDone p.new_number p.new part.pk (replaces (new_kind UseNew) epoch ∷ []) c tags → MoverStep (at.Finish part epoch) (onward part) retired p (with_new p c)
finish_law p retired part epoch c tags s know done =
    let own = state_facts (at.Finish part epoch) in
    let h = finishes own p part.pk epoch (keys.Within Start None []) s know.0 (λ rk. (refl, refl, refl)) done.met in
    let q = with_new p (contents_after p.new_number p.new part.pk (replaces (new_kind UseNew) epoch ∷ [])) in
    let there : new_at q part.pk marker_key ≡ Some (record { props = marker_props (new_kind UseNew); tag = next_tag p.new_number p.new.counter }) = all_puts p.new_number p.new.counter part.pk (replaces (new_kind UseNew) epoch ∷ []) p.new.rows marker_key in
    subst (λ x. MoverStep (at.Finish part epoch) (onward part) retired p (with_new p x)) (sym done.contents)
    (changed p q retired (at.Finish part epoch) (onward part) part.pk h
    (further q retired part (plain_kept own p q retired s h.step.sound h.step.grows (walk_facts part) (behind_plain part.walk (start.From part.pk)) know.1) (λ x. ap (λ y. is_use_new (new_state y)) there))
    (λ f x a. plain_apart f (state_facts (onward part)) (behind_plain part.walk (start.After part.pk))))

seal_law : (p : Pair) (retired : Bool) → IsSound p → MoverStep at.SealOld (at.Walk AfterSeal (start.From [])) retired p (with_old p (sealed_of p.old))
seal_law p retired s = (let h = seals (state_facts at.SealOld) p s in record {
  sound = h.sound;
  grows = h.grows;
  knows = (record { sealed = refl; moved = λ x before there. absurd (none x before) }, tt);
  apart = λ f x a. (plain_right f (fact.Swept (Some (start.From []))) tt, tt);
  stays = λ x. x;
  retires = λ x. inl x;
  does = h.same;
}) where
  none : (x : List ℕ) → is_le (slice_cmp nat_cmp [] x) ≡ false → ⊥
  none [] e = cc
  none (y ∷ ys) e = cc

-- ---- the copies are written

mine : (copying : CopyingPart) (pass : Pass) (part : Keys) (rest : List Fact) → ApartFrom (fact.Epoch copying.part.pk copying.epoch keys.None) (epoch_known copying pass part ∷ rest) → ⊥
mine copying (First marker) part rest h = h.0 refl refl
mine copying Second part rest h = h.0 refl refl

module _ (p : Pair) (retired : Bool) (part : Part) (pass : Pass) (epoch : Tag) (done upto : Option (List ℕ)) (rows entries : List StoredRow) (puts : List Put) (s : IsSound p)
    (fits : MigratorFits (at.Write (copying_of part pass epoch done) upto rows entries)) (know : AllHold p retired (state_facts (at.Write (copying_of part pass epoch done) upto rows entries)))
    (are : ArePuts upto rows entries puts) (met : unmet_from 0 p.new.rows part.pk (put.Check marker_key epoch ∷ puts) ≡ None) where
  abbrev here_at : State
  here_at = at.Write (copying_of part pass epoch done) upto rows entries

  abbrev written_pair : Pair
  written_pair = with_new p (contents_after p.new_number p.new part.pk (put.Check marker_key epoch ∷ puts))

  after_kept : AllHold p retired (row_facts New part.pk entries ++ walk_facts part)
  after_kept = hold_rest p retired (kept_facts part.pk rows) (row_facts New part.pk entries ++ walk_facts part) know.1.1.1

  walk_known : AllHold p retired (walk_facts part)
  walk_known = hold_rest p retired (row_facts New part.pk entries) (walk_facts part) after_kept

  good : Each (CopyPut p part.pk) puts
  good = each_good p part.pk upto rows entries puts are.each
      (kept_row_at p retired part.pk rows (hold_first p retired (kept_facts part.pk rows) (row_facts New part.pk entries ++ walk_facts part) know.1.1.1))
      (known_at p retired part.pk entries (hold_first p retired (row_facts New part.pk entries) (walk_facts part) after_kept))

  alone : KnowsEpoch p part.pk epoch keys.None
  alone = known_alone p retired (copying_of part pass epoch done) pass (keys.Within Start upto (waiting upto rows entries)) know.0

  not_mine : ApartFrom (fact.Epoch part.pk epoch keys.None) (state_facts here_at) → ⊥
  not_mine = mine (copying_of part pass epoch done) pass (keys.Within Start upto (waiting upto rows entries))
      (done_known (copying_of part pass epoch done) ∷ rows_known (copying_of part pass epoch done) pass upto rows ∷ (kept_facts part.pk rows ++ (row_facts New part.pk entries ++ walk_facts part)))

  shows : Shows (state_facts here_at) p written_pair part.pk
  shows = copies (state_facts here_at) p part.pk epoch keys.None puts s alone good met not_mine

  the_row_there : (r : Stored) × (new_at p part.pk marker_key ≡ Some r) × (r.tag ≡ epoch)
  the_row_there = the_marker (state_facts here_at) p part.pk epoch keys.None puts s alone good met not_mine

  alone_after : KnowsEpoch written_pair part.pk epoch keys.None
  alone_after = epoch_alone (state_facts here_at) p written_pair part.pk epoch keys.None s shows.step.sound shows.step.grows alone

  row_after_write : (rk : List ℕ) → new_at written_pair part.pk rk ≡ row_after p.new_number p.new.counter puts rk (new_at p part.pk rk)
  row_after_write = copy_row (state_facts here_at) p part.pk epoch keys.None puts s alone good met not_mine

  epoch_after : (pass' : Pass) → Holds p retired (epoch_known (copying_of part pass epoch done) pass' (keys.Within Start upto (waiting upto rows entries))) → Holds p retired (epoch_known (copying_of part pass epoch done) pass' (done_keys done))
      → Holds p retired (rows_known (copying_of part pass epoch done) pass' upto rows) → Holds written_pair retired (epoch_known (copying_of part pass epoch done) pass' (keys.Within Start upto []))
  epoch_after (First marker) e d r = alone_after
  epoch_after Second e d r =
      let fills = fills_at p part.pk epoch keys.None the_row_there.0 alone the_row_there.1 the_row_there.2 in
      epoch_written p written_pair part.pk epoch done upto rows entries puts e d (r.turned fills) the_row_there.0 the_row_there.1 the_row_there.2 are good
      (λ rk other from within. r.rows fills rk other (from, within, refl))
      (λ rk there. named_past done upto rows entries puts rk fits.0.1 fits.1.1 are.each there)
      refl alone_after row_after_write

  write_law : MoverStep here_at (chunk_done (copying_of part pass epoch done) upto) retired p written_pair
  write_law = changed p written_pair retired here_at (chunk_done (copying_of part pass epoch done) upto) part.pk shows
      (done_knows written_pair retired part pass epoch done upto upto rows (epoch_after pass know.0 know.1.0 know.1.1.0)
      (fact_kept (state_facts here_at) p written_pair retired retired s shows.step.sound shows.step.grows (λ x. x) (rows_known (copying_of part pass epoch done) pass upto rows) know.1.1.0
      (apart_left (rows_known (copying_of part pass epoch done) pass upto rows) (state_facts here_at) (rows_plain (copying_of part pass epoch done) pass upto rows)))
      (plain_kept (state_facts here_at) p written_pair retired s shows.step.sound shows.step.grows (walk_facts part) (behind_plain part.walk (start.From part.pk)) walk_known))
      (λ f x a. done_apart f part pass epoch done upto (known_apart f (copying_of part pass epoch done) pass (keys.Within Start upto (waiting upto rows entries)) keys.None a.0))

unmet_law : (p : Pair) (retired : Bool) (part : Part) (pass : Pass) (epoch : Tag) (done upto : Option (List ℕ)) (rows entries : List StoredRow) (index : ℕ) → IsSound p → AllHold p retired (state_facts (at.Write (copying_of part pass epoch done) upto rows entries))
    → MoverStep (at.Write (copying_of part pass epoch done) upto rows entries) (unwritten (copying_of part pass epoch done) index) retired p p
unmet_law p retired part pass epoch done upto rows entries index s know = go (index == 0) where
  walk : AllHold p retired (walk_facts part)
  walk = hold_rest p retired (row_facts New part.pk entries) (walk_facts part) (hold_rest p retired (kept_facts part.pk rows) (row_facts New part.pk entries ++ walk_facts part) know.1.1.1)

  go : (b : Bool) → MoverStep (at.Write (copying_of part pass epoch done) upto rows entries) (cond b (at.Look part) (at.ReadOld (copying_of part pass epoch done))) retired p p
  go true = to_look p retired (at.Write (copying_of part pass epoch done) upto rows entries) part s walk
  go false = step_same p retired (at.Write (copying_of part pass epoch done) upto rows entries) (at.ReadOld (copying_of part pass epoch done)) s
      (know.1.0, (rows_to_old p retired (copying_of part pass epoch done) pass upto rows know.1.1.0, walk))
      (λ f a. (a.1.0, (plain_right f (old_known part.pk pass) (old_plain part.pk pass), plain_apart f (walk_facts part) (behind_plain part.walk (start.From part.pk)))))

-- ---- a step

-- a call that changes nothing leaves the pair as it is
old_stays : (p q : Pair) (retired : Bool) (state to : State) → q.old ≡ p.old → q ≡ with_old p q.old → MoverStep state to retired p p → MoverStep state to retired p q
old_stays p q retired state to same is h = subst (λ x. MoverStep state to retired p x) (sym (is ∙ ap (with_old p) same)) h

new_stays : (p q : Pair) (retired : Bool) (state to : State) → q.new ≡ p.new → q ≡ with_new p q.new → MoverStep state to retired p p → MoverStep state to retired p q
new_stays p q retired state to same is h = subst (λ x. MoverStep state to retired p x) (sym (is ∙ ap (with_new p) same)) h

old_turns : (p q : Pair) (retired : Bool) (state to : State) → q ≡ with_old p q.old → MoverStep state to retired p (with_old p q.old) → MoverStep state to retired p q
old_turns p q retired state to is h = subst (λ x. MoverStep state to retired p x) (sym is) h

new_turns : (p q : Pair) (retired : Bool) (state to : State) → q ≡ with_new p q.new → MoverStep state to retired p (with_new p q.new) → MoverStep state to retired p q
new_turns p q retired state to is h = subst (λ x. MoverStep state to retired p x) (sym is) h

-- where each reply leads, over two stores that tell their rows in the order of their keys
moved_law : (state : State) (r : StoreReply) (a : StoreAsk) (p q : Pair) (retired : Bool) → MigratorFits state → IsSound p → p.old_number < p.new_number → are_rising p.old.rows ≡ true → are_rising p.new.rows ≡ true
    → AllHold p retired (state_facts state) → Asks state a → PairMeans a r p q → MoverStep state (moved state r) retired p q
moved_law (at.Walk walk from) (reply.Next next) a p q retired fits s lower old new know asks means = (let m = (subst (λ x. PairMeans x (reply.Next next) p q) asks means) in old_stays p q retired (at.Walk walk from) (walked walk next.pk) m.0.0 m.1 (walk_law p retired walk from next.pk s know m.0.1))
moved_law (at.Walk walk from) (reply.Found found) a p q retired fits s lower old new know asks means = absurd (subst (λ x. PairMeans x (reply.Found found) p q) asks means).0
moved_law (at.Walk walk from) (reply.Applied tags) a p q retired fits s lower old new know asks means = absurd (subst (λ x. PairMeans x (reply.Applied tags) p q) asks means).0
moved_law (at.Walk walk from) (reply.Unmet index) a p q retired fits s lower old new know asks means = absurd (subst (λ x. PairMeans x (reply.Unmet index) p q) asks means).0
moved_law (at.Walk walk from) reply.SealedOff a p q retired fits s lower old new know asks means = absurd (subst (λ x. PairMeans x reply.SealedOff p q) asks means).0
moved_law (at.Walk walk from) reply.SealDone a p q retired fits s lower old new know asks means = absurd (subst (λ x. PairMeans x reply.SealDone p q) asks means).0
moved_law at.SealOld reply.SealDone a p q retired fits s lower old new know asks means = (let m = (subst (λ x. PairMeans x reply.SealDone p q) asks means) in old_turns p q retired at.SealOld (at.Walk AfterSeal (start.From [])) m.1 (subst (λ c. MoverStep at.SealOld (at.Walk AfterSeal (start.From [])) retired p (with_old p c)) (sym m.0) (seal_law p retired s)))
moved_law at.SealOld (reply.Next next) a p q retired fits s lower old new know asks means = absurd (subst (λ x. PairMeans x (reply.Next next) p q) asks means).0
moved_law at.SealOld (reply.Found found) a p q retired fits s lower old new know asks means = absurd (subst (λ x. PairMeans x (reply.Found found) p q) asks means).0
moved_law at.SealOld (reply.Applied tags) a p q retired fits s lower old new know asks means = absurd (subst (λ x. PairMeans x (reply.Applied tags) p q) asks means).0
moved_law at.SealOld (reply.Unmet index) a p q retired fits s lower old new know asks means = absurd (subst (λ x. PairMeans x (reply.Unmet index) p q) asks means).0
moved_law at.SealOld reply.SealedOff a p q retired fits s lower old new know asks means = absurd (subst (λ x. PairMeans x reply.SealedOff p q) asks means).0
moved_law (at.Look part) (reply.Found found) a p q retired fits s lower old new know asks means = (let m = (subst (λ x. PairMeans x (reply.Found found) p q) asks means) in old_stays p q retired (at.Look part) (looked part found.named) m.0.0 m.1 (looked_law p retired part found s know m.0.1))
moved_law (at.Look part) (reply.Next next) a p q retired fits s lower old new know asks means = absurd (subst (λ x. PairMeans x (reply.Next next) p q) asks means).0
moved_law (at.Look part) (reply.Applied tags) a p q retired fits s lower old new know asks means = absurd (subst (λ x. PairMeans x (reply.Applied tags) p q) asks means).0
moved_law (at.Look part) (reply.Unmet index) a p q retired fits s lower old new know asks means = absurd (subst (λ x. PairMeans x (reply.Unmet index) p q) asks means).0
moved_law (at.Look part) reply.SealedOff a p q retired fits s lower old new know asks means = absurd (subst (λ x. PairMeans x reply.SealedOff p q) asks means).0
moved_law (at.Look part) reply.SealDone a p q retired fits s lower old new know asks means = absurd (subst (λ x. PairMeans x reply.SealDone p q) asks means).0
moved_law (at.Prepare part rows) (reply.Applied tags) a p q retired fits s lower old new know asks means = (let m = (subst (λ x. PairMeans x (reply.Applied tags) p q) asks means) in old_turns p q retired (at.Prepare part rows) (at.Claim part (First (first_tag tags))) m.1 (prepare_law p retired part rows (row_in rows marker_key) q.old tags s know refl fits (was_done p.old_number p.old part.pk _ q.old tags m.0.0)))
moved_law (at.Prepare part rows) (reply.Unmet index) a p q retired fits s lower old new know asks means = (let m = (subst (λ x. PairMeans x (reply.Unmet index) p q) asks means) in old_stays p q retired (at.Prepare part rows) (at.Look part) m.0.1 m.1 (to_look p retired (at.Prepare part rows) part s (hold_rest p retired (row_facts Old part.pk rows) (walk_facts part) know)))
moved_law (at.Prepare part rows) reply.SealedOff a p q retired fits s lower old new know asks means = (let m = (subst (λ x. PairMeans x reply.SealedOff p q) asks means) in old_stays p q retired (at.Prepare part rows) (at.Look part) m.0.1 m.1 (to_look p retired (at.Prepare part rows) part s (hold_rest p retired (row_facts Old part.pk rows) (walk_facts part) know)))
moved_law (at.Prepare part rows) (reply.Next next) a p q retired fits s lower old new know asks means = absurd (subst (λ x. PairMeans x (reply.Next next) p q) asks means).0
moved_law (at.Prepare part rows) (reply.Found found) a p q retired fits s lower old new know asks means = absurd (subst (λ x. PairMeans x (reply.Found found) p q) asks means).0
moved_law (at.Prepare part rows) reply.SealDone a p q retired fits s lower old new know asks means = absurd (subst (λ x. PairMeans x reply.SealDone p q) asks means).0
moved_law (at.Claim part pass) (reply.Found found) a p q retired fits s lower old new know asks means = (let m = (subst (λ x. PairMeans x (reply.Found found) p q) asks means) in new_stays p q retired (at.Claim part pass) (claimed part pass (row_in found.named marker_key)) m.0.0 m.1 (claimed_law p retired part pass found s know m.0.1))
moved_law (at.Claim part pass) (reply.Next next) a p q retired fits s lower old new know asks means = absurd (subst (λ x. PairMeans x (reply.Next next) p q) asks means).0
moved_law (at.Claim part pass) (reply.Applied tags) a p q retired fits s lower old new know asks means = absurd (subst (λ x. PairMeans x (reply.Applied tags) p q) asks means).0
moved_law (at.Claim part pass) (reply.Unmet index) a p q retired fits s lower old new know asks means = absurd (subst (λ x. PairMeans x (reply.Unmet index) p q) asks means).0
moved_law (at.Claim part pass) reply.SealedOff a p q retired fits s lower old new know asks means = absurd (subst (λ x. PairMeans x reply.SealedOff p q) asks means).0
moved_law (at.Claim part pass) reply.SealDone a p q retired fits s lower old new know asks means = absurd (subst (λ x. PairMeans x reply.SealDone p q) asks means).0
moved_law (at.Begin part pass) (reply.Applied tags) a p q retired fits s lower old new know asks means = (let m = (subst (λ x. PairMeans x (reply.Applied tags) p q) asks means) in new_turns p q retired (at.Begin part pass) (pass_begun part pass (first_tag tags)) m.1 (begin_law p retired part pass q.new tags s know (was_done p.new_number p.new part.pk _ q.new tags m.0.0)))
moved_law (at.Begin part pass) (reply.Unmet index) a p q retired fits s lower old new know asks means = (let m = (subst (λ x. PairMeans x (reply.Unmet index) p q) asks means) in new_stays p q retired (at.Begin part pass) (at.Look part) m.0.1 m.1 (to_look p retired (at.Begin part pass) part s know.1.1))
moved_law (at.Begin part pass) reply.SealedOff a p q retired fits s lower old new know asks means = (let m = (subst (λ x. PairMeans x reply.SealedOff p q) asks means) in new_stays p q retired (at.Begin part pass) (at.Look part) m.0.1 m.1 (to_look p retired (at.Begin part pass) part s know.1.1))
moved_law (at.Begin part pass) (reply.Next next) a p q retired fits s lower old new know asks means = absurd (subst (λ x. PairMeans x (reply.Next next) p q) asks means).0
moved_law (at.Begin part pass) (reply.Found found) a p q retired fits s lower old new know asks means = absurd (subst (λ x. PairMeans x (reply.Found found) p q) asks means).0
moved_law (at.Begin part pass) reply.SealDone a p q retired fits s lower old new know asks means = absurd (subst (λ x. PairMeans x reply.SealDone p q) asks means).0
moved_law (at.Takeover part pass filling) (reply.Applied tags) a p q retired fits s lower old new know asks means = (let m = (subst (λ x. PairMeans x (reply.Applied tags) p q) asks means) in new_turns p q retired (at.Takeover part pass filling) (pass_begun part pass (first_tag tags)) m.1 (takeover_law p retired part pass filling q.new tags s know (was_done p.new_number p.new part.pk _ q.new tags m.0.0)))
moved_law (at.Takeover part pass filling) (reply.Unmet index) a p q retired fits s lower old new know asks means = (let m = (subst (λ x. PairMeans x (reply.Unmet index) p q) asks means) in new_stays p q retired (at.Takeover part pass filling) (at.Look part) m.0.1 m.1 (to_look p retired (at.Takeover part pass filling) part s know.1.1))
moved_law (at.Takeover part pass filling) reply.SealedOff a p q retired fits s lower old new know asks means = (let m = (subst (λ x. PairMeans x reply.SealedOff p q) asks means) in new_stays p q retired (at.Takeover part pass filling) (at.Look part) m.0.1 m.1 (to_look p retired (at.Takeover part pass filling) part s know.1.1))
moved_law (at.Takeover part pass filling) (reply.Next next) a p q retired fits s lower old new know asks means = absurd (subst (λ x. PairMeans x (reply.Next next) p q) asks means).0
moved_law (at.Takeover part pass filling) (reply.Found found) a p q retired fits s lower old new know asks means = absurd (subst (λ x. PairMeans x (reply.Found found) p q) asks means).0
moved_law (at.Takeover part pass filling) reply.SealDone a p q retired fits s lower old new know asks means = absurd (subst (λ x. PairMeans x reply.SealDone p q) asks means).0
moved_law (at.ReadOld c) (reply.Found found) a p q retired fits s lower old new know asks means = (let m = (subst (λ x. PairMeans x (reply.Found found) p q) asks means) in old_stays p q retired (at.ReadOld c) (read_old c (reading_of found) (row_in found.named marker_key)) m.0.0 m.1 (read_old_law p retired c.part c.pass c.epoch c.done found s lower old know m.0.1))
moved_law (at.ReadOld c) (reply.Next next) a p q retired fits s lower old new know asks means = absurd (subst (λ x. PairMeans x (reply.Next next) p q) asks means).0
moved_law (at.ReadOld c) (reply.Applied tags) a p q retired fits s lower old new know asks means = absurd (subst (λ x. PairMeans x (reply.Applied tags) p q) asks means).0
moved_law (at.ReadOld c) (reply.Unmet index) a p q retired fits s lower old new know asks means = absurd (subst (λ x. PairMeans x (reply.Unmet index) p q) asks means).0
moved_law (at.ReadOld c) reply.SealedOff a p q retired fits s lower old new know asks means = absurd (subst (λ x. PairMeans x reply.SealedOff p q) asks means).0
moved_law (at.ReadOld c) reply.SealDone a p q retired fits s lower old new know asks means = absurd (subst (λ x. PairMeans x reply.SealDone p q) asks means).0
moved_law (at.ReadNew c reading) (reply.Found found) a p q retired fits s lower old new know asks means = (let m = (subst (λ x. PairMeans x (reply.Found found) p q) asks means) in new_stays p q retired (at.ReadNew c reading) (read_new c (chunk_end reading (reading_of found)) reading.rows found.rows (row_in found.named marker_key)) m.0.0 m.1 (read_new_law p retired c.part c.pass c.epoch c.done reading found s new know m.0.1))
moved_law (at.ReadNew c reading) (reply.Next next) a p q retired fits s lower old new know asks means = absurd (subst (λ x. PairMeans x (reply.Next next) p q) asks means).0
moved_law (at.ReadNew c reading) (reply.Applied tags) a p q retired fits s lower old new know asks means = absurd (subst (λ x. PairMeans x (reply.Applied tags) p q) asks means).0
moved_law (at.ReadNew c reading) (reply.Unmet index) a p q retired fits s lower old new know asks means = absurd (subst (λ x. PairMeans x (reply.Unmet index) p q) asks means).0
moved_law (at.ReadNew c reading) reply.SealedOff a p q retired fits s lower old new know asks means = absurd (subst (λ x. PairMeans x reply.SealedOff p q) asks means).0
moved_law (at.ReadNew c reading) reply.SealDone a p q retired fits s lower old new know asks means = absurd (subst (λ x. PairMeans x reply.SealDone p q) asks means).0
moved_law (at.Write c upto rows entries) (reply.Applied tags) a p q retired fits s lower old new know asks means = (let m = (subst (λ x. PairMeans x (reply.Applied tags) p q) asks.2 means) in let d = was_done p.new_number p.new c.part.pk (put.Check marker_key c.epoch ∷ asks.0) q.new tags m.0.0 in new_turns p q retired (at.Write c upto rows entries) (chunk_done c upto) m.1 (subst (λ x. MoverStep (at.Write c upto rows entries) (chunk_done c upto) retired p (with_new p x)) (sym d.contents) (write_law p retired c.part c.pass c.epoch c.done upto rows entries asks.0 s fits know asks.1 d.met)))
moved_law (at.Write c upto rows entries) (reply.Unmet index) a p q retired fits s lower old new know asks means = (let m = (subst (λ x. PairMeans x (reply.Unmet index) p q) asks.2 means) in new_stays p q retired (at.Write c upto rows entries) (unwritten c index) m.0.1 m.1 (unmet_law p retired c.part c.pass c.epoch c.done upto rows entries index s know))
moved_law (at.Write c upto rows entries) reply.SealedOff a p q retired fits s lower old new know asks means = (let m = (subst (λ x. PairMeans x reply.SealedOff p q) asks.2 means) in new_stays p q retired (at.Write c upto rows entries) (at.Look c.part) m.0.1 m.1 (unmet_law p retired c.part c.pass c.epoch c.done upto rows entries 0 s know))
moved_law (at.Write c upto rows entries) (reply.Next next) a p q retired fits s lower old new know asks means = absurd (subst (λ x. PairMeans x (reply.Next next) p q) asks.2 means).0
moved_law (at.Write c upto rows entries) (reply.Found found) a p q retired fits s lower old new know asks means = absurd (subst (λ x. PairMeans x (reply.Found found) p q) asks.2 means).0
moved_law (at.Write c upto rows entries) reply.SealDone a p q retired fits s lower old new know asks means = absurd (subst (λ x. PairMeans x reply.SealDone p q) asks.2 means).0
moved_law (at.Switch part marker epoch) (reply.Applied tags) a p q retired fits s lower old new know asks means = (let m = (subst (λ x. PairMeans x (reply.Applied tags) p q) asks means) in old_turns p q retired (at.Switch part marker epoch) (pass_begun part Second epoch) m.1 (switch_law p retired part marker epoch q.old tags s know (was_done p.old_number p.old part.pk _ q.old tags m.0.0)))
moved_law (at.Switch part marker epoch) (reply.Unmet index) a p q retired fits s lower old new know asks means = (let m = (subst (λ x. PairMeans x (reply.Unmet index) p q) asks means) in old_stays p q retired (at.Switch part marker epoch) (at.Look part) m.0.1 m.1 (to_look p retired (at.Switch part marker epoch) part s know.1.1))
moved_law (at.Switch part marker epoch) reply.SealedOff a p q retired fits s lower old new know asks means = (let m = (subst (λ x. PairMeans x reply.SealedOff p q) asks means) in old_stays p q retired (at.Switch part marker epoch) (at.Look part) m.0.1 m.1 (to_look p retired (at.Switch part marker epoch) part s know.1.1))
moved_law (at.Switch part marker epoch) (reply.Next next) a p q retired fits s lower old new know asks means = absurd (subst (λ x. PairMeans x (reply.Next next) p q) asks means).0
moved_law (at.Switch part marker epoch) (reply.Found found) a p q retired fits s lower old new know asks means = absurd (subst (λ x. PairMeans x (reply.Found found) p q) asks means).0
moved_law (at.Switch part marker epoch) reply.SealDone a p q retired fits s lower old new know asks means = absurd (subst (λ x. PairMeans x reply.SealDone p q) asks means).0
moved_law (at.Finish part epoch) (reply.Applied tags) a p q retired fits s lower old new know asks means = (let m = (subst (λ x. PairMeans x (reply.Applied tags) p q) asks means) in new_turns p q retired (at.Finish part epoch) (onward part) m.1 (finish_law p retired part epoch q.new tags s know (was_done p.new_number p.new part.pk _ q.new tags m.0.0)))
moved_law (at.Finish part epoch) (reply.Unmet index) a p q retired fits s lower old new know asks means = (let m = (subst (λ x. PairMeans x (reply.Unmet index) p q) asks means) in new_stays p q retired (at.Finish part epoch) (at.Look part) m.0.1 m.1 (to_look p retired (at.Finish part epoch) part s know.1))
moved_law (at.Finish part epoch) reply.SealedOff a p q retired fits s lower old new know asks means = (let m = (subst (λ x. PairMeans x reply.SealedOff p q) asks means) in new_stays p q retired (at.Finish part epoch) (at.Look part) m.0.1 m.1 (to_look p retired (at.Finish part epoch) part s know.1))
moved_law (at.Finish part epoch) (reply.Next next) a p q retired fits s lower old new know asks means = absurd (subst (λ x. PairMeans x (reply.Next next) p q) asks means).0
moved_law (at.Finish part epoch) (reply.Found found) a p q retired fits s lower old new know asks means = absurd (subst (λ x. PairMeans x (reply.Found found) p q) asks means).0
moved_law (at.Finish part epoch) reply.SealDone a p q retired fits s lower old new know asks means = absurd (subst (λ x. PairMeans x reply.SealDone p q) asks means).0
moved_law at.Done r a p q retired fits s lower old new know asks means = absurd asks

-- each step of a migrator is a step of an actor, after which clients see the same
pub mover_law : (state to : State) (a : StoreAsk) (r : StoreReply) (said : MoveProgress) (p q : Pair) (retired : Bool) → MigratorFits state → IsSound p → p.old_number < p.new_number → IsContents p.old → IsContents p.new
    → AllHold p retired (state_facts state) → Asks state a → PairMeans a r p q → Absorbs state r (Ok said) to → MoverStep state to retired p q
mover_law state to a r said p q retired fits s lower old new know asks means absorbs =
    subst (λ x. MoverStep state x retired p q) (sym absorbs.0) (moved_law state r a p q retired fits s lower old.rising new.rising know asks means)
