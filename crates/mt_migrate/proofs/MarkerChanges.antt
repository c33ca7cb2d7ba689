-- A marker is turned, or old is sealed: the pair stays sound, and clients see the same.
use Rattle.std.proofs.Common.{◌≡◌, ◌≢◌, ℕ, ◌+◌, ◌≤◌, Bool, true, false, cond, List, [], ◌∷◌, Option, Some, None, refl, sym, ap, ◌∙◌, subst, arith, inl, inr, bytes_eq}
use Rattle.mt_model.specs.declared.key.KeyPart.TheVariants.{Partition}
use Rattle.mt_model.specs.declared.tag.Tag.{Tag}
use Rattle.mt_model.specs.declared.value.Prop.{Prop}
use Rattle.mt_model.specs.Key.{part_fault}
use Rattle.mt_chain.specs.declared.row.Stored.{Stored}
use Rattle.mt_chain.specs.declared.row.Put.{Put}
use Rattle.mt_chain.specs.declared.row.Put.TheVariants.{Insert, Replace}
use Rattle.mt_chain.specs.Rows.{row_at}
use Rattle.mt_chain.specs.Puts.{row_key, unmet_from, next_tag}
use Rattle.mt_chain.specs.StoreCall.{Contents, sealed_of}
use Rattle.mt_chain.proofs.KeyLaws.{text_false}
use Rattle.mt_chain.proofs.PutLaws.{left_by, all_puts, each_held}
use Rattle.mt_chain.proofs.JudgeLaws.{contents_after}
use Rattle.mt_meta.specs.declared.marker.Phase.{Phase}
use Rattle.mt_meta.specs.declared.marker.Phase.TheVariants.{UseOld, PreferOld, PreferNew}
use Rattle.mt_meta.specs.declared.marker.NewPhase.{NewPhase}
use Rattle.mt_meta.specs.declared.marker.NewPhase.TheVariants.{Filling, UseNew}
use Rattle.mt_meta.specs.declared.mark.Mark.TheVariants.{Live, Copy, Tomb}
use Rattle.mt_meta.specs.Markers.{marker_key, marker_props, old_kind, new_kind, old_phase_of, new_phase_of}
use Rattle.mt_meta.specs.Marks.{mark_of}
use Rattle.mt_meta.specs.Logical.{Pair, OldState, NoOld, AtUseOld, AtPreferOld, AtPreferNew, BadOld, NewState, NoNew, AtFilling, AtUseNew, BadNew, old_says, new_says, old_state, new_state, old_at, new_at, old_state_at, new_state_at, from_old, from_new, filling_by, from_both, new_by, logical}
use Rattle.mt_meta.specs.Sound.{IsOldMarker, IsNewMarker, IsOldRow, IsEntry, IsCopyOrNone, IsKept, IsSound}
use Rattle.mt_meta.specs.Modes.{Mode, Empty, AtOld, Prepared, Copying, Overlaid, Settled, NewOnly, Broken, mode_of, mode, rank, FitsMode, shown_in}
use Rattle.mt_meta.specs.declared.fact.Keys.{Keys}
use Rattle.mt_meta.specs.declared.fact.Keys.TheVariants as keys
use Rattle.mt_meta.specs.declared.fact.Fact.{Fact}
use Rattle.mt_meta.specs.Facts.{InKeys, KnowsRow, KnowsEpoch, Exact, Grows, is_begun, is_marked, is_filling}
use Rattle.mt_meta.specs.Steps.{StepIn, with_old, with_new}
use Rattle.mt_meta.proofs.Rules.{old_read, new_read, key_cases, to_modes, from_modes}
use Rattle.mt_meta.proofs.ShownLaws.{logical_in}
use Rattle.mt_meta.proofs.ModeLaws.{IsWhole, old_in, new_in, says, whole, up, marked_rank, filling_ranks, prefer_new_ranks, is_overlaid}
use Rattle.mt_meta.proofs.Growth.{ages_self, stays_self, no_rows}
use Rattle.mt_meta.proofs.StorePuts.{moves_puts, IsSeen, seen, tagged, no_row, the_row}
use Rattle.mt_meta.proofs.Parts.{FormsAt, KeptAt, kept_on, old_early, new_step}

-- a step in one partition after which clients see the same
pub record Shows (own : List Fact) (p q : Pair) (pk : List ℕ) : Type 0 where
  pub step : StepIn own p q pk
  pub same : (rk : List ℕ) → logical q pk rk ≡ logical p pk rk

-- it is shown at clients' keys
pub same_at : (p q : Pair) (pk : List ℕ) → ((rk : List ℕ) → rk ≢ marker_key → logical q pk rk ≡ logical p pk rk) → (rk : List ℕ) → logical q pk rk ≡ logical p pk rk
same_at p q pk h rk = elim (key_cases rk) as (λ _. logical q pk rk ≡ logical p pk rk) [
  | inl e ↦ ap (logical q pk) e ∙ ap (logical p pk) (sym e)
  | inr other ↦ h rk other
]

pub along : (m m' : Mode) (row row' entry entry' : Option Stored) → m ≡ m' → row ≡ row' → entry ≡ entry' → shown_in m row entry ≡ shown_in m' row' entry'
along m m' row row' entry entry' a b c = ap (λ x. shown_in x row entry) a ∙ ap (λ x. shown_in m' x entry) b ∙ ap (shown_in m' row') c

fits_at : (p : Pair) (pk : List ℕ) (m : Mode) → IsSound p → mode p pk ≡ m → (rk : List ℕ) → rk ≢ marker_key → FitsMode m (old_at p pk rk) (new_at p pk rk)
fits_at p pk m s is rk other = subst (λ x. FitsMode x (old_at p pk rk) (new_at p pk rk)) is ((to_modes p s).keys pk rk other)

row_of : (x : Option Stored) → old_state x ≢ NoOld → (r : Stored) × (x ≡ Some r)
row_of None h = absurd (h refl)
row_of (Some r) h = (r, refl)

-- ---- old's marker

module _ (own : List Fact) (p : Pair) (pk : List ℕ) (next : List Prop) (tag : Tag) (m m' : Mode) (s : IsSound p) (was : Stored) (there : old_at p pk marker_key ≡ Some was)
    (form : IsOldMarker p.old_number next) (unmarked : mark_of next ≡ None)
    (is : mode p pk ≡ m) (becomes : mode_of (old_says (old_phase_of p.old_number next)) (new_state_at p pk) p.old.sealed ≡ m') (le : rank m ≤ rank m') (early : rank m ≤ 3)
    (here : (row entry : Option Stored) → FitsMode m row entry → FitsMode m' row entry) (shows : (row entry : Option Stored) → FitsMode m row entry → shown_in m' row entry ≡ shown_in m row entry) where
  abbrev old_turned : Contents
  old_turned = contents_after p.old_number p.old pk (Replace marker_key next tag ∷ [])

  abbrev turned_pair : Pair
  turned_pair = with_old p old_turned

  row_stays : (rk : List ℕ) → rk ≢ marker_key → row_at old_turned.rows pk rk ≡ old_at p pk rk
  row_stays rk other =
      all_puts p.old_number p.old.counter pk (Replace marker_key next tag ∷ []) p.old.rows rk
      ∙ ap (λ b. cond b (Some (record { props = next; tag = next_tag p.old_number p.old.counter })) (old_at p pk rk)) (text_false marker_key rk (λ e. other (sym e)))

  pub old_marker : row_at old_turned.rows pk marker_key ≡ Some (record { props = next; tag = next_tag p.old_number p.old.counter })
  old_marker = all_puts p.old_number p.old.counter pk (Replace marker_key next tag ∷ []) p.old.rows marker_key

  mode_turned : mode turned_pair pk ≡ m'
  mode_turned = ap (λ x. mode_of (old_state x) (new_state_at p pk) p.old.sealed) old_marker ∙ becomes

  next_is : (row : Stored) → row_at old_turned.rows pk marker_key ≡ Some row → row.props ≡ next
  next_is row e = ap (λ (x : Stored). x.props) (the_row row _ (sym e ∙ old_marker))

  forms_turned : FormsAt (IsOldMarker p.old_number) (IsOldRow p.old_number) old_turned pk
  forms_turned = record {
    marker = λ row e. (subst (IsOldMarker p.old_number) (sym (next_is row e)) form, (s.forms.0.markers pk was there).1);
    data_rows = λ rk row other e. s.forms.0.data_rows pk rk row other (sym (row_stays rk other) ∙ e);
  }

  kept_turned : KeptAt turned_pair p.old_number old_turned pk
  kept_turned rk row t e copy = elim (key_cases rk) as (λ _. IsKept turned_pair p.old_number t) [
    | inl same ↦ absurd (let x : None ≡ Some (Copy t) = sym unmarked ∙ ap mark_of (sym (next_is row (ap (row_at old_turned.rows pk) (sym same) ∙ e))) ∙ copy in cc)
    | inr other ↦ kept_on p p.old_number t old_turned p.new (omega arith) (s.tags.2 pk rk row t (sym (row_stays rk other) ∙ e) copy)
  ]

  pub old_marker_set : Shows own p turned_pair pk
  old_marker_set =
      let step = old_early own p pk old_turned m m' s (moves_puts p.old_number pk (Replace marker_key next tag ∷ []) p.old) is mode_turned le early forms_turned kept_turned
      (λ rk other. subst (λ x. FitsMode m' x (new_at p pk rk)) (sym (row_stays rk other)) (here (old_at p pk rk) (new_at p pk rk) (fits_at p pk m s is rk other)))
      (λ sealed none. let x = sym none ∙ there in cc) in
      record {
        step = step;
        same = same_at p turned_pair pk (λ rk other.
            logical_in turned_pair pk rk other step.sound
            ∙ along (mode turned_pair pk) m' (old_at turned_pair pk rk) (old_at p pk rk) (new_at p pk rk) (new_at p pk rk) mode_turned (row_stays rk other) refl
            ∙ shows (old_at p pk rk) (new_at p pk rk) (fits_at p pk m s is rk other)
            ∙ ap (λ x. shown_in x (old_at p pk rk) (new_at p pk rk)) (sym is)
            ∙ sym (logical_in p pk rk other s));
      }

-- what a copy shows while new fills
pub copy_through : (row x : Option Stored) → IsCopyOrNone x → from_both row x ≡ from_old row
copy_through row None h = refl
copy_through row (Some e) h = ap (λ mark. filling_by mark e (from_old row)) h.1

use_old_mode : (m : Mode) → IsWhole m → old_in m ≡ AtUseOld → m ≡ AtOld
use_old_mode Empty w e = absurd cc
use_old_mode AtOld w e = refl
use_old_mode Prepared w e = absurd cc
use_old_mode Copying w e = absurd cc
use_old_mode Overlaid w e = absurd cc
use_old_mode Settled w e = absurd cc
use_old_mode NewOnly w e = absurd cc
use_old_mode Broken w e = absurd w

marked_mode : (m : Mode) → IsWhole m → old_in m ≡ AtPreferOld → is_marked (new_in m) ≡ true → m ≡ Copying
marked_mode Empty w e h = absurd cc
marked_mode AtOld w e h = absurd cc
marked_mode Prepared w e h = absurd cc
marked_mode Copying w e h = refl
marked_mode Overlaid w e h = absurd cc
marked_mode Settled w e h = absurd cc
marked_mode NewOnly w e h = absurd cc
marked_mode Broken w e h = absurd w

-- a marker that is known by its tag, and has it still, says what it said
old_says_it : (p : Pair) (pk : List ℕ) (ps : List Prop) (tag : Tag) (phase : Phase) (x : IsSeen (old_at p pk marker_key) ps tag) → old_phase_of tag.store ps ≡ Some phase → old_state_at p pk ≡ old_says (Some phase)
old_says_it p pk ps tag phase x reads = ap old_state x.is ∙ ap (λ (t : Tag). old_says (old_phase_of t.store x.row.props)) x.tag ∙ ap (λ (qs : List Prop). old_says (old_phase_of tag.store qs)) x.props ∙ ap old_says reads

becomes_old : (p : Pair) (phase : Phase) (n : NewState) (m' : Mode) → mode_of (old_says (Some phase)) n p.old.sealed ≡ m' → mode_of (old_says (old_phase_of p.old_number (marker_props (old_kind phase)))) n p.old.sealed ≡ m'
becomes_old p phase n m' h = ap (λ (x : Option Phase). mode_of (old_says x) n p.old.sealed) (old_read p.old_number phase) ∙ h

-- the partition is claimed
pub prepared : (own : List Fact) (p : Pair) (pk : List ℕ) (ps : List Prop) (tag : Tag) → IsSound p → KnowsRow p.old pk marker_key ps tag → old_phase_of tag.store ps ≡ Some UseOld
    → unmet_from 0 p.old.rows pk (Replace marker_key (marker_props (old_kind PreferOld)) tag ∷ []) ≡ None
    → Shows own p (with_old p (contents_after p.old_number p.old pk (Replace marker_key (marker_props (old_kind PreferOld)) tag ∷ []))) pk
prepared own p pk ps tag s know reads met =
    let x = seen p.old pk marker_key ps tag know (each_held 0 p.old.rows pk (Replace marker_key (marker_props (old_kind PreferOld)) tag ∷ []) met).0 in
    let y = says p s pk in
    let is : mode p pk ≡ AtOld = use_old_mode (mode p pk) (whole p s pk) (sym y.old ∙ old_says_it p pk ps tag UseOld x reads) in
    let none : new_state_at p pk ≡ NoNew = y.new ∙ ap new_in is in
    old_marker_set own p pk (marker_props (old_kind PreferOld)) tag AtOld Prepared s x.row x.is (inl (PreferOld, refl)) refl is
    (becomes_old p PreferOld (new_state_at p pk) Prepared (ap (λ z. mode_of AtPreferOld z p.old.sealed) none)) (omega arith) (omega arith) (λ row entry h. h) (λ row entry h. refl)

-- clients go on in new
pub switched : (own : List Fact) (p : Pair) (pk : List ℕ) (tag : Tag) → IsSound p → KnowsRow p.old pk marker_key (marker_props (old_kind PreferOld)) tag → is_marked (new_state_at p pk) ≡ true
    → unmet_from 0 p.old.rows pk (Replace marker_key (marker_props (old_kind PreferNew)) tag ∷ []) ≡ None
    → Shows own p (with_old p (contents_after p.old_number p.old pk (Replace marker_key (marker_props (old_kind PreferNew)) tag ∷ []))) pk
switched own p pk tag s know marked met =
    let x = seen p.old pk marker_key (marker_props (old_kind PreferOld)) tag know (each_held 0 p.old.rows pk (Replace marker_key (marker_props (old_kind PreferNew)) tag ∷ []) met).0 in
    let y = says p s pk in
    let is : mode p pk ≡ Copying = marked_mode (mode p pk) (whole p s pk) (sym y.old ∙ old_says_it p pk (marker_props (old_kind PreferOld)) tag PreferOld x (old_read tag.store PreferOld)) (sym (ap is_marked y.new) ∙ marked) in
    let fills : new_state_at p pk ≡ AtFilling = y.new ∙ ap new_in is in
    old_marker_set own p pk (marker_props (old_kind PreferNew)) tag Copying Overlaid s x.row x.is (inl (PreferNew, refl)) refl is
    (becomes_old p PreferNew (new_state_at p pk) Overlaid (ap (λ z. mode_of AtPreferNew z p.old.sealed) fills)) (omega arith) (omega arith) (λ row entry h. tt) (λ row entry h. copy_through row entry h)

-- ---- new's marker

module _ (own : List Fact) (p : Pair) (pk : List ℕ) (put : Put) (phase : NewPhase) (m m' : Mode) (s : IsSound p) (part : part_fault Partition pk ≡ None) (key : row_key put ≡ marker_key)
    (leaves : (x : Option Stored) → left_by p.new_number p.new.counter put x ≡ Some (record { props = marker_props (new_kind phase); tag = next_tag p.new_number p.new.counter }))
    (is : mode p pk ≡ m) (becomes : mode_of (old_state_at p pk) (new_says (Some phase)) p.old.sealed ≡ m') (le : rank m ≤ rank m') (early : rank m ≤ 4)
    (here : (row entry : Option Stored) → FitsMode m row entry → FitsMode m' row entry)
    (shows : (rk : List ℕ) → rk ≢ marker_key → FitsMode m (old_at p pk rk) (new_at p pk rk) → shown_in m' (old_at p pk rk) (new_at p pk rk) ≡ shown_in m (old_at p pk rk) (new_at p pk rk)) where
  abbrev new_turned : Contents
  new_turned = contents_after p.new_number p.new pk (put ∷ [])

  abbrev marked_pair : Pair
  marked_pair = with_new p new_turned

  entry_stays : (rk : List ℕ) → rk ≢ marker_key → row_at new_turned.rows pk rk ≡ new_at p pk rk
  entry_stays rk other =
      all_puts p.new_number p.new.counter pk (put ∷ []) p.new.rows rk
      ∙ ap (λ b. cond b (left_by p.new_number p.new.counter put (new_at p pk rk)) (new_at p pk rk)) (text_false (row_key put) rk (λ e. other (sym e ∙ key)))

  pub new_marker : row_at new_turned.rows pk marker_key ≡ Some (record { props = marker_props (new_kind phase); tag = next_tag p.new_number p.new.counter })
  new_marker =
      all_puts p.new_number p.new.counter pk (put ∷ []) p.new.rows marker_key
      ∙ ap (λ k. cond (bytes_eq k marker_key) (left_by p.new_number p.new.counter put (new_at p pk marker_key)) (new_at p pk marker_key)) key
      ∙ leaves (new_at p pk marker_key)

  mode_marked : mode marked_pair pk ≡ m'
  mode_marked = ap (λ x. mode_of (old_state_at p pk) (new_state x) p.old.sealed) new_marker ∙ ap (λ (x : Option NewPhase). mode_of (old_state_at p pk) (new_says x) p.old.sealed) (new_read phase) ∙ becomes

  new_props : (row : Stored) → row_at new_turned.rows pk marker_key ≡ Some row → row.props ≡ marker_props (new_kind phase)
  new_props row e = ap (λ (x : Stored). x.props) (the_row row _ (sym e ∙ new_marker))

  forms_marked : FormsAt IsNewMarker IsEntry new_turned pk
  forms_marked = record {
    marker = λ row e. ((phase, new_props row e), part);
    data_rows = λ rk row other e. s.forms.1.data_rows pk rk row other (sym (entry_stays rk other) ∙ e);
  }

  no_mark : (f : NewPhase) → mark_of (marker_props (new_kind f)) ≡ None
  no_mark Filling = refl
  no_mark UseNew = refl

  kept_marked : KeptAt marked_pair p.new_number new_turned pk
  kept_marked rk row t e copy = elim (key_cases rk) as (λ _. IsKept marked_pair p.new_number t) [
    | inl same ↦ absurd (let x : None ≡ Some (Copy t) = sym (no_mark phase) ∙ ap mark_of (sym (new_props row (ap (row_at new_turned.rows pk) (sym same) ∙ e))) ∙ copy in cc)
    | inr other ↦ kept_on p p.new_number t p.old new_turned (omega arith) (s.tags.3 pk rk row t (sym (entry_stays rk other) ∙ e) copy)
  ]

  pub new_marker_set : Shows own p marked_pair pk
  new_marker_set =
      let step = new_step own p pk new_turned m m' s (moves_puts p.new_number pk (put ∷ []) p.new) is mode_marked le forms_marked kept_marked
      (λ rk other. subst (FitsMode m' (old_at p pk rk)) (sym (entry_stays rk other)) (here (old_at p pk rk) (new_at p pk rk) (fits_at p pk m s is rk other)))
      (λ a b w e past apart rk other. absurd (let n : w.tag.n ≡ p.new.counter + 1 = ap (λ (x : Stored). x.tag.n) (the_row w _ (sym e ∙ new_marker)) in omega (arith, n, past)))
      (λ low. absurd (omega (arith, low, early))) in
      record {
        step = step;
        same = same_at p marked_pair pk (λ rk other.
            logical_in marked_pair pk rk other step.sound
            ∙ along (mode marked_pair pk) m' (old_at p pk rk) (old_at p pk rk) (new_at marked_pair pk rk) (new_at p pk rk) mode_marked refl (entry_stays rk other)
            ∙ shows rk other (fits_at p pk m s is rk other)
            ∙ ap (λ x. shown_in x (old_at p pk rk) (new_at p pk rk)) (sym is)
            ∙ sym (logical_in p pk rk other s));
      }

-- an epoch that has just begun
epoch_begins : (p : Pair) (pk : List ℕ) (tag : Tag) (row : Stored) → new_at p pk marker_key ≡ Some row → row.props ≡ marker_props (new_kind Filling) → tag.n ≤ p.new.counter → KnowsEpoch p pk tag keys.None
epoch_begins p pk tag row is fill le = record {
  past = le;
  marked = ap (λ x. is_marked (new_state x)) is ∙ ap (λ (ps : List Prop). is_marked (new_says (new_phase_of ps))) fill;
  filling = λ m there e. ap (λ (x : Stored). new_phase_of x.props) (the_row m row (sym there ∙ is)) ∙ ap new_phase_of fill;
  turned = λ m there e rk h. absurd h;
  exact = λ m there e rk other h. absurd h;
}

pub record Begins (own : List Fact) (p q : Pair) (pk : List ℕ) : Type 0 where
  pub shows : Shows own p q pk
  pub epoch : KnowsEpoch q pk (next_tag p.new_number p.new.counter) keys.None

begun_empty : (m : Mode) → IsWhole m → is_begun (old_in m) (new_in m) ≡ true → new_in m ≡ NoNew → m ≡ Prepared
begun_empty Empty w h e = absurd cc
begun_empty AtOld w h e = absurd cc
begun_empty Prepared w h e = refl
begun_empty Copying w h e = absurd cc
begun_empty Overlaid w h e = absurd cc
begun_empty Settled w h e = absurd cc
begun_empty NewOnly w h e = absurd cc
begun_empty Broken w h e = absurd w

none_copies : (row entry : Option Stored) → FitsMode Prepared row entry → FitsMode Copying row entry
none_copies row entry h = subst IsCopyOrNone (sym h) tt

-- new's marker is made
pub begins : (own : List Fact) (p : Pair) (pk : List ℕ) → IsSound p → is_begun (old_state_at p pk) (new_state_at p pk) ≡ true
    → unmet_from 0 p.new.rows pk (Insert marker_key (marker_props (new_kind Filling)) ∷ []) ≡ None
    → Begins own p (with_new p (contents_after p.new_number p.new pk (Insert marker_key (marker_props (new_kind Filling)) ∷ []))) pk
begins own p pk s begun met =
    let none : new_at p pk marker_key ≡ None = no_row (new_at p pk marker_key) (each_held 0 p.new.rows pk (Insert marker_key (marker_props (new_kind Filling)) ∷ []) met).0 in
    let y = says p s pk in
    let is : mode p pk ≡ Prepared = begun_empty (mode p pk) (whole p s pk) (sym (ap (λ o. is_begun o (new_state_at p pk)) y.old ∙ ap (is_begun (old_in (mode p pk))) y.new) ∙ begun) (sym y.new ∙ ap new_state none) in
    let old : old_state_at p pk ≡ AtPreferOld = y.old ∙ ap old_in is in
    let row = row_of (old_at p pk marker_key) (λ e. let x = sym old ∙ e in cc) in
    let part = (s.forms.0.markers pk row.0 row.1).1 in
    let becomes : mode_of (old_state_at p pk) AtFilling p.old.sealed ≡ Copying = ap (λ x. mode_of x AtFilling p.old.sealed) old in
    record {
      shows = new_marker_set own p pk (Insert marker_key (marker_props (new_kind Filling))) Filling Prepared Copying s part refl (λ x. refl) is becomes (omega arith) (omega arith) none_copies (λ rk other h. refl);
      epoch = epoch_begins _ pk (next_tag p.new_number p.new.counter) _
          (new_marker own p pk (Insert marker_key (marker_props (new_kind Filling))) Filling Prepared Copying s part refl (λ x. refl) is becomes (omega arith) (omega arith) none_copies (λ rk other h. refl)) refl (omega arith);
    }

mid_becomes : (m : Mode) → 3 ≤ rank m → rank m ≤ 4 → (b : Bool) → mode_of (old_in m) AtFilling b ≡ m
mid_becomes Empty low high b = absurd (omega arith)
mid_becomes AtOld low high b = absurd (omega arith)
mid_becomes Prepared low high b = absurd (omega arith)
mid_becomes Copying low high b = refl
mid_becomes Overlaid low high b = refl
mid_becomes Settled low high b = absurd (omega arith)
mid_becomes NewOnly low high b = absurd (omega arith)
mid_becomes Broken low high b = absurd (omega arith)

-- new's marker is taken over
pub takes_over : (own : List Fact) (p : Pair) (pk : List ℕ) (tag : Tag) → IsSound p → KnowsRow p.new pk marker_key (marker_props (new_kind Filling)) tag
    → unmet_from 0 p.new.rows pk (Replace marker_key (marker_props (new_kind Filling)) tag ∷ []) ≡ None
    → Begins own p (with_new p (contents_after p.new_number p.new pk (Replace marker_key (marker_props (new_kind Filling)) tag ∷ []))) pk
takes_over own p pk tag s know met =
    let x = seen p.new pk marker_key (marker_props (new_kind Filling)) tag know (each_held 0 p.new.rows pk (Replace marker_key (marker_props (new_kind Filling)) tag ∷ []) met).0 in
    let y = says p s pk in
    let state : new_state_at p pk ≡ AtFilling = ap new_state x.is ∙ ap (λ (ps : List Prop). new_says (new_phase_of ps)) x.props in
    let r = filling_ranks p pk s (ap is_filling state) in
    let part = (s.forms.1.markers pk x.row x.is).1 in
    let becomes : mode_of (old_state_at p pk) AtFilling p.old.sealed ≡ mode p pk = ap (λ z. mode_of z AtFilling p.old.sealed) y.old ∙ mid_becomes (mode p pk) r.0 r.1 p.old.sealed in
    record {
      shows = new_marker_set own p pk (Replace marker_key (marker_props (new_kind Filling)) tag) Filling (mode p pk) (mode p pk) s part refl (λ z. refl) refl becomes (omega arith) r.1 (λ row entry h. h) (λ rk other h. refl);
      epoch = epoch_begins _ pk (next_tag p.new_number p.new.counter) _
          (new_marker own p pk (Replace marker_key (marker_props (new_kind Filling)) tag) Filling (mode p pk) (mode p pk) s part refl (λ z. refl) refl becomes (omega arith) r.1 (λ row entry h. h) (λ rk other h. refl)) refl (omega arith);
    }

-- an entry that is exact shows the same in new alone
exact_by : (row : Option Stored) (e : Stored) → Exact row (Some e) → from_new (Some e) ≡ from_both row (Some e)
exact_by row e x = go (mark_of e.props) refl where
  go : (mark : _) → mark_of e.props ≡ mark → new_by mark e ≡ filling_by mark e (from_old row)
  go None is = refl
  go (Some Live) is = refl
  go (Some (Copy kept)) is = sym (x.copies e kept refl is)
  go (Some Tomb) is = refl

exact_shows : (row entry : Option Stored) → Exact row entry → from_new entry ≡ from_both row entry
exact_shows None None x = refl
exact_shows (Some r) None x = absurd (let e = x.covered refl in cc)
exact_shows row (Some e) x = exact_by row e x

-- the move of a partition is done
pub finishes : (own : List Fact) (p : Pair) (pk : List ℕ) (epoch : Tag) (all : Keys) → IsSound p → KnowsEpoch p pk epoch all → ((rk : List ℕ) → InKeys all rk)
    → unmet_from 0 p.new.rows pk (Replace marker_key (marker_props (new_kind UseNew)) epoch ∷ []) ≡ None
    → Shows own p (with_new p (contents_after p.new_number p.new pk (Replace marker_key (marker_props (new_kind UseNew)) epoch ∷ []))) pk
finishes own p pk epoch all s know every met =
    let x = tagged (new_at p pk marker_key) epoch (each_held 0 p.new.rows pk (Replace marker_key (marker_props (new_kind UseNew)) epoch ∷ []) met).0 in
    let fill : is_filling (new_state_at p pk) ≡ true = ap (λ z. is_filling (new_state z)) x.1 ∙ ap (λ c. is_filling (new_says c)) (know.filling x.0 x.1 x.2) in
    let r = prefer_new_ranks p pk s (know.turned x.0 x.1 x.2 [] (every [])) in
    let is : mode p pk ≡ Overlaid = is_overlaid (mode p pk) r.0 (filling_ranks p pk s fill).1 in
    let old : old_state_at p pk ≡ AtPreferNew = (says p s pk).old ∙ ap old_in is in
    new_marker_set own p pk (Replace marker_key (marker_props (new_kind UseNew)) epoch) UseNew Overlaid Settled s (s.forms.1.markers pk x.0 x.1).1 refl (λ z. refl) is
    (ap (λ z. mode_of z AtUseNew p.old.sealed) old) (omega arith) (omega arith) (λ row entry h. tt)
    (λ rk other h. exact_shows (old_at p pk rk) (new_at p pk rk) (know.exact x.0 x.1 x.2 rk other (every rk)))

-- what is known of an epoch alone goes on, whoever acts
pub epoch_alone : (own : List Fact) (p q : Pair) (pk : List ℕ) (tag : Tag) (part : Keys) → IsSound p → IsSound q → Grows own p q → KnowsEpoch p pk tag part → KnowsEpoch q pk tag keys.None
epoch_alone own p q pk tag part s t g h = record {
  past = omega (arith, h.past, g.new.counter);
  marked = up (λ o n. is_marked n) 3 marked_rank p q pk s t (g.modes pk) h.marked;
  filling = λ m is e. h.filling m (g.new.past pk marker_key m is (let n : m.tag.n ≡ tag.n = ap (λ (x : Tag). x.n) e in omega (arith, h.past, n))) e;
  turned = λ m is e rk x. absurd x;
  exact = λ m is e rk other x. absurd x;
}

-- ---- old is sealed

seal_mode : (o : OldState) (n : NewState) (b : Bool) → IsWhole (mode_of o n b) → mode_of o n true ≡ mode_of o n b
seal_mode NoOld NoNew true h = refl
seal_mode NoOld NoNew false h = refl
seal_mode NoOld AtFilling true h = refl
seal_mode NoOld AtFilling false h = absurd h
seal_mode NoOld AtUseNew true h = refl
seal_mode NoOld AtUseNew false h = absurd h
seal_mode NoOld BadNew true h = refl
seal_mode NoOld BadNew false h = absurd h
seal_mode AtUseOld NoNew true h = refl
seal_mode AtUseOld NoNew false h = refl
seal_mode AtUseOld AtFilling true h = refl
seal_mode AtUseOld AtFilling false h = absurd h
seal_mode AtUseOld AtUseNew true h = refl
seal_mode AtUseOld AtUseNew false h = absurd h
seal_mode AtUseOld BadNew true h = refl
seal_mode AtUseOld BadNew false h = absurd h
seal_mode AtPreferOld NoNew true h = refl
seal_mode AtPreferOld NoNew false h = refl
seal_mode AtPreferOld AtFilling true h = refl
seal_mode AtPreferOld AtFilling false h = refl
seal_mode AtPreferOld AtUseNew true h = refl
seal_mode AtPreferOld AtUseNew false h = absurd h
seal_mode AtPreferOld BadNew true h = refl
seal_mode AtPreferOld BadNew false h = absurd h
seal_mode AtPreferNew NoNew true h = refl
seal_mode AtPreferNew NoNew false h = absurd h
seal_mode AtPreferNew AtFilling true h = refl
seal_mode AtPreferNew AtFilling false h = refl
seal_mode AtPreferNew AtUseNew true h = refl
seal_mode AtPreferNew AtUseNew false h = refl
seal_mode AtPreferNew BadNew true h = refl
seal_mode AtPreferNew BadNew false h = absurd h
seal_mode BadOld NoNew true h = refl
seal_mode BadOld NoNew false h = absurd h
seal_mode BadOld AtFilling true h = refl
seal_mode BadOld AtFilling false h = absurd h
seal_mode BadOld AtUseNew true h = refl
seal_mode BadOld AtUseNew false h = absurd h
seal_mode BadOld BadNew true h = refl
seal_mode BadOld BadNew false h = absurd h

abbrev pub after_seal : Pair → Pair
after_seal p = with_old p (sealed_of p.old)

seal_same : (p : Pair) → IsSound p → (pk : List ℕ) → mode (after_seal p) pk ≡ mode p pk
seal_same p s pk = seal_mode (old_state_at p pk) (new_state_at p pk) p.old.sealed (whole p s pk)

pub record Seals (own : List Fact) (p : Pair) : Type 0 where
  pub sound : IsSound (after_seal p)
  pub grows : Grows own p (after_seal p)
  pub same : (pk rk : List ℕ) → logical (after_seal p) pk rk ≡ logical p pk rk

pub seals : (own : List Fact) (p : Pair) → IsSound p → Seals own p
seals own p s = record {
  sound = from_modes (after_seal p) (record {
    forms = (record { markers = s.forms.0.markers; data_rows = s.forms.0.data_rows }, s.forms.1);
    keys = λ pk rk other. subst (λ m. FitsMode m (old_at p pk rk) (new_at p pk rk)) (sym (seal_same p s pk)) ((to_modes p s).keys pk rk other);
    tags = (
      record { number = s.tags.0.number; range = s.tags.0.range; differ = s.tags.0.differ },
      s.tags.1,
      λ pk rk row t is copy. kept_on p p.old_number t (sealed_of p.old) p.new (omega arith) (s.tags.2 pk rk row t is copy),
      λ pk rk row t is copy. kept_on p p.new_number t (sealed_of p.old) p.new (omega arith) (s.tags.3 pk rk row t is copy),
    );
    unsealed = s.unsealed;
  });
  grows = record {
    numbers = (refl, refl);
    modes = λ pk. (let e : rank (mode (after_seal p) pk) ≡ rank (mode p pk) = ap rank (seal_same p s pk) in omega (arith, e));
    old = record { counter = omega arith; past = λ pk rk r is le. is };
    new = ages_self p.new;
    sealed = λ h. refl;
    births = λ h pk none. no_rows p s pk none;
    turned = λ pk a b rk. refl;
    entries = λ pk m a b is le apart rk other. stays_self (new_at p pk rk);
    tombs = λ pk le rk other h. h;
    dropped = λ pk le rk. inl refl;
  };
  same = λ pk rk. refl;
}
