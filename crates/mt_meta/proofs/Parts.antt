-- A change of one partition of one store: what has to be shown of it there, and that the pair then stays sound and grows.
use Rattle.std.proofs.Common.{◌≡◌, ◌≢◌, ◌⊎◌, ℕ, ◌≤◌, Bool, true, false, List, Option, Some, None, refl, sym, ap, ◌∙◌, subst, arith, inl, inr, bytes_eq, if◌then◌else◌}
use Rattle.mt_model.specs.declared.key.KeyPart.TheVariants.{Partition}
use Rattle.mt_model.specs.declared.tag.Tag.{Tag}
use Rattle.mt_model.specs.declared.value.Prop.{Prop}
use Rattle.mt_model.specs.Key.{part_fault, key_fault}
use Rattle.mt_chain.specs.declared.row.Stored.{Stored}
use Rattle.mt_chain.specs.Rows.{row_at}
use Rattle.mt_chain.specs.StoreCall.{Contents}
use Rattle.mt_chain.proofs.KeyLaws.{text_true, text_differs}
use Rattle.mt_meta.specs.declared.mark.Mark.TheVariants.{Copy}
use Rattle.mt_meta.specs.Markers.{marker_key}
use Rattle.mt_meta.specs.Marks.{mark_of}
use Rattle.mt_meta.specs.Logical.{Pair, old_at, new_at, old_state, new_state, old_state_at, new_state_at, row_by, logical}
use Rattle.mt_meta.specs.Sound.{IsOldMarker, IsNewMarker, IsOldRow, IsEntry, HaveForms, NoTomb, IsKept, AreKept, IsSound}
use Rattle.mt_meta.specs.Modes.{Mode, Overlaid, mode, mode_of, rank, FitsMode}
use Rattle.mt_meta.specs.declared.fact.Keys.TheVariants as keys
use Rattle.mt_meta.specs.declared.fact.Fact.{Fact}
use Rattle.mt_meta.specs.declared.fact.Fact.TheVariants.{Epoch}
use Rattle.mt_meta.specs.Facts.{ApartFrom, EntryStays, Grows}
use Rattle.mt_meta.specs.Steps.{StepIn, with_old, with_new}
use Rattle.mt_meta.proofs.Rules.{to_modes, from_modes}
use Rattle.mt_meta.proofs.Growth.{stays_self, no_rows}
use Rattle.mt_meta.proofs.StorePuts.{Moves, moves_self}

-- the pair with these contents of both stores
abbrev pub with_both : Pair → Contents → Contents → Pair
with_both p a b = record { old_number = p.old_number; new_number = p.new_number; old = a; new = b }

-- the rows of one partition have their forms
pub record FormsAt (IsMarker IsRow : List Prop → Type 0) (c : Contents) (part : List ℕ) : Type 0 where
  pub marker : (row : Stored) → row_at c.rows part marker_key ≡ Some row → IsMarker row.props × (part_fault Partition part ≡ None)
  pub data_rows : (rk : List ℕ) (row : Stored) → rk ≢ marker_key → row_at c.rows part rk ≡ Some row → IsRow row.props × (key_fault part rk ≡ None)

-- the tags that copies of one partition keep are such
abbrev pub KeptAt : Pair → ℕ → Contents → List ℕ → Type 0
KeptAt p store c part = (rk : List ℕ) (row : Stored) (tag : Tag) → row_at c.rows part rk ≡ Some row → mark_of row.props ≡ Some (Copy tag) → IsKept p store tag

pub forms_at : (IsMarker IsRow : List Prop → Type 0) (c : Contents) (part : List ℕ) → HaveForms IsMarker IsRow c → FormsAt IsMarker IsRow c part
forms_at IsMarker IsRow c part h = record { marker = h.markers part; data_rows = h.data_rows part }

-- a kept tag is one while old's counter rises
pub kept_on : (p : Pair) (store : ℕ) (tag : Tag) (a b : Contents) → p.old.counter ≤ a.counter → IsKept p store tag → IsKept (with_both p a b) store tag
kept_on p store tag a b le h = record { below = h.below; from_one = h.from_one; given = λ e. (let n = h.given e in omega (arith, n, le)) }

-- what a change of one partition has to keep there
pub record Local (own : List Fact) (p : Pair) (a b : Contents) (part : List ℕ) : Type 0 where
  pub old : Moves p.old_number part p.old a
  pub new : Moves p.new_number part p.new b
  pub modes : rank (mode p part) ≤ rank (mode (with_both p a b) part)
  pub old_forms : FormsAt (IsOldMarker p.old_number) (IsOldRow p.old_number) a part
  pub new_forms : FormsAt IsNewMarker IsEntry b part
  pub old_kept : KeptAt (with_both p a b) p.old_number a part
  pub new_kept : KeptAt (with_both p a b) p.new_number b part
  pub here : (rk : List ℕ) → rk ≢ marker_key → FitsMode (mode (with_both p a b) part) (row_at a.rows part rk) (row_at b.rows part rk)
  pub births : p.old.sealed ≡ true → old_at p part marker_key ≡ None → (rk : List ℕ) → row_at a.rows part rk ≡ None
  pub turned : mode p part ≡ Overlaid → mode (with_both p a b) part ≡ Overlaid → (rk : List ℕ) → row_at a.rows part rk ≡ old_at p part rk
  pub entries : (m : Stored) → mode p part ≡ Overlaid → mode (with_both p a b) part ≡ Overlaid → row_at b.rows part marker_key ≡ Some m
      → m.tag.n ≤ p.new.counter → ApartFrom (Epoch part m.tag keys.None) own → (rk : List ℕ) → rk ≢ marker_key
      → EntryStays (new_at p part rk) (row_at b.rows part rk)
  pub tombs : 5 ≤ rank (mode p part) → (rk : List ℕ) → rk ≢ marker_key → NoTomb (new_at p part rk) → NoTomb (row_at b.rows part rk)
  pub dropped : 5 ≤ rank (mode p part) → (rk : List ℕ) → (row_at a.rows part rk ≡ old_at p part rk) ⊎ (row_at a.rows part rk ≡ None)

-- a partition is this one or another
pub by_part : (part pk : List ℕ) (G : List ℕ → Type 0) → G part → (pk ≢ part → G pk) → G pk
by_part part pk G here there = go (bytes_eq pk part) refl where
  go : (x : Bool) → bytes_eq pk part ≡ x → G pk
  go true e = subst G (sym (text_true pk part e)) here
  go false e = there (text_differs pk part e)

fits_along : (m m' : Mode) (r r' e e' : Option Stored) → m ≡ m' → r ≡ r' → e ≡ e' → FitsMode m r e → FitsMode m' r' e'
fits_along m m' r r' e e' pm pr pe h = subst (λ x. FitsMode m' r' x) pe (subst (λ x. FitsMode m' x e) pr (subst (λ x. FitsMode x r e) pm h))

module _ (own : List Fact) (p : Pair) (a b : Contents) (part : List ℕ) (s : IsSound p) (l : Local own p a b part) where
  abbrev after : Pair
  after = with_both p a b

  old_same : (pk rk : List ℕ) → pk ≢ part → old_at after pk rk ≡ old_at p pk rk
  old_same pk rk ne = l.old.others pk rk ne

  new_same : (pk rk : List ℕ) → pk ≢ part → new_at after pk rk ≡ new_at p pk rk
  new_same pk rk ne = l.new.others pk rk ne

  mode_same : (pk : List ℕ) → pk ≢ part → mode after pk ≡ mode p pk
  mode_same pk ne =
      ap (λ x. mode_of (old_state x) (new_state_at after pk) a.sealed) (old_same pk marker_key ne)
      ∙ ap (λ x. mode_of (old_state_at p pk) (new_state x) a.sealed) (new_same pk marker_key ne)
      ∙ ap (λ x. mode_of (old_state_at p pk) (new_state_at p pk) x) l.old.sealed

  -- what other partitions show
  shown_same : (pk rk : List ℕ) → pk ≢ part → logical after pk rk ≡ logical p pk rk
  shown_same pk rk ne =
      ap (λ x. if bytes_eq rk marker_key then None else row_by (old_state x) (new_state_at after pk) (old_at after pk rk) (new_at after pk rk)) (old_same pk marker_key ne)
      ∙ ap (λ x. if bytes_eq rk marker_key then None else row_by (old_state_at p pk) (new_state x) (old_at after pk rk) (new_at after pk rk)) (new_same pk marker_key ne)
      ∙ ap (λ x. if bytes_eq rk marker_key then None else row_by (old_state_at p pk) (new_state_at p pk) x (new_at after pk rk)) (old_same pk rk ne)
      ∙ ap (λ x. if bytes_eq rk marker_key then None else row_by (old_state_at p pk) (new_state_at p pk) (old_at p pk rk) x) (new_same pk rk ne)

  forms_on : (IsMarker IsRow : List Prop → Type 0) (c d : Contents) → ((pk rk : List ℕ) → pk ≢ part → row_at d.rows pk rk ≡ row_at c.rows pk rk)
      → HaveForms IsMarker IsRow c → FormsAt IsMarker IsRow d part → HaveForms IsMarker IsRow d
  forms_on IsMarker IsRow c d same h k = record {
    markers = λ pk row. by_part part pk (λ x. row_at d.rows x marker_key ≡ Some row → IsMarker row.props × (part_fault Partition x ≡ None)) (k.marker row)
        (λ ne is. h.markers pk row (sym (same pk marker_key ne) ∙ is));
    data_rows = λ pk rk row other. by_part part pk (λ x. row_at d.rows x rk ≡ Some row → IsRow row.props × (key_fault x rk ≡ None)) (k.data_rows rk row other)
        (λ ne is. h.data_rows pk rk row other (sym (same pk rk ne) ∙ is));
  }

  kept_all : (store : ℕ) (c d : Contents) → ((pk rk : List ℕ) → pk ≢ part → row_at d.rows pk rk ≡ row_at c.rows pk rk) → AreKept p store c → KeptAt after store d part → AreKept after store d
  kept_all store c d same h k pk rk row tag = by_part part pk (λ x. row_at d.rows x rk ≡ Some row → mark_of row.props ≡ Some (Copy tag) → IsKept after store tag) (k rk row tag)
      (λ ne is copy. kept_on p store tag a b l.old.tags.ages.counter (h pk rk row tag (sym (same pk rk ne) ∙ is) copy))

  still_sound : IsSound after
  still_sound = from_modes after (record {
    forms = (
      forms_on (IsOldMarker p.old_number) (IsOldRow p.old_number) p.old a old_same s.forms.0 l.old_forms,
      forms_on IsNewMarker IsEntry p.new b new_same s.forms.1 l.new_forms,
    );
    keys = λ pk rk other. by_part part pk (λ x. FitsMode (mode after x) (old_at after x rk) (new_at after x rk)) (l.here rk other)
        (λ ne. fits_along (mode p pk) (mode after pk) (old_at p pk rk) (old_at after pk rk) (new_at p pk rk) (new_at after pk rk)
        (sym (mode_same pk ne)) (sym (old_same pk rk ne)) (sym (new_same pk rk ne)) ((to_modes p s).keys pk rk other));
    tags = (
      l.old.tags.tags s.tags.0,
      l.new.tags.tags s.tags.1,
      kept_all p.old_number p.old a old_same s.tags.2 l.old_kept,
      kept_all p.new_number p.new b new_same s.tags.3 l.new_kept,
    );
    unsealed = l.new.sealed ∙ s.unsealed;
  })

  still_grows : Grows own p after
  still_grows = record {
    numbers = (refl, refl);
    modes = λ pk. by_part part pk (λ x. rank (mode p x) ≤ rank (mode after x)) l.modes (λ ne. (let e : rank (mode after pk) ≡ rank (mode p pk) = ap rank (mode_same pk ne) in omega (arith, e)));
    old = l.old.tags.ages;
    new = l.new.tags.ages;
    sealed = λ h. l.old.sealed ∙ h;
    births = λ is pk. by_part part pk (λ x. old_at p x marker_key ≡ None → (rk : List ℕ) → old_at after x rk ≡ None) (l.births is) (λ ne none rk. old_same pk rk ne ∙ no_rows p s pk none rk);
    turned = λ pk. by_part part pk (λ x. mode p x ≡ Overlaid → mode after x ≡ Overlaid → (rk : List ℕ) → old_at after x rk ≡ old_at p x rk) l.turned (λ ne x y rk. old_same pk rk ne);
    entries = λ pk m. by_part part pk (λ x. mode p x ≡ Overlaid → mode after x ≡ Overlaid → new_at after x marker_key ≡ Some m → m.tag.n ≤ p.new.counter
        → ApartFrom (Epoch x m.tag keys.None) own → (rk : List ℕ) → rk ≢ marker_key → EntryStays (new_at p x rk) (new_at after x rk)) (l.entries m)
        (λ ne x y is le apart rk other. subst (λ x. EntryStays (new_at p pk rk) x) (sym (new_same pk rk ne)) (stays_self (new_at p pk rk)));
    tombs = λ pk. by_part part pk (λ x. 5 ≤ rank (mode p x) → (rk : List ℕ) → rk ≢ marker_key → NoTomb (new_at p x rk) → NoTomb (new_at after x rk)) l.tombs
        (λ ne le rk other h. subst NoTomb (sym (new_same pk rk ne)) h);
    dropped = λ pk. by_part part pk (λ x. 5 ≤ rank (mode p x) → (rk : List ℕ) → (old_at after x rk ≡ old_at p x rk) ⊎ (old_at after x rk ≡ None)) l.dropped
        (λ ne le rk. inl (old_same pk rk ne));
  }

  pub step : StepIn own p after part
  step = record { sound = still_sound; grows = still_grows; others = shown_same }

-- ---- old changes before it was turned

pub old_early : (own : List Fact) (p : Pair) (part : List ℕ) (c : Contents) (m m' : Mode) → IsSound p → Moves p.old_number part p.old c
    → mode p part ≡ m → mode (with_old p c) part ≡ m' → rank m ≤ rank m' → rank m ≤ 3
    → FormsAt (IsOldMarker p.old_number) (IsOldRow p.old_number) c part
    → KeptAt (with_old p c) p.old_number c part
    → ((rk : List ℕ) → rk ≢ marker_key → FitsMode m' (row_at c.rows part rk) (new_at p part rk))
    → (p.old.sealed ≡ true → old_at p part marker_key ≡ None → ⊥)
    → StepIn own p (with_old p c) part
old_early own p part c m m' s moves is now le early forms kept here alive =
    let r : rank (mode p part) ≡ rank m = ap rank is in
    let r' : rank (mode (with_old p c) part) ≡ rank m' = ap rank now in
    step own p c p.new part s (record {
      old = moves;
      new = moves_self p.new_number part p.new;
      modes = omega (arith, r, r', le);
      old_forms = forms;
      new_forms = forms_at IsNewMarker IsEntry p.new part s.forms.1;
      old_kept = kept;
      new_kept = λ rk row tag is copy. kept_on p p.new_number tag c p.new moves.tags.ages.counter (s.tags.3 part rk row tag is copy);
      here = λ rk other. subst (λ x. FitsMode x (row_at c.rows part rk) (new_at p part rk)) (sym now) (here rk other);
      births = λ x y. absurd (alive x y);
      turned = λ x y rk. absurd (let e : rank (mode p part) ≡ 4 = ap rank x in omega (arith, e, r, early));
      entries = λ w x y is le apart rk other. stays_self (new_at p part rk);
      tombs = λ low rk other h. h;
      dropped = λ low rk. absurd (omega (arith, low, r, early));
    })

-- ---- old loses rows once new is used alone

-- what is left of old's rows of a partition is as it was
rows_left : (part rk : List ℕ) (c d : Contents) (row : Stored) → (row_at d.rows part rk ≡ row_at c.rows part rk) ⊎ (row_at d.rows part rk ≡ None) → row_at d.rows part rk ≡ Some row → row_at c.rows part rk ≡ Some row
rows_left part rk c d row (inl same) is = sym same ∙ is
rows_left part rk c d row (inr none) is = absurd (let e = sym none ∙ is in cc)

pub old_late : (own : List Fact) (p : Pair) (part : List ℕ) (c : Contents) (m m' : Mode) → IsSound p → Moves p.old_number part p.old c
    → mode p part ≡ m → mode (with_old p c) part ≡ m' → rank m ≤ rank m' → 5 ≤ rank m
    → ((rk : List ℕ) → rk ≢ marker_key → FitsMode m' (row_at c.rows part rk) (new_at p part rk))
    → ((rk : List ℕ) → (row_at c.rows part rk ≡ old_at p part rk) ⊎ (row_at c.rows part rk ≡ None))
    → StepIn own p (with_old p c) part
old_late own p part c m m' s moves is now le late here gone =
    let r : rank (mode p part) ≡ rank m = ap rank is in
    let r' : rank (mode (with_old p c) part) ≡ rank m' = ap rank now in
    step own p c p.new part s (record {
      old = moves;
      new = moves_self p.new_number part p.new;
      modes = omega (arith, r, r', le);
      old_forms = record {
        marker = λ row is. s.forms.0.markers part row (rows_left part marker_key p.old c row (gone marker_key) is);
        data_rows = λ rk row other is. s.forms.0.data_rows part rk row other (rows_left part rk p.old c row (gone rk) is);
      };
      new_forms = forms_at IsNewMarker IsEntry p.new part s.forms.1;
      old_kept = λ rk row tag is copy. kept_on p p.old_number tag c p.new moves.tags.ages.counter (s.tags.2 part rk row tag (rows_left part rk p.old c row (gone rk) is) copy);
      new_kept = λ rk row tag is copy. kept_on p p.new_number tag c p.new moves.tags.ages.counter (s.tags.3 part rk row tag is copy);
      here = λ rk other. subst (λ x. FitsMode x (row_at c.rows part rk) (new_at p part rk)) (sym now) (here rk other);
      births = λ x none rk. elim (gone rk) as (λ _. row_at c.rows part rk ≡ None) [ inl e ↦ e ∙ no_rows p s part none rk | inr e ↦ e ];
      turned = λ x y rk. absurd (let e : rank (mode p part) ≡ 4 = ap rank x in omega (arith, e, r, late));
      entries = λ w x y is le apart rk other. stays_self (new_at p part rk);
      tombs = λ low rk other h. h;
      dropped = λ low rk. gone rk;
    })

-- ---- new changes

pub new_step : (own : List Fact) (p : Pair) (part : List ℕ) (c : Contents) (m m' : Mode) → IsSound p → Moves p.new_number part p.new c
    → mode p part ≡ m → mode (with_new p c) part ≡ m' → rank m ≤ rank m'
    → FormsAt IsNewMarker IsEntry c part
    → KeptAt (with_new p c) p.new_number c part
    → ((rk : List ℕ) → rk ≢ marker_key → FitsMode m' (old_at p part rk) (row_at c.rows part rk))
    → (m ≡ Overlaid → m' ≡ Overlaid → (w : Stored) → row_at c.rows part marker_key ≡ Some w → w.tag.n ≤ p.new.counter
    → ApartFrom (Epoch part w.tag keys.None) own → (rk : List ℕ) → rk ≢ marker_key → EntryStays (new_at p part rk) (row_at c.rows part rk))
    → (5 ≤ rank m → (rk : List ℕ) → rk ≢ marker_key → NoTomb (new_at p part rk) → NoTomb (row_at c.rows part rk))
    → StepIn own p (with_new p c) part
new_step own p part c m m' s moves is now le forms kept here stays tombs =
    let r : rank (mode p part) ≡ rank m = ap rank is in
    let r' : rank (mode (with_new p c) part) ≡ rank m' = ap rank now in
    step own p p.old c part s (record {
      old = moves_self p.old_number part p.old;
      new = moves;
      modes = omega (arith, r, r', le);
      old_forms = forms_at (IsOldMarker p.old_number) (IsOldRow p.old_number) p.old part s.forms.0;
      new_forms = forms;
      old_kept = λ rk row tag is copy. kept_on p p.old_number tag p.old c (omega arith) (s.tags.2 part rk row tag is copy);
      new_kept = kept;
      here = λ rk other. subst (λ x. FitsMode x (old_at p part rk) (row_at c.rows part rk)) (sym now) (here rk other);
      births = λ x none. no_rows p s part none;
      turned = λ x y rk. refl;
      entries = λ w x y there le apart. stays (sym is ∙ x) (sym now ∙ y) w there le apart;
      tombs = λ low. tombs (omega (arith, low, r));
      dropped = λ low rk. inl refl;
    })
