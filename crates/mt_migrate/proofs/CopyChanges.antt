-- The copies of a chunk are written: the pair stays sound, and clients see the same.
use Rattle.std.proofs.Common.{◌≡◌, ◌≢◌, ◌⊎◌, ℕ, ◌≤◌, true, false, ◌||◌, List, [], ◌∷◌, Option, Some, None, refl, sym, ap, ◌∙◌, subst, arith, inl, inr}
use Rattle.mt_model.specs.declared.tag.Tag.{Tag}
use Rattle.mt_model.specs.declared.value.Prop.{Prop}
use Rattle.mt_model.specs.Key.{key_fault}
use Rattle.mt_chain.specs.declared.row.Stored.{Stored}
use Rattle.mt_chain.specs.declared.row.Put.{Put}
use Rattle.mt_chain.specs.declared.row.Put.TheVariants.{Check, Insert, Replace, Delete}
use Rattle.mt_chain.specs.Puts.{row_key, has_tag, unmet_from}
use Rattle.mt_chain.specs.StoreCall.{Contents}
use Rattle.mt_chain.proofs.KeyLaws.{text_false}
use Rattle.mt_chain.proofs.PutLaws.{row_after, all_puts, is_named, row_after_unnamed, Each, Held, each_held}
use Rattle.mt_chain.proofs.JudgeLaws.{contents_after}
use Rattle.mt_meta.specs.declared.mark.Mark.TheVariants.{Copy}
use Rattle.mt_meta.specs.Markers.{marker_key}
use Rattle.mt_meta.specs.Marks.{mark_of}
use Rattle.mt_meta.specs.Logical.{Pair, new_says, new_state, old_at, new_at, old_state_at, new_state_at}
use Rattle.mt_meta.specs.Sound.{IsNewMarker, IsEntry, IsCopyOrNone, IsKept, IsSound}
use Rattle.mt_meta.specs.Modes.{Mode, Empty, AtOld, Prepared, Copying, Overlaid, Settled, NewOnly, Broken, mode_of, mode, rank, FitsMode, shown_in}
use Rattle.mt_meta.specs.declared.fact.Keys.{Keys}
use Rattle.mt_meta.specs.declared.fact.Keys.TheVariants as keys
use Rattle.mt_meta.specs.declared.fact.Fact.{Fact}
use Rattle.mt_meta.specs.declared.fact.Fact.TheVariants.{Epoch}
use Rattle.mt_meta.specs.Facts.{KnowsRow, KnowsEpoch, ApartFrom, is_filling}
use Rattle.mt_meta.specs.Steps.{with_new}
use Rattle.mt_meta.proofs.Rules.{to_modes}
use Rattle.mt_meta.proofs.ShownLaws.{logical_in}
use Rattle.mt_meta.proofs.ModeLaws.{filling_ranks}
use Rattle.mt_meta.proofs.StorePuts.{tagged, moves_puts, Leaves, Touched, touched, seen, no_row, the_row}
use Rattle.mt_meta.proofs.Parts.{FormsAt, KeptAt, kept_on, new_step}
use Rattle.mt_migrate.proofs.MarkerChanges.{Shows, same_at, copy_through}

-- ---- puts of copies

-- properties of a copy, under a client's key
pub record IsCopyAt (p : Pair) (pk rk : List ℕ) (props : List Prop) : Type 0 where
  pub other : rk ≢ marker_key
  pub key : key_fault pk rk ≡ None
  pub tag : Tag
  pub copy : mark_of props ≡ Some (Copy tag)
  pub entry : IsEntry props
  pub kept : IsKept p p.new_number tag

-- a row that is known to be a copy
pub record KnowsCopy (p : Pair) (pk rk : List ℕ) (own : Tag) : Type 0 where
  pub props : List Prop
  pub tag : Tag
  pub copy : mark_of props ≡ Some (Copy tag)
  pub row : KnowsRow p.new pk rk props own

-- a put of a migrator: a copy where nothing or a copy stands
abbrev pub CopyPut : Pair → List ℕ → Put → Type 0
CopyPut p pk (Insert rk props) = IsCopyAt p pk rk props
CopyPut p pk (Replace rk props own) = IsCopyAt p pk rk props × KnowsCopy p pk rk own
CopyPut p pk (Delete rk own) = (rk ≢ marker_key) × KnowsCopy p pk rk own
CopyPut p pk (Check rk own) = ⊥

abbrev HeldCopy : Pair → List ℕ → Put → Type 0
HeldCopy p pk put = CopyPut p pk put × Held p.new.rows pk put

both : (P Q : Put → Type 0) (puts : List Put) → Each P puts → Each Q puts → Each (λ put. P put × Q put) puts
both P Q [] h g = tt
both P Q (put ∷ puts) h g = ((h.0, g.0), both P Q puts h.1 g.1)

not_marker : (p : Pair) (pk : List ℕ) (put : Put) → CopyPut p pk put → row_key put ≢ marker_key
not_marker p pk (Insert rk props) h = h.other
not_marker p pk (Replace rk props own) h = h.0.other
not_marker p pk (Delete rk own) h = h.0
not_marker p pk (Check rk own) h = absurd h

unmarked : (p : Pair) (pk : List ℕ) (puts : List Put) → Each (CopyPut p pk) puts → is_named marker_key puts ≡ false
unmarked p pk [] h = refl
unmarked p pk (put ∷ puts) h = ap (λ b. b || is_named marker_key puts) (text_false (row_key put) marker_key (not_marker p pk put h.0)) ∙ unmarked p pk puts h.1

-- what such a put leaves
record LeftCopy (p : Pair) (pk rk : List ℕ) (after : Option Stored) : Type 0 where
  pub copy : IsCopyOrNone after
  pub entry : (r : Stored) → after ≡ Some r → IsEntry r.props × (key_fault pk rk ≡ None)
  pub kept : (r : Stored) (t : Tag) → after ≡ Some r → mark_of r.props ≡ Some (Copy t) → IsKept p p.new_number t

pub copy_tag : (a b : Tag) → Some (Copy a) ≡ Some (Copy b) → a ≡ b
copy_tag a b e = cc

left_copy : (p : Pair) (pk rk : List ℕ) (props : List Prop) (after : Option Stored) → IsCopyAt p pk rk props → (r : Stored) × (after ≡ Some r) × (r.props ≡ props) → LeftCopy p pk rk after
left_copy p pk rk props after h l = record {
  copy = subst IsCopyOrNone (sym l.1) (h.tag, ap mark_of l.2 ∙ h.copy);
  entry = λ r is. (subst IsEntry (sym (same r is)) h.entry, h.key);
  kept = λ r t is mark. subst (IsKept p p.new_number) (copy_tag h.tag t (sym h.copy ∙ ap mark_of (sym (same r is)) ∙ mark)) h.kept;
} where
  same : (r : Stored) → after ≡ Some r → r.props ≡ props
  same r is = ap (λ (x : Stored). x.props) (the_row r l.0 (sym is ∙ l.1)) ∙ l.2

left_none : (p : Pair) (pk rk : List ℕ) (after : Option Stored) → after ≡ None → LeftCopy p pk rk after
left_none p pk rk after none = record {
  copy = subst IsCopyOrNone (sym none) tt;
  entry = λ r is. absurd (let e = sym none ∙ is in cc);
  kept = λ r t is mark. absurd (let e = sym none ∙ is in cc);
}

put_left : (p : Pair) (pk : List ℕ) (put : Put) (after : Option Stored) → CopyPut p pk put → Leaves put after → LeftCopy p pk (row_key put) after
put_left p pk (Insert rk props) after h l = left_copy p pk rk props after h l
put_left p pk (Replace rk props own) after h l = left_copy p pk rk props after h.0 l
put_left p pk (Delete rk own) after h l = left_none p pk rk after l
put_left p pk (Check rk own) after h l = absurd h

-- where such a put holds, nothing or a copy stood
copy_there : (p : Pair) (pk rk : List ℕ) (own : Tag) → KnowsCopy p pk rk own → has_tag own (new_at p pk rk) ≡ true → IsCopyOrNone (new_at p pk rk)
copy_there p pk rk own k h = (let x = seen p.new pk rk k.props own k.row h in subst IsCopyOrNone (sym x.is) (k.tag, ap mark_of x.props ∙ k.copy))

stood : (p : Pair) (pk : List ℕ) (put : Put) → HeldCopy p pk put → IsCopyOrNone (new_at p pk (row_key put))
stood p pk (Insert rk props) h = subst IsCopyOrNone (sym (no_row (new_at p pk rk) h.1)) tt
stood p pk (Replace rk props own) h = copy_there p pk rk own h.0.1 h.1
stood p pk (Delete rk own) h = copy_there p pk rk own h.0.1 h.1
stood p pk (Check rk own) h = absurd h.0

-- ---- while new fills

mid_fits : (m : Mode) → 3 ≤ rank m → rank m ≤ 4 → (row entry entry' : Option Stored) → FitsMode m row entry → (entry' ≡ entry) ⊎ IsCopyOrNone entry' → FitsMode m row entry'
mid_fits Empty low high row entry entry' h g = absurd (omega arith)
mid_fits AtOld low high row entry entry' h g = absurd (omega arith)
mid_fits Prepared low high row entry entry' h g = absurd (omega arith)
mid_fits Copying low high row entry entry' h (inl e) = subst IsCopyOrNone (sym e) h
mid_fits Copying low high row entry entry' h (inr c) = c
mid_fits Overlaid low high row entry entry' h g = tt
mid_fits Settled low high row entry entry' h g = absurd (omega arith)
mid_fits NewOnly low high row entry entry' h g = absurd (omega arith)
mid_fits Broken low high row entry entry' h g = absurd (omega arith)

mid_shows : (m : Mode) → 3 ≤ rank m → rank m ≤ 4 → (row entry entry' : Option Stored) → IsCopyOrNone entry → IsCopyOrNone entry' → shown_in m row entry' ≡ shown_in m row entry
mid_shows Empty low high row entry entry' h g = absurd (omega arith)
mid_shows AtOld low high row entry entry' h g = absurd (omega arith)
mid_shows Prepared low high row entry entry' h g = absurd (omega arith)
mid_shows Copying low high row entry entry' h g = refl
mid_shows Overlaid low high row entry entry' h g = copy_through row entry' g ∙ sym (copy_through row entry h)
mid_shows Settled low high row entry entry' h g = absurd (omega arith)
mid_shows NewOnly low high row entry entry' h g = absurd (omega arith)
mid_shows Broken low high row entry entry' h g = absurd (omega arith)

-- ---- the copies of a chunk

module _ (own : List Fact) (p : Pair) (pk : List ℕ) (epoch : Tag) (part : Keys) (rest : List Put) (s : IsSound p) (knows : KnowsEpoch p pk epoch part)
    (good : Each (CopyPut p pk) rest) (met : unmet_from 0 p.new.rows pk (Check marker_key epoch ∷ rest) ≡ None)
    (mine : ApartFrom (Epoch pk epoch keys.None) own → ⊥) where
  abbrev copied_new : Contents
  copied_new = contents_after p.new_number p.new pk (Check marker_key epoch ∷ rest)

  abbrev copied : Pair
  copied = with_new p copied_new

  all_held : Each (HeldCopy p pk) rest
  all_held = both (CopyPut p pk) (Held p.new.rows pk) rest good (each_held 0 p.new.rows pk (Check marker_key epoch ∷ rest) met).1

  pub the_marker : (r : Stored) × (new_at p pk marker_key ≡ Some r) × (r.tag ≡ epoch)
  the_marker = tagged (new_at p pk marker_key) epoch (each_held 0 p.new.rows pk (Check marker_key epoch ∷ rest) met).0

  fills : is_filling (new_state_at p pk) ≡ true
  fills = ap (λ x. is_filling (new_state x)) the_marker.1 ∙ ap (λ c. is_filling (new_says c)) (knows.filling the_marker.0 the_marker.1 the_marker.2)

  ranks : (3 ≤ rank (mode p pk)) × (rank (mode p pk) ≤ 4)
  ranks = filling_ranks p pk s fills

  pub copy_row : (rk : List ℕ) → new_at copied pk rk ≡ row_after p.new_number p.new.counter rest rk (new_at p pk rk)
  copy_row rk = all_puts p.new_number p.new.counter pk rest p.new.rows rk

  copy_marker : new_at copied pk marker_key ≡ new_at p pk marker_key
  copy_marker = copy_row marker_key ∙ row_after_unnamed p.new_number p.new.counter rest marker_key (new_at p pk marker_key) (unmarked p pk rest good)

  copy_mode : mode copied pk ≡ mode p pk
  copy_mode = ap (λ x. mode_of (old_state_at p pk) (new_state x) p.old.sealed) copy_marker

  copy_touched : (rk : List ℕ) → Touched (HeldCopy p pk) rk (new_at p pk rk) (new_at copied pk rk)
  copy_touched rk = subst (Touched (HeldCopy p pk) rk (new_at p pk rk)) (sym (copy_row rk)) (touched (HeldCopy p pk) p.new_number p.new.counter rest rk (new_at p pk rk) all_held)

  -- an entry afterwards is the one before, or a copy where nothing or a copy stood
  record Copied (rk : List ℕ) : Type 0 where
    pub before : IsCopyOrNone (new_at p pk rk)
    pub left : LeftCopy p pk rk (new_at copied pk rk)

  same_or_copied : (rk : List ℕ) → (new_at copied pk rk ≡ new_at p pk rk) ⊎ Copied rk
  same_or_copied rk = elim (copy_touched rk) as (λ _. (new_at copied pk rk ≡ new_at p pk rk) ⊎ Copied rk) [
    | inl e ↦ inl e
    | inr x ↦ inr (record {
      before = subst (λ k. IsCopyOrNone (new_at p pk k)) x.2 (stood p pk x.0 x.1);
      left = subst (λ k. LeftCopy p pk k (new_at copied pk rk)) x.2 (put_left p pk x.0 (new_at copied pk rk) x.1.0 x.3);
    })
  ]

  copy_forms : FormsAt IsNewMarker IsEntry copied_new pk
  copy_forms = record {
    marker = λ row is. s.forms.1.markers pk row (sym copy_marker ∙ is);
    data_rows = λ rk row other is. elim (same_or_copied rk) as (λ _. IsEntry row.props × (key_fault pk rk ≡ None)) [
      | inl e ↦ s.forms.1.data_rows pk rk row other (sym e ∙ is)
      | inr x ↦ x.left.entry row is
    ];
  }

  copy_kept : KeptAt copied p.new_number copied_new pk
  copy_kept rk row t is copy = kept_on p p.new_number t p.old copied_new (omega arith) (elim (same_or_copied rk) as (λ _. IsKept p p.new_number t) [
    | inl e ↦ s.tags.3 pk rk row t (sym e ∙ is) copy
    | inr x ↦ x.left.kept row t is copy
  ])

  pub copies : Shows own p copied pk
  copies =
      let step = new_step own p pk copied_new (mode p pk) (mode p pk) s (moves_puts p.new_number pk (Check marker_key epoch ∷ rest) p.new) refl copy_mode (omega arith) copy_forms copy_kept
      (λ rk other. mid_fits (mode p pk) ranks.0 ranks.1 (old_at p pk rk) (new_at p pk rk) (new_at copied pk rk) ((to_modes p s).keys pk rk other)
      (elim (same_or_copied rk) as (λ _. (new_at copied pk rk ≡ new_at p pk rk) ⊎ IsCopyOrNone (new_at copied pk rk)) [ inl e ↦ inl e | inr x ↦ inr x.left.copy ]))
      (λ a b w there le apart rk other. absurd (mine (subst (λ t. ApartFrom (Epoch pk t keys.None) own)
      (ap (λ (x : Stored). x.tag) (the_row w the_marker.0 (sym there ∙ copy_marker ∙ the_marker.1)) ∙ the_marker.2) apart)))
      (λ low. absurd (omega (arith, low, ranks.1))) in
      record {
        step = step;
        same = same_at p copied pk (λ rk other.
            logical_in copied pk rk other step.sound
            ∙ ap (λ m. shown_in m (old_at p pk rk) (new_at copied pk rk)) copy_mode
            ∙ elim (same_or_copied rk) as (λ _. shown_in (mode p pk) (old_at p pk rk) (new_at copied pk rk) ≡ shown_in (mode p pk) (old_at p pk rk) (new_at p pk rk)) [
              | inl e ↦ ap (shown_in (mode p pk) (old_at p pk rk)) e
              | inr x ↦ mid_shows (mode p pk) ranks.0 ranks.1 (old_at p pk rk) (new_at p pk rk) (new_at copied pk rk) x.before x.left.copy
            ]
            ∙ sym (logical_in p pk rk other s));
      }
