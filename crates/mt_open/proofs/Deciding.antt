-- Whether a row has a form is decided: one of both is so.
use Rattle.std.proofs.Common.{◌≡◌, ◌⊎◌, ℕ, ◌<◌, Bool, true, false, ◌&&◌, List, Option, Some, None, refl, sym, ap, subst, ◌∙◌, inl, inr, cond, ◌==◌}
use Rattle.std.specs.Prelude.{nat_lt, bytes_eq, filter, option_map, codes}
use Rattle.std.specs.Bool.{Decides}
use Rattle.std.proofs.lemmas.Bool.{ltb-true, and_parts}
use Rattle.std.proofs.lemmas.Bool.Decides.{Decides-ltb, Decides-eqb}
use Rattle.std.proofs.lemmas.Slice.Eq.{bytes_eq-Decides}
use Rattle.mt_model.specs.declared.name.Hidden.TheVariants as hidden
use Rattle.mt_model.specs.declared.key.KeyFault.{KeyFault}
use Rattle.mt_model.specs.declared.key.KeyPart.TheVariants.{Partition}
use Rattle.mt_model.specs.declared.key.Key.{Key}
use Rattle.mt_model.specs.declared.tag.Tag.{Tag}
use Rattle.mt_model.specs.declared.value.Prop.{Prop}
use Rattle.mt_model.specs.Key.{part_fault, key_fault}
use Rattle.mt_model.specs.Tag.{IsTag, tag_text}
use Rattle.mt_model.specs.Props.{is_visible, hidden_text}
use Rattle.mt_model.proofs.Same.{props_decide}
use Rattle.mt_meta.specs.declared.marker.Phase.{Phase}
use Rattle.mt_meta.specs.declared.marker.Phase.TheVariants.{UseOld, PreferOld, PreferNew}
use Rattle.mt_meta.specs.declared.marker.NewPhase.{NewPhase}
use Rattle.mt_meta.specs.declared.marker.NewPhase.TheVariants.{Filling, UseNew}
use Rattle.mt_meta.specs.declared.mark.Mark.{Mark}
use Rattle.mt_meta.specs.declared.mark.Mark.TheVariants.{Live, Copy, Tomb}
use Rattle.mt_meta.specs.Markers.{marker_key, marker_props, old_kind, new_kind}
use Rattle.mt_meta.specs.Marks.{mark_of, mark_in, stored}
use Rattle.mt_meta.specs.TagTexts.{read_tag, spelled, is_tag}
use Rattle.mt_meta.specs.Logical.{Pair}
use Rattle.mt_meta.specs.Sound.{IsOldMarker, IsNewMarker, HasTag, IsEntry, IsOldRow}
use Rattle.mt_meta.proofs.MarkLaws.{live_reads, copy_reads}
use Rattle.mt_meta.proofs.Rules.{key_cases}
use Rattle.mt_chain.specs.declared.ask.Side.{Side}
use Rattle.mt_chain.specs.declared.ask.Side.TheVariants.{Old, New}
use Rattle.mt_open.specs.Damage.{IsMarkerIn, IsRowIn, HasForm}

-- it is so, or it is not so
abbrev pub Either : Type 0 → Type 0
Either P = P ⊎ (¬ P)

by_test : {P : Type 0} (b : Bool) → Decides b P → Either P
by_test true d = inl (d.0 refl)
by_test false d = inr (λ h. let x = d.1 h in cc)

same_props : (ps qs : List Prop) → Either (ps ≡ qs)
same_props ps qs = by_test _ (props_decide ps qs)

pub one_of : {P Q : Type 0} → Either P → Either Q → Either (P ⊎ Q)
one_of {P} {Q} (inl p) q = inl (inl p)
one_of {P} {Q} (inr np) (inl q) = inl (inr q)
one_of {P} {Q} (inr np) (inr nq) = inr (λ h. no h) where
  no : P ⊎ Q → ⊥
  no (inl p) = np p
  no (inr q) = nq q

pub both_of : {P Q : Type 0} → Either P → Either Q → Either (P × Q)
both_of (inl p) (inl q) = inl (p, q)
both_of (inl p) (inr nq) = inr (λ h. nq h.1)
both_of (inr np) q = inr (λ h. np h.0)

pub not_of : {P : Type 0} → Either P → Either (¬ P)
not_of (inl p) = inr (λ n. n p)
not_of (inr np) = inl np

-- what is not not so is so
pub stable : {P : Type 0} → Either P → (¬ (¬ P)) → P
stable (inl p) h = p
stable (inr np) h = absurd (h np)

pub if_of : {P Q : Type 0} → Either P → Either Q → Either (P → Q)
if_of (inl p) (inl q) = inl (λ h. q)
if_of (inl p) (inr nq) = inr (λ f. nq (f p))
if_of (inr np) q = inl (λ h. absurd (np h))

pub same_numbers : (a b : ℕ) → Either (a ≡ b)
same_numbers a b = by_test (a == b) (Decides-eqb a b)

pub same_texts : (a b : List ℕ) → Either (a ≡ b)
same_texts a b = by_test (bytes_eq a b) (bytes_eq-Decides a b)

pub above_zero : (n : ℕ) → Either (0 < n)
above_zero n = by_test (nat_lt 0 n) (Decides-ltb 0 n)

pub old_marker_or_not : (store : ℕ) (ps : List Prop) → Either (IsOldMarker store ps)
old_marker_or_not store ps = one_of (phases (same_props ps (marker_props (old_kind UseOld))) (same_props ps (marker_props (old_kind PreferOld))) (same_props ps (marker_props (old_kind PreferNew)))) (both_of (above_zero store) (same_props ps (marker_props (new_kind UseNew)))) where
  phases : Either (ps ≡ marker_props (old_kind UseOld)) → Either (ps ≡ marker_props (old_kind PreferOld)) → Either (ps ≡ marker_props (old_kind PreferNew)) → Either ((phase : Phase) × (ps ≡ marker_props (old_kind phase)))
  phases (inl e) b c = inl (UseOld, e)
  phases (inr na) (inl e) c = inl (PreferOld, e)
  phases (inr na) (inr nb) (inl e) = inl (PreferNew, e)
  phases (inr na) (inr nb) (inr nc) = inr (λ h. none h.0 h.1) where
    none : (phase : Phase) → ps ≡ marker_props (old_kind phase) → ⊥
    none UseOld e = na e
    none PreferOld e = nb e
    none PreferNew e = nc e

pub new_marker_or_not : (ps : List Prop) → Either (IsNewMarker ps)
new_marker_or_not ps = phases (same_props ps (marker_props (new_kind Filling))) (same_props ps (marker_props (new_kind UseNew))) where
  phases : Either (ps ≡ marker_props (new_kind Filling)) → Either (ps ≡ marker_props (new_kind UseNew)) → Either ((phase : NewPhase) × (ps ≡ marker_props (new_kind phase)))
  phases (inl e) b = inl (Filling, e)
  phases (inr na) (inl e) = inl (UseNew, e)
  phases (inr na) (inr nb) = inr (λ h. none h.0 h.1) where
    none : (phase : NewPhase) → ps ≡ marker_props (new_kind phase) → ⊥
    none Filling e = na e
    none UseNew e = nb e

-- what is stored with a mark reads as it
pub entry_reads : (mark : Mark) (ps : List Prop) → HasTag mark → mark_of (stored mark ps) ≡ Some mark
entry_reads Live ps h = live_reads ps
entry_reads (Copy tag) ps h = copy_reads tag ps h
entry_reads Tomb ps h = refl

read_sizes : (text : List ℕ) (b : Bool) (t : Tag) → is_tag (spelled text) ≡ true → Some (spelled text) ≡ Some t → IsTag t
read_sizes text b t e same =
    let parts = and_parts _ _ e in
    subst IsTag (some_inj same) (ltb-true _ _ parts.0, ltb-true _ _ parts.1) where
      some_inj : Some (spelled text) ≡ Some t → spelled text ≡ t
      some_inj e = cc

read_has_tag : (text : List ℕ) (t : Tag) → read_tag text ≡ Some t → IsTag t
read_has_tag text t e = go (is_tag (spelled text)) (bytes_eq text (tag_text (spelled text))) refl e where
  go : (a b : Bool) → is_tag (spelled text) ≡ a → cond (a && b) (Some (spelled text)) None ≡ Some t → IsTag t
  go true true ea e = read_sizes text true t ea e
  go true false ea e = absurd cc
  go false b ea e = absurd cc

-- the mark that is read of properties has a tag where it keeps one
mark_has_tag : (kind tag : Option (List ℕ)) (mark : Mark) → mark_in kind tag ≡ Some mark → HasTag mark
mark_has_tag kind tag Live e = tt
mark_has_tag kind tag Tomb e = tt
mark_has_tag None tag (Copy t) e = absurd cc
mark_has_tag (Some kind) None (Copy t) e = plain (bytes_eq kind (codes "live")) (bytes_eq kind (codes "tomb")) e where
  plain : (a b : Bool) → cond a (Some Live) (cond b (Some Tomb) None) ≡ Some (Copy t) → IsTag t
  plain true b e = absurd cc
  plain false true e = absurd cc
  plain false false e = absurd cc
mark_has_tag (Some kind) (Some text) (Copy t) e = named (bytes_eq kind (codes "copy")) (read_tag text) refl e where
  named : (a : Bool) (read : Option Tag) → read_tag text ≡ read → cond a (option_map Copy read) None ≡ Some (Copy t) → IsTag t
  named true None er e = absurd cc
  named true (Some s) er e = read_has_tag text t (er ∙ (let x : Some s ≡ Some t = cc in x))
  named false read er e = absurd cc

pub has_tag : (ps : List Prop) (mark : Mark) → mark_of ps ≡ Some mark → HasTag mark
has_tag ps mark e = mark_has_tag (hidden_text ps hidden.Kind) (hidden_text ps hidden.Tag) mark e

-- properties with a mark are an entry where storing them with it gives them again
pub entry_by_mark : (ps : List Prop) (mark : Mark) → mark_of ps ≡ Some mark → IsEntry ps → ps ≡ stored mark ps
entry_by_mark ps mark e h =
    let read : mark_of ps ≡ Some h.0 = ap mark_of h.2 ∙ entry_reads h.0 ps h.1 in
    let same : h.0 ≡ mark = (let x : Some h.0 ≡ Some mark = sym read ∙ e in cc) in
    subst (λ m. ps ≡ stored m ps) same h.2

pub no_entry : (ps : List Prop) → mark_of ps ≡ None → ¬ IsEntry ps
no_entry ps e h = (let read = sym e ∙ ap mark_of h.2 ∙ entry_reads h.0 ps h.1 in cc)

pub entry_or_not : (ps : List Prop) → Either (IsEntry ps)
entry_or_not ps = go (mark_of ps) refl where
  stored_again : (mark : Mark) → mark_of ps ≡ Some mark → Either (ps ≡ stored mark ps) → Either (IsEntry ps)
  stored_again mark e (inl same) = inl (mark, has_tag ps mark e, same)
  stored_again mark e (inr other) = inr (λ h. other (entry_by_mark ps mark e h))

  go : (x : Option Mark) → mark_of ps ≡ x → Either (IsEntry ps)
  go None e = inr (no_entry ps e)
  go (Some mark) e = stored_again mark e (same_props ps (stored mark ps))

tomb_or_not : (ps : List Prop) → Either (mark_of ps ≡ Some Tomb)
tomb_or_not ps = go (mark_of ps) refl where
  go : (x : Option Mark) → mark_of ps ≡ x → Either (mark_of ps ≡ Some Tomb)
  go None e = inr (λ h. let x = sym e ∙ h in cc)
  go (Some Live) e = inr (λ h. let x = sym e ∙ h in cc)
  go (Some (Copy t)) e = inr (λ h. let x = sym e ∙ h in cc)
  go (Some Tomb) e = inl e

pub old_row_or_not : (store : ℕ) (ps : List Prop) → Either (IsOldRow store ps)
old_row_or_not store ps = one_of (same_props (filter is_visible ps) ps) (both3 (above_zero store) (entry_or_not ps) (not_of (tomb_or_not ps))) where
  both3 : {P Q R : Type 0} → Either P → Either Q → Either R → Either (P × Q × R)
  both3 (inl p) (inl q) (inl r) = inl (p, q, r)
  both3 (inl p) (inl q) (inr nr) = inr (λ h. nr h.2)
  both3 (inl p) (inr nq) r = inr (λ h. nq h.1)
  both3 (inr np) q r = inr (λ h. np h.0)

no_fault_or_not : (fault : Option KeyFault) → Either (fault ≡ None)
no_fault_or_not None = inl refl
no_fault_or_not (Some f) = inr (λ e. cc)

marker_or_not : (p : Pair) (side : Side) (ps : List Prop) → Either (IsMarkerIn p side ps)
marker_or_not p Old ps = old_marker_or_not p.old_number ps
marker_or_not p New ps = new_marker_or_not ps

row_or_not : (p : Pair) (side : Side) (ps : List Prop) → Either (IsRowIn p side ps)
row_or_not p Old ps = old_row_or_not p.old_number ps
row_or_not p New ps = entry_or_not ps

pub marker_key_or_not : (rk : List ℕ) → Either (rk ≡ marker_key)
marker_key_or_not rk = key_cases rk

pub form_or_not : (p : Pair) (side : Side) (key : Key) (ps : List Prop) → Either (HasForm p side key ps)
form_or_not p side key ps = both_of
    (if_of (marker_key_or_not key.rk) (both_of (marker_or_not p side ps) (no_fault_or_not (part_fault Partition key.pk))))
    (if_of (not_of (marker_key_or_not key.rk)) (both_of (row_or_not p side ps) (no_fault_or_not (key_fault key.pk key.rk))))
