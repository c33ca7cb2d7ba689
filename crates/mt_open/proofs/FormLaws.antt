-- What the code asks of a row, and its form.
use Rattle.std.proofs.Common.{◌≡◌, ◌⊎◌, ℕ, ◌<◌, Bool, true, false, cond, ◌&&◌, List, [], ◌∷◌, length, Option, Some, None, Result, Ok, Err, refl, sym, ap, ◌∙◌, inl, inr, arith}
use Rattle.std.specs.Prelude.{nat_lt, bytes_eq, filter, option_map, codes, IsTrue, IfOk}
use Rattle.std.specs.List.{list_all}
use Rattle.std.specs.Option.{is_some, option_or}
use Rattle.std.proofs.lemmas.Bool.{ltb-true, and_parts}
use Rattle.mt_model.specs.declared.key.KeyFault.{KeyFault}
use Rattle.mt_model.specs.declared.key.KeyPart.TheVariants.{Partition, Row}
use Rattle.mt_model.specs.declared.name.Hidden.TheVariants as hidden
use Rattle.mt_model.specs.declared.value.Value.{Value}
use Rattle.mt_model.specs.declared.value.Value.TheVariants as value
use Rattle.mt_model.specs.declared.value.Prop.{Prop}
use Rattle.mt_model.specs.Key.{part_fault, key_fault}
use Rattle.mt_model.specs.Props.{is_visible, hidden_text, hidden_prop, text_of}
use Rattle.mt_meta.specs.declared.marker.Phase.{Phase}
use Rattle.mt_meta.specs.declared.marker.Phase.TheVariants.{UseOld, PreferOld, PreferNew}
use Rattle.mt_meta.specs.declared.marker.NewPhase.{NewPhase}
use Rattle.mt_meta.specs.declared.marker.NewPhase.TheVariants.{Filling, UseNew}
use Rattle.mt_meta.specs.Markers.{marker_props, old_kind, new_kind, old_named, new_named, old_named_in, old_phase_in, new_phase_in, old_phase_of, new_phase_of}
use Rattle.mt_meta.specs.Sound.{IsOldMarker, IsNewMarker}
use Rattle.mt_meta.proofs.Rules.{old_is, new_read}
use Rattle.std.proofs.lemmas.Str.{chars-nil}
use Rattle.mt_chain.proofs.KeyLaws.{text_true}

-- what is tested as one thing is another
pub ok_for : {E P Q : Type 0} (r : Result Bool E) → (P → Q) → (Q → P) → IfOk r (λ b. (IsTrue b → P) × (P → IsTrue b)) → IfOk r (λ b. (IsTrue b → Q) × (Q → IsTrue b))
ok_for (Ok b) f g h = (λ e. f (h.0 e), λ q. h.1 (g q))
ok_for (Err e) f g h = tt

-- ---- markers

kind_prop : (q : Prop) (k : List ℕ) (b : Bool) → bytes_eq q.name (codes "$kind") ≡ b → text_of (option_map (λ (p : Prop). p.value) (cond b (Some q) None)) ≡ Some k → q ≡ hidden_prop hidden.Kind k
kind_prop q k false e h = absurd cc
kind_prop q k true e h = by_value q.value refl h where
  by_value : (v : Value) → q.value ≡ v → text_of (Some v) ≡ Some k → q ≡ hidden_prop hidden.Kind k
  by_value (value.Str text) ev h = (let same : text ≡ k = (let x : Some text ≡ Some k = h in cc) in let v : q.value ≡ value.Str k = ev ∙ ap value.Str same in λ i. record { name = text_true q.name (codes "$kind") e i; value = v i })
  by_value v ev h = absurd cc

single : (ps : List Prop) → length ps ≡ 1 → (k : List ℕ) → hidden_text ps hidden.Kind ≡ Some k → ps ≡ marker_props k
single [] one k h = absurd (omega (arith, one))
single (q ∷ []) one k h = ap (λ x. x ∷ []) (kind_prop q k (bytes_eq q.name (codes "$kind")) refl h)
single (q ∷ r ∷ ps) one k h = absurd (omega (arith, one))

old_by_name : (k : List ℕ) → is_some (old_named k) ≡ true → (phase : Phase) × (k ≡ old_kind phase)
old_by_name k h = go (bytes_eq k (old_kind UseOld)) (bytes_eq k (old_kind PreferOld)) (bytes_eq k (old_kind PreferNew)) refl refl refl h where
  go : (a b c : Bool) → bytes_eq k (old_kind UseOld) ≡ a → bytes_eq k (old_kind PreferOld) ≡ b → bytes_eq k (old_kind PreferNew) ≡ c
      → is_some (cond a (Some UseOld) (cond b (Some PreferOld) (cond c (Some PreferNew) None))) ≡ true → (phase : Phase) × (k ≡ old_kind phase)
  go true b c ea eb ec h = (UseOld, text_true _ _ ea)
  go false true c ea eb ec h = (PreferOld, text_true _ _ eb)
  go false false true ea eb ec h = (PreferNew, text_true _ _ ec)
  go false false false ea eb ec h = absurd cc

old_by_name_in : (store : ℕ) (k : List ℕ) → is_some (old_named_in store k) ≡ true → ((phase : Phase) × (k ≡ old_kind phase)) ⊎ ((0 < store) × (k ≡ new_kind UseNew))
old_by_name_in store k h = go (nat_lt 0 store && bytes_eq k (new_kind UseNew)) refl h where
  go : (b : Bool) → (nat_lt 0 store && bytes_eq k (new_kind UseNew)) ≡ b → is_some (cond b (Some UseOld) (old_named k)) ≡ true → ((phase : Phase) × (k ≡ old_kind phase)) ⊎ ((0 < store) × (k ≡ new_kind UseNew))
  go true e h = (let parts = and_parts (nat_lt 0 store) (bytes_eq k (new_kind UseNew)) e in inr (ltb-true 0 store parts.0, text_true k (new_kind UseNew) parts.1))
  go false e h = inl (old_by_name k h)

new_by_name : (k : List ℕ) → is_some (new_named k) ≡ true → (phase : NewPhase) × (k ≡ new_kind phase)
new_by_name k h = go (bytes_eq k (new_kind Filling)) (bytes_eq k (new_kind UseNew)) refl refl h where
  go : (a b : Bool) → bytes_eq k (new_kind Filling) ≡ a → bytes_eq k (new_kind UseNew) ≡ b → is_some (cond a (Some Filling) (cond b (Some UseNew) None)) ≡ true → (phase : NewPhase) × (k ≡ new_kind phase)
  go true b ea eb h = (Filling, text_true _ _ ea)
  go false true ea eb h = (UseNew, text_true _ _ eb)
  go false false ea eb h = absurd cc

some_true : {A : Type 0} (x : Option A) (a : A) → x ≡ Some a → is_some x ≡ true
some_true x a e = ap is_some e

pub old_marker_test : (store : ℕ) (ps : List Prop) → length ps ≡ 1 → (is_some (old_phase_of store ps) ≡ true → IsOldMarker store ps) × (IsOldMarker store ps → is_some (old_phase_of store ps) ≡ true)
old_marker_test store ps one = (λ h. go (hidden_text ps hidden.Kind) (hidden_text ps hidden.Tag) refl h, λ m. let is = old_is store ps m in some_true (old_phase_of store ps) is.0 is.1) where
  from_kind : (k : List ℕ) → ps ≡ marker_props k → ((phase : Phase) × (k ≡ old_kind phase)) ⊎ ((0 < store) × (k ≡ new_kind UseNew)) → IsOldMarker store ps
  from_kind k e (inl named) = inl (named.0, e ∙ ap marker_props named.1)
  from_kind k e (inr later) = inr (later.0, e ∙ ap marker_props later.1)

  go : (kind tag : Option (List ℕ)) → hidden_text ps hidden.Kind ≡ kind → is_some (old_phase_in store kind tag) ≡ true → IsOldMarker store ps
  go None tag e h = absurd cc
  go (Some k) None e h = from_kind k (single ps one k e) (old_by_name_in store k h)
  go (Some k) (Some t) e h = absurd cc

pub new_marker_test : (ps : List Prop) → length ps ≡ 1 → (is_some (new_phase_of ps) ≡ true → IsNewMarker ps) × (IsNewMarker ps → is_some (new_phase_of ps) ≡ true)
new_marker_test ps one = (λ h. go (hidden_text ps hidden.Kind) (hidden_text ps hidden.Tag) refl h, λ m. some_true (new_phase_of ps) m.0 (ap new_phase_of m.1 ∙ new_read m.0)) where
  from_kind : (k : List ℕ) → ps ≡ marker_props k → (phase : NewPhase) × (k ≡ new_kind phase) → IsNewMarker ps
  from_kind k e named = (named.0, e ∙ ap marker_props named.1)

  go : (kind tag : Option (List ℕ)) → hidden_text ps hidden.Kind ≡ kind → is_some (new_phase_in kind tag) ≡ true → IsNewMarker ps
  go None tag e h = absurd cc
  go (Some k) None e h = from_kind k (single ps one k e) (new_by_name k h)
  go (Some k) (Some t) e h = absurd cc

-- ---- rows

kept_all : (b : Bool) (p : Prop) (ps qs : List Prop) → (b && list_all is_visible ps) ≡ true → qs ≡ ps → cond b (p ∷ qs) qs ≡ p ∷ ps
kept_all true p ps qs h e = ap (λ x. p ∷ x) e
kept_all false p ps qs h e = absurd cc

pub all_visible : (ps : List Prop) → list_all is_visible ps ≡ true → filter is_visible ps ≡ ps
all_visible [] h = refl
all_visible (p ∷ ps) h = kept_all (is_visible p) p ps (filter is_visible ps) h (all_visible ps (and_parts (is_visible p) (list_all is_visible ps) h).1)

visible_kept : (b : Bool) (p : Prop) (qs : List Prop) → is_visible p ≡ b → list_all is_visible qs ≡ true → list_all is_visible (cond b (p ∷ qs) qs) ≡ true
visible_kept true p qs e h = ap (λ t. t && list_all is_visible qs) e ∙ h
visible_kept false p qs e h = h

filtered_visible : (ps : List Prop) → list_all is_visible (filter is_visible ps) ≡ true
filtered_visible [] = refl
filtered_visible (p ∷ ps) = visible_kept (is_visible p) p (filter is_visible ps) refl (filtered_visible ps)

pub visible_all : (ps : List Prop) → filter is_visible ps ≡ ps → list_all is_visible ps ≡ true
visible_all ps e = ap (list_all is_visible) (sym e) ∙ filtered_visible ps

-- ---- keys

part_only : (fault : Option KeyFault) → option_or fault None ≡ fault
part_only None = refl
part_only (Some f) = refl

no_row_fault : part_fault Row [] ≡ None
no_row_fault = rw chars-nil refl

pub empty_row_key : (pk : List ℕ) → key_fault pk [] ≡ part_fault Partition pk
empty_row_key pk = ap (option_or (part_fault Partition pk)) no_row_fault ∙ part_only (part_fault Partition pk)
