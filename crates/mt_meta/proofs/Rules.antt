-- The eight rules are the rules by modes.
use Rattle.std.proofs.Common.{◌≡◌, ◌≢◌, ◌⊎◌, ℕ, ◌<◌, Bool, true, false, ◌&&◌, List, [], Option, Some, None, refl, sym, ap, subst, ◌∙◌, inl, inr}
use Rattle.std.specs.Prelude.{nat_lt, bytes_eq}
use Rattle.std.proofs.lemmas.Bool.{lt-ltb}
use Rattle.mt_model.specs.declared.value.Prop.{Prop}
use Rattle.mt_chain.specs.declared.row.Stored.{Stored}
use Rattle.mt_chain.proofs.KeyLaws.{text_true, text_differs}
use Rattle.mt_meta.specs.declared.marker.Phase.{Phase}
use Rattle.mt_meta.specs.declared.marker.Phase.TheVariants.{UseOld, PreferOld, PreferNew}
use Rattle.mt_meta.specs.declared.marker.NewPhase.{NewPhase}
use Rattle.mt_meta.specs.declared.marker.NewPhase.TheVariants.{Filling, UseNew}
use Rattle.mt_meta.specs.Markers.{marker_key, marker_props, old_kind, new_kind, old_phase_of, new_phase_of}
use Rattle.mt_meta.specs.Logical.{Pair, OldState, NoOld, AtUseOld, AtPreferOld, AtPreferNew, BadOld, NewState, NoNew, AtFilling, AtUseNew, BadNew, old_says, new_says, old_state, new_state, old_at, new_at, old_state_at, new_state_at}
use Rattle.mt_meta.specs.Sound.{IsOldMarker, IsCopyOrNone, NoTomb, IsSound}
use Rattle.mt_meta.specs.Modes.{mode_of, FitsMode, IsSoundByModes}

-- the rules at one key
pub record KeyRules (o : OldState) (n : NewState) (b : Bool) (row entry : Option Stored) : Type 0 where
  pub old_mark : o ≢ BadOld
  pub new_mark : n ≢ BadNew
  pub marked : (o ≡ NoOld → row ≡ None) × (n ≡ NoNew → entry ≡ None)
  pub use_old : o ≡ AtUseOld → n ≡ NoNew
  pub prefer_old : o ≡ AtPreferOld → (n ≡ NoNew) ⊎ (n ≡ AtFilling)
  pub copies : o ≡ AtPreferOld → IsCopyOrNone entry
  pub prefer_new : o ≡ AtPreferNew → n ≢ NoNew
  pub no_old : o ≡ NoOld → (n ≡ NoNew) ⊎ ((n ≡ AtUseNew) × (b ≡ true))
  pub no_tombs : o ≡ NoOld → NoTomb entry

early : (AtUseNew ≡ NoNew) ⊎ (AtUseNew ≡ AtFilling) → ⊥
early (inl e) = cc
early (inr e) = cc

late : {b : Bool} → (AtFilling ≡ NoNew) ⊎ ((AtFilling ≡ AtUseNew) × (b ≡ true)) → ⊥
late (inl e) = cc
late (inr e) = let x = e.0 in cc

unsealed : (AtUseNew ≡ NoNew) ⊎ ((AtUseNew ≡ AtUseNew) × (false ≡ true)) → ⊥
unsealed (inl e) = cc
unsealed (inr e) = let x = e.1 in cc

none_copy : (entry : Option Stored) → entry ≡ None → IsCopyOrNone entry
none_copy entry e = subst IsCopyOrNone (sym e) tt

none_tomb : (entry : Option Stored) → entry ≡ None → NoTomb entry
none_tomb entry e = subst NoTomb (sym e) tt

pub by_mode : (o : OldState) (n : NewState) (b : Bool) (row entry : Option Stored) → KeyRules o n b row entry → FitsMode (mode_of o n b) row entry
by_mode NoOld NoNew false row entry h = (h.marked.0 refl, h.marked.1 refl)
by_mode NoOld NoNew true row entry h = (h.marked.0 refl, h.marked.1 refl)
by_mode NoOld AtFilling false row entry h = absurd (late (h.no_old refl))
by_mode NoOld AtFilling true row entry h = absurd (late (h.no_old refl))
by_mode NoOld AtUseNew false row entry h = absurd (unsealed (h.no_old refl))
by_mode NoOld AtUseNew true row entry h = (h.marked.0 refl, h.no_tombs refl)
by_mode NoOld BadNew false row entry h = absurd (h.new_mark refl)
by_mode NoOld BadNew true row entry h = absurd (h.new_mark refl)
by_mode AtUseOld NoNew false row entry h = h.marked.1 refl
by_mode AtUseOld NoNew true row entry h = h.marked.1 refl
by_mode AtUseOld AtFilling false row entry h = absurd (let e = h.use_old refl in cc)
by_mode AtUseOld AtFilling true row entry h = absurd (let e = h.use_old refl in cc)
by_mode AtUseOld AtUseNew false row entry h = absurd (let e = h.use_old refl in cc)
by_mode AtUseOld AtUseNew true row entry h = absurd (let e = h.use_old refl in cc)
by_mode AtUseOld BadNew false row entry h = absurd (h.new_mark refl)
by_mode AtUseOld BadNew true row entry h = absurd (h.new_mark refl)
by_mode AtPreferOld NoNew false row entry h = h.marked.1 refl
by_mode AtPreferOld NoNew true row entry h = h.marked.1 refl
by_mode AtPreferOld AtFilling false row entry h = h.copies refl
by_mode AtPreferOld AtFilling true row entry h = h.copies refl
by_mode AtPreferOld AtUseNew false row entry h = absurd (early (h.prefer_old refl))
by_mode AtPreferOld AtUseNew true row entry h = absurd (early (h.prefer_old refl))
by_mode AtPreferOld BadNew false row entry h = absurd (h.new_mark refl)
by_mode AtPreferOld BadNew true row entry h = absurd (h.new_mark refl)
by_mode AtPreferNew NoNew false row entry h = absurd (h.prefer_new refl refl)
by_mode AtPreferNew NoNew true row entry h = absurd (h.prefer_new refl refl)
by_mode AtPreferNew AtFilling false row entry h = tt
by_mode AtPreferNew AtFilling true row entry h = tt
by_mode AtPreferNew AtUseNew false row entry h = tt
by_mode AtPreferNew AtUseNew true row entry h = tt
by_mode AtPreferNew BadNew false row entry h = absurd (h.new_mark refl)
by_mode AtPreferNew BadNew true row entry h = absurd (h.new_mark refl)
by_mode BadOld NoNew false row entry h = absurd (h.old_mark refl)
by_mode BadOld NoNew true row entry h = absurd (h.old_mark refl)
by_mode BadOld AtFilling false row entry h = absurd (h.old_mark refl)
by_mode BadOld AtFilling true row entry h = absurd (h.old_mark refl)
by_mode BadOld AtUseNew false row entry h = absurd (h.old_mark refl)
by_mode BadOld AtUseNew true row entry h = absurd (h.old_mark refl)
by_mode BadOld BadNew false row entry h = absurd (h.old_mark refl)
by_mode BadOld BadNew true row entry h = absurd (h.old_mark refl)

pub by_rules : (o : OldState) (n : NewState) (b : Bool) (row entry : Option Stored) → FitsMode (mode_of o n b) row entry → KeyRules o n b row entry
by_rules NoOld NoNew false row entry h = record { old_mark = λ e. cc; new_mark = λ e. cc; marked = (λ e. h.0, λ e. h.1); use_old = λ e. absurd cc; prefer_old = λ e. absurd cc; copies = λ e. absurd cc; prefer_new = λ e f. cc; no_old = λ e. inl refl; no_tombs = λ e. none_tomb entry h.1 }
by_rules NoOld NoNew true row entry h = record { old_mark = λ e. cc; new_mark = λ e. cc; marked = (λ e. h.0, λ e. h.1); use_old = λ e. absurd cc; prefer_old = λ e. absurd cc; copies = λ e. absurd cc; prefer_new = λ e f. cc; no_old = λ e. inl refl; no_tombs = λ e. none_tomb entry h.1 }
by_rules NoOld AtFilling false row entry h = absurd h
by_rules NoOld AtFilling true row entry h = absurd h
by_rules NoOld AtUseNew false row entry h = absurd h
by_rules NoOld AtUseNew true row entry h = record { old_mark = λ e. cc; new_mark = λ e. cc; marked = (λ e. h.0, λ e. absurd cc); use_old = λ e. absurd cc; prefer_old = λ e. absurd cc; copies = λ e. absurd cc; prefer_new = λ e f. cc; no_old = λ e. inr (refl, refl); no_tombs = λ e. h.1 }
by_rules NoOld BadNew false row entry h = absurd h
by_rules NoOld BadNew true row entry h = absurd h
by_rules AtUseOld NoNew false row entry h = record { old_mark = λ e. cc; new_mark = λ e. cc; marked = (λ e. absurd cc, λ e. h); use_old = λ e. refl; prefer_old = λ e. absurd cc; copies = λ e. absurd cc; prefer_new = λ e f. cc; no_old = λ e. absurd cc; no_tombs = λ e. absurd cc }
by_rules AtUseOld NoNew true row entry h = record { old_mark = λ e. cc; new_mark = λ e. cc; marked = (λ e. absurd cc, λ e. h); use_old = λ e. refl; prefer_old = λ e. absurd cc; copies = λ e. absurd cc; prefer_new = λ e f. cc; no_old = λ e. absurd cc; no_tombs = λ e. absurd cc }
by_rules AtUseOld AtFilling false row entry h = absurd h
by_rules AtUseOld AtFilling true row entry h = absurd h
by_rules AtUseOld AtUseNew false row entry h = absurd h
by_rules AtUseOld AtUseNew true row entry h = absurd h
by_rules AtUseOld BadNew false row entry h = absurd h
by_rules AtUseOld BadNew true row entry h = absurd h
by_rules AtPreferOld NoNew false row entry h = record { old_mark = λ e. cc; new_mark = λ e. cc; marked = (λ e. absurd cc, λ e. h); use_old = λ e. absurd cc; prefer_old = λ e. inl refl; copies = λ e. none_copy entry h; prefer_new = λ e f. cc; no_old = λ e. absurd cc; no_tombs = λ e. absurd cc }
by_rules AtPreferOld NoNew true row entry h = record { old_mark = λ e. cc; new_mark = λ e. cc; marked = (λ e. absurd cc, λ e. h); use_old = λ e. absurd cc; prefer_old = λ e. inl refl; copies = λ e. none_copy entry h; prefer_new = λ e f. cc; no_old = λ e. absurd cc; no_tombs = λ e. absurd cc }
by_rules AtPreferOld AtFilling false row entry h = record { old_mark = λ e. cc; new_mark = λ e. cc; marked = (λ e. absurd cc, λ e. absurd cc); use_old = λ e. absurd cc; prefer_old = λ e. inr refl; copies = λ e. h; prefer_new = λ e f. cc; no_old = λ e. absurd cc; no_tombs = λ e. absurd cc }
by_rules AtPreferOld AtFilling true row entry h = record { old_mark = λ e. cc; new_mark = λ e. cc; marked = (λ e. absurd cc, λ e. absurd cc); use_old = λ e. absurd cc; prefer_old = λ e. inr refl; copies = λ e. h; prefer_new = λ e f. cc; no_old = λ e. absurd cc; no_tombs = λ e. absurd cc }
by_rules AtPreferOld AtUseNew false row entry h = absurd h
by_rules AtPreferOld AtUseNew true row entry h = absurd h
by_rules AtPreferOld BadNew false row entry h = absurd h
by_rules AtPreferOld BadNew true row entry h = absurd h
by_rules AtPreferNew NoNew false row entry h = absurd h
by_rules AtPreferNew NoNew true row entry h = absurd h
by_rules AtPreferNew AtFilling false row entry h = record { old_mark = λ e. cc; new_mark = λ e. cc; marked = (λ e. absurd cc, λ e. absurd cc); use_old = λ e. absurd cc; prefer_old = λ e. absurd cc; copies = λ e. absurd cc; prefer_new = λ e f. cc; no_old = λ e. absurd cc; no_tombs = λ e. absurd cc }
by_rules AtPreferNew AtFilling true row entry h = record { old_mark = λ e. cc; new_mark = λ e. cc; marked = (λ e. absurd cc, λ e. absurd cc); use_old = λ e. absurd cc; prefer_old = λ e. absurd cc; copies = λ e. absurd cc; prefer_new = λ e f. cc; no_old = λ e. absurd cc; no_tombs = λ e. absurd cc }
by_rules AtPreferNew AtUseNew false row entry h = record { old_mark = λ e. cc; new_mark = λ e. cc; marked = (λ e. absurd cc, λ e. absurd cc); use_old = λ e. absurd cc; prefer_old = λ e. absurd cc; copies = λ e. absurd cc; prefer_new = λ e f. cc; no_old = λ e. absurd cc; no_tombs = λ e. absurd cc }
by_rules AtPreferNew AtUseNew true row entry h = record { old_mark = λ e. cc; new_mark = λ e. cc; marked = (λ e. absurd cc, λ e. absurd cc); use_old = λ e. absurd cc; prefer_old = λ e. absurd cc; copies = λ e. absurd cc; prefer_new = λ e f. cc; no_old = λ e. absurd cc; no_tombs = λ e. absurd cc }
by_rules AtPreferNew BadNew false row entry h = absurd h
by_rules AtPreferNew BadNew true row entry h = absurd h
by_rules BadOld NoNew false row entry h = absurd h
by_rules BadOld NoNew true row entry h = absurd h
by_rules BadOld AtFilling false row entry h = absurd h
by_rules BadOld AtFilling true row entry h = absurd h
by_rules BadOld AtUseNew false row entry h = absurd h
by_rules BadOld AtUseNew true row entry h = absurd h
by_rules BadOld BadNew false row entry h = absurd h
by_rules BadOld BadNew true row entry h = absurd h

-- ---- markers that have a form say something

and_false : (b : Bool) → (b && false) ≡ false
and_false true = refl
and_false false = refl

pub old_read : (store : ℕ) (phase : Phase) → old_phase_of store (marker_props (old_kind phase)) ≡ Some phase
old_read store UseOld = rw (and_false (nat_lt 0 store)) refl
old_read store PreferOld = rw (and_false (nat_lt 0 store)) refl
old_read store PreferNew = rw (and_false (nat_lt 0 store)) refl

says_old : (phase : Phase) → old_says (Some phase) ≢ BadOld
says_old UseOld e = cc
says_old PreferOld e = cc
says_old PreferNew e = cc

says_new : (phase : NewPhase) → new_says (Some phase) ≢ BadNew
says_new Filling e = cc
says_new UseNew e = cc

later_read : (store : ℕ) → 0 < store → old_phase_of store (marker_props (new_kind UseNew)) ≡ Some UseOld
later_read store up = rw (lt-ltb 0 store up) refl

pub new_read : (phase : NewPhase) → new_phase_of (marker_props (new_kind phase)) ≡ Some phase
new_read Filling = refl
new_read UseNew = refl

pub old_is : (store : ℕ) (ps : List Prop) → IsOldMarker store ps → (phase : Phase) × (old_phase_of store ps ≡ Some phase)
old_is store ps (inl h) = (h.0, ap (old_phase_of store) h.1 ∙ old_read store h.0)
old_is store ps (inr h) = (UseOld, ap (old_phase_of store) h.1 ∙ later_read store h.0)

old_reads : (p : Pair) (pk : List ℕ) → IsSound p → (x : Option Stored) → old_at p pk marker_key ≡ x → old_state x ≢ BadOld
old_reads p pk h None e = λ b. cc
old_reads p pk h (Some row) e =
    let number : row.tag.store ≡ p.old_number = h.tags.0.number pk marker_key row e in
    let is = old_is p.old_number row.props (h.forms.0.markers pk row e).0 in
    let read : old_phase_of row.tag.store row.props ≡ Some is.0 = ap (λ (n : ℕ). old_phase_of n row.props) number ∙ is.1 in
    λ bad. says_old is.0 (sym (ap old_says read) ∙ bad)

new_reads : (p : Pair) (pk : List ℕ) → IsSound p → (x : Option Stored) → new_at p pk marker_key ≡ x → new_state x ≢ BadNew
new_reads p pk h None e = λ b. cc
new_reads p pk h (Some row) e =
    let is = (h.forms.1.markers pk row e).0 in
    let read : new_phase_of row.props ≡ Some is.0 = ap new_phase_of is.1 ∙ new_read is.0 in
    λ bad. says_new is.0 (sym (ap new_says read) ∙ bad)

-- ---- no marker is no row

pub old_none : (x : Option Stored) → old_state x ≡ NoOld → x ≡ None
old_none None e = refl
old_none (Some row) e = absurd (some_old (old_phase_of row.tag.store row.props) e) where
  some_old : (phase : Option Phase) → old_says phase ≡ NoOld → ⊥
  some_old None e = cc
  some_old (Some UseOld) e = cc
  some_old (Some PreferOld) e = cc
  some_old (Some PreferNew) e = cc

pub new_none : (x : Option Stored) → new_state x ≡ NoNew → x ≡ None
new_none None e = refl
new_none (Some row) e = absurd (some_new (new_phase_of row.props) e) where
  some_new : (phase : Option NewPhase) → new_says phase ≡ NoNew → ⊥
  some_new None e = cc
  some_new (Some Filling) e = cc
  some_new (Some UseNew) e = cc

-- what is not there, as a negation and as an equation
is_none_by : (x mark : Option Stored) → (x ≢ None → mark ≢ None) → mark ≡ None → x ≡ None
is_none_by None mark f e = refl
is_none_by (Some row) mark f e = absurd (f (λ s. cc) e)

key_rules : (p : Pair) (pk rk : List ℕ) → rk ≢ marker_key → IsSound p
    → KeyRules (old_state_at p pk) (new_state_at p pk) p.old.sealed (old_at p pk rk) (new_at p pk rk)
key_rules p pk rk other h = record {
  old_mark = old_reads p pk h (old_at p pk marker_key) refl;
  new_mark = new_reads p pk h (new_at p pk marker_key) refl;
  marked = (
    λ e. is_none_by (old_at p pk rk) (old_at p pk marker_key) (h.markers.0 pk rk) (old_none (old_at p pk marker_key) e),
    λ e. is_none_by (new_at p pk rk) (new_at p pk marker_key) (h.markers.1 pk rk) (new_none (new_at p pk marker_key) e),
  );
  use_old = h.use_old pk;
  prefer_old = λ e. (h.prefer_old pk e).0;
  copies = λ e. (h.prefer_old pk e).1 rk other;
  prefer_new = h.prefer_new pk;
  no_old = λ e. (h.no_old pk e).0;
  no_tombs = λ e. (h.no_old pk e).1 rk other;
}

pub to_modes : (p : Pair) → IsSound p → IsSoundByModes p
to_modes p h = record {
  forms = h.forms;
  keys = λ pk rk other. by_mode (old_state_at p pk) (new_state_at p pk) p.old.sealed (old_at p pk rk) (new_at p pk rk) (key_rules p pk rk other h);
  tags = h.tags;
  unsealed = h.unsealed;
}

-- ---- and back

rules_at : (p : Pair) (pk rk : List ℕ) → rk ≢ marker_key → IsSoundByModes p
    → KeyRules (old_state_at p pk) (new_state_at p pk) p.old.sealed (old_at p pk rk) (new_at p pk rk)
rules_at p pk rk other h = by_rules (old_state_at p pk) (new_state_at p pk) p.old.sealed (old_at p pk rk) (new_at p pk rk) (h.keys pk rk other)

pub empty_key : [] ≢ marker_key
empty_key e = cc

rules_of : (p : Pair) (pk : List ℕ) → IsSoundByModes p
    → KeyRules (old_state_at p pk) (new_state_at p pk) p.old.sealed (old_at p pk []) (new_at p pk [])
rules_of p pk h = rules_at p pk [] empty_key h

-- the marker's key, or another
pub key_cases : (rk : List ℕ) → (rk ≡ marker_key) ⊎ (rk ≢ marker_key)
key_cases rk = go (bytes_eq rk marker_key) refl where
  go : (b : Bool) → bytes_eq rk marker_key ≡ b → (rk ≡ marker_key) ⊎ (rk ≢ marker_key)
  go true e = inl (text_true rk marker_key e)
  go false e = inr (text_differs rk marker_key e)

old_state_none : (x : Option Stored) → x ≡ None → old_state x ≡ NoOld
old_state_none x e = ap old_state e

new_state_none : (x : Option Stored) → x ≡ None → new_state x ≡ NoNew
new_state_none x e = ap new_state e

old_marked : (p : Pair) (pk rk : List ℕ) → IsSoundByModes p → (rk ≡ marker_key) ⊎ (rk ≢ marker_key) → old_at p pk rk ≢ None → old_at p pk marker_key ≢ None
old_marked p pk rk h (inl e) some = subst (λ (k : List ℕ). old_at p pk k ≢ None) e some
old_marked p pk rk h (inr other) some = λ none. some ((rules_at p pk rk other h).marked.0 (old_state_none (old_at p pk marker_key) none))

new_marked : (p : Pair) (pk rk : List ℕ) → IsSoundByModes p → (rk ≡ marker_key) ⊎ (rk ≢ marker_key) → new_at p pk rk ≢ None → new_at p pk marker_key ≢ None
new_marked p pk rk h (inl e) some = subst (λ (k : List ℕ). new_at p pk k ≢ None) e some
new_marked p pk rk h (inr other) some = λ none. some ((rules_at p pk rk other h).marked.1 (new_state_none (new_at p pk marker_key) none))

pub from_modes : (p : Pair) → IsSoundByModes p → IsSound p
from_modes p h = record {
  forms = h.forms;
  markers = (λ pk rk. old_marked p pk rk h (key_cases rk), λ pk rk. new_marked p pk rk h (key_cases rk));
  use_old = λ pk. (rules_of p pk h).use_old;
  prefer_old = λ pk e. ((rules_of p pk h).prefer_old e, λ rk other. (rules_at p pk rk other h).copies e);
  prefer_new = λ pk. (rules_of p pk h).prefer_new;
  no_old = λ pk e. ((rules_of p pk h).no_old e, λ rk other. (rules_at p pk rk other h).no_tombs e);
  tags = h.tags;
  unsealed = h.unsealed;
}
