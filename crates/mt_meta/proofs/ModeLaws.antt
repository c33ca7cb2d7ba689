-- A mode that is whole says both markers, and tests of the markers are tests of its rank.
use Rattle.std.proofs.Common.{◌≡◌, ℕ, ◌≤◌, Bool, true, false, refl, sym, ap, ◌∙◌, subst, arith, List, [], Option}
use Rattle.std.specs.Prelude.{nat_le}
use Rattle.std.proofs.lemmas.Bool.Decides.{nat_tests}
use Rattle.mt_chain.specs.declared.row.Stored.{Stored}
use Rattle.mt_meta.specs.Logical.{Pair, OldState, NoOld, AtUseOld, AtPreferOld, AtPreferNew, BadOld, NewState, NoNew, AtFilling, AtUseNew, BadNew, old_at, new_at, old_state_at, new_state_at, from_old}
use Rattle.mt_meta.specs.Sound.{IsSound}
use Rattle.mt_meta.specs.Modes.{Mode, Empty, AtOld, Prepared, Copying, Overlaid, Settled, NewOnly, Broken, mode_of, mode, rank, FitsMode, shown_in}
use Rattle.mt_meta.specs.Facts.{is_begun, is_there, is_prefer_new, is_marked, is_filling, is_use_new}
use Rattle.mt_meta.proofs.Rules.{to_modes, empty_key}

abbrev pub IsWhole : Mode → Type 0
IsWhole Broken = ⊥
IsWhole m = Unit {0}

abbrev pub old_in : Mode → OldState
old_in Empty = NoOld
old_in AtOld = AtUseOld
old_in Prepared = AtPreferOld
old_in Copying = AtPreferOld
old_in Overlaid = AtPreferNew
old_in Settled = AtPreferNew
old_in NewOnly = NoOld
old_in Broken = BadOld

abbrev pub new_in : Mode → NewState
new_in Empty = NoNew
new_in AtOld = NoNew
new_in Prepared = NoNew
new_in Copying = AtFilling
new_in Overlaid = AtFilling
new_in Settled = AtUseNew
new_in NewOnly = AtUseNew
new_in Broken = BadNew

pub record Says (o : OldState) (n : NewState) (m : Mode) : Type 0 where
  pub old : o ≡ old_in m
  pub new : n ≡ new_in m

pub phases_of : (o : OldState) (n : NewState) (s : Bool) → IsWhole (mode_of o n s) → Says o n (mode_of o n s)
phases_of NoOld NoNew false h = record { old = refl; new = refl }
phases_of NoOld NoNew true h = record { old = refl; new = refl }
phases_of NoOld AtFilling false h = absurd h
phases_of NoOld AtFilling true h = absurd h
phases_of NoOld AtUseNew false h = absurd h
phases_of NoOld AtUseNew true h = record { old = refl; new = refl }
phases_of NoOld BadNew false h = absurd h
phases_of NoOld BadNew true h = absurd h
phases_of AtUseOld NoNew false h = record { old = refl; new = refl }
phases_of AtUseOld NoNew true h = record { old = refl; new = refl }
phases_of AtUseOld AtFilling false h = absurd h
phases_of AtUseOld AtFilling true h = absurd h
phases_of AtUseOld AtUseNew false h = absurd h
phases_of AtUseOld AtUseNew true h = absurd h
phases_of AtUseOld BadNew false h = absurd h
phases_of AtUseOld BadNew true h = absurd h
phases_of AtPreferOld NoNew false h = record { old = refl; new = refl }
phases_of AtPreferOld NoNew true h = record { old = refl; new = refl }
phases_of AtPreferOld AtFilling false h = record { old = refl; new = refl }
phases_of AtPreferOld AtFilling true h = record { old = refl; new = refl }
phases_of AtPreferOld AtUseNew false h = absurd h
phases_of AtPreferOld AtUseNew true h = absurd h
phases_of AtPreferOld BadNew false h = absurd h
phases_of AtPreferOld BadNew true h = absurd h
phases_of AtPreferNew NoNew false h = absurd h
phases_of AtPreferNew NoNew true h = absurd h
phases_of AtPreferNew AtFilling false h = record { old = refl; new = refl }
phases_of AtPreferNew AtFilling true h = record { old = refl; new = refl }
phases_of AtPreferNew AtUseNew false h = record { old = refl; new = refl }
phases_of AtPreferNew AtUseNew true h = record { old = refl; new = refl }
phases_of AtPreferNew BadNew false h = absurd h
phases_of AtPreferNew BadNew true h = absurd h
phases_of BadOld NoNew false h = absurd h
phases_of BadOld NoNew true h = absurd h
phases_of BadOld AtFilling false h = absurd h
phases_of BadOld AtFilling true h = absurd h
phases_of BadOld AtUseNew false h = absurd h
phases_of BadOld AtUseNew true h = absurd h
phases_of BadOld BadNew false h = absurd h
phases_of BadOld BadNew true h = absurd h

pub whole_in : (m : Mode) (row entry : Option Stored) → FitsMode m row entry → IsWhole m
whole_in Empty row entry h = tt
whole_in AtOld row entry h = tt
whole_in Prepared row entry h = tt
whole_in Copying row entry h = tt
whole_in Overlaid row entry h = tt
whole_in Settled row entry h = tt
whole_in NewOnly row entry h = tt
whole_in Broken row entry h = absurd h

pub whole : (p : Pair) → IsSound p → (pk : List ℕ) → IsWhole (mode p pk)
whole p s pk = whole_in (mode p pk) (old_at p pk []) (new_at p pk []) ((to_modes p s).keys pk [] empty_key)

pub says : (p : Pair) → IsSound p → (pk : List ℕ) → Says (old_state_at p pk) (new_state_at p pk) (mode p pk)
says p s pk = phases_of (old_state_at p pk) (new_state_at p pk) p.old.sealed (whole p s pk)

pub begun_rank : (m : Mode) → IsWhole m → is_begun (old_in m) (new_in m) ≡ nat_le 2 (rank m)
begun_rank Empty w = refl
begun_rank AtOld w = refl
begun_rank Prepared w = refl
begun_rank Copying w = refl
begun_rank Overlaid w = refl
begun_rank Settled w = refl
begun_rank NewOnly w = refl
begun_rank Broken w = absurd w

pub there_rank : (m : Mode) → IsWhole m → is_there (old_in m) (new_in m) ≡ nat_le 1 (rank m)
there_rank Empty w = refl
there_rank AtOld w = refl
there_rank Prepared w = refl
there_rank Copying w = refl
there_rank Overlaid w = refl
there_rank Settled w = refl
there_rank NewOnly w = refl
there_rank Broken w = absurd w

pub marked_rank : (m : Mode) → IsWhole m → is_marked (new_in m) ≡ nat_le 3 (rank m)
marked_rank Empty w = refl
marked_rank AtOld w = refl
marked_rank Prepared w = refl
marked_rank Copying w = refl
marked_rank Overlaid w = refl
marked_rank Settled w = refl
marked_rank NewOnly w = refl
marked_rank Broken w = absurd w

pub use_new_rank : (m : Mode) → IsWhole m → is_use_new (new_in m) ≡ nat_le 5 (rank m)
use_new_rank Empty w = refl
use_new_rank AtOld w = refl
use_new_rank Prepared w = refl
use_new_rank Copying w = refl
use_new_rank Overlaid w = refl
use_new_rank Settled w = refl
use_new_rank NewOnly w = refl
use_new_rank Broken w = absurd w

pub filling_rank : (m : Mode) → IsWhole m → is_filling (new_in m) ≡ true → (3 ≤ rank m) × (rank m ≤ 4)
filling_rank Empty w h = absurd cc
filling_rank AtOld w h = absurd cc
filling_rank Prepared w h = absurd cc
filling_rank Copying w h = (omega arith, omega arith)
filling_rank Overlaid w h = (omega arith, omega arith)
filling_rank Settled w h = absurd cc
filling_rank NewOnly w h = absurd cc
filling_rank Broken w h = absurd w

pub prefer_new_rank : (m : Mode) → IsWhole m → is_prefer_new (old_in m) ≡ true → (4 ≤ rank m) × (rank m ≤ 5)
prefer_new_rank Empty w h = absurd cc
prefer_new_rank AtOld w h = absurd cc
prefer_new_rank Prepared w h = absurd cc
prefer_new_rank Copying w h = absurd cc
prefer_new_rank Overlaid w h = (omega arith, omega arith)
prefer_new_rank Settled w h = (omega arith, omega arith)
prefer_new_rank NewOnly w h = absurd cc
prefer_new_rank Broken w h = absurd w

pub is_overlaid : (m : Mode) → 4 ≤ rank m → rank m ≤ 4 → m ≡ Overlaid
is_overlaid Empty low high = absurd (omega arith)
is_overlaid AtOld low high = absurd (omega arith)
is_overlaid Prepared low high = absurd (omega arith)
is_overlaid Copying low high = absurd (omega arith)
is_overlaid Overlaid low high = refl
is_overlaid Settled low high = absurd (omega arith)
is_overlaid NewOnly low high = absurd (omega arith)
is_overlaid Broken low high = absurd (omega arith)

pub is_between : (m : Mode) → 3 ≤ rank m → rank m ≤ 4 → is_filling (new_in m) ≡ true
is_between Empty low high = absurd (omega arith)
is_between AtOld low high = absurd (omega arith)
is_between Prepared low high = absurd (omega arith)
is_between Copying low high = refl
is_between Overlaid low high = refl
is_between Settled low high = absurd (omega arith)
is_between NewOnly low high = absurd (omega arith)
is_between Broken low high = absurd (omega arith)

-- what holds from a rank on goes on
pub up : (P : OldState → NewState → Bool) (k : ℕ) → ((m : Mode) → IsWhole m → P (old_in m) (new_in m) ≡ nat_le k (rank m))
    → (p q : Pair) (pk : List ℕ) → IsSound p → IsSound q → rank (mode p pk) ≤ rank (mode q pk) → P (old_state_at p pk) (new_state_at p pk) ≡ true → P (old_state_at q pk) (new_state_at q pk) ≡ true
up P k by p q pk s t le h =
    let a = says p s pk in
    let b = says q t pk in
    let before : nat_le k (rank (mode p pk)) ≡ true = sym (by (mode p pk) (whole p s pk)) ∙ ap (λ x. P x (new_in (mode p pk))) (sym a.old) ∙ ap (P (old_state_at p pk)) (sym a.new) ∙ h in
    let low : k ≤ rank (mode p pk) = grind (arith, nat_tests) in
    let after : nat_le k (rank (mode q pk)) ≡ true = grind (arith, nat_tests) in
    ap (λ x. P x (new_state_at q pk)) b.old ∙ ap (P (old_in (mode q pk))) b.new ∙ by (mode q pk) (whole q t pk) ∙ after

-- the rank that a test says
pub rank_from : (P : OldState → NewState → Bool) (k : ℕ) → ((m : Mode) → IsWhole m → P (old_in m) (new_in m) ≡ nat_le k (rank m))
    → (p : Pair) (pk : List ℕ) → IsSound p → P (old_state_at p pk) (new_state_at p pk) ≡ true → k ≤ rank (mode p pk)
rank_from P k by p pk s h =
    let a = says p s pk in
    let before : nat_le k (rank (mode p pk)) ≡ true = sym (by (mode p pk) (whole p s pk)) ∙ ap (λ x. P x (new_in (mode p pk))) (sym a.old) ∙ ap (P (old_state_at p pk)) (sym a.new) ∙ h in
    grind (arith, nat_tests)

pub filling_ranks : (p : Pair) (pk : List ℕ) → IsSound p → is_filling (new_state_at p pk) ≡ true → (3 ≤ rank (mode p pk)) × (rank (mode p pk) ≤ 4)
filling_ranks p pk s h = filling_rank (mode p pk) (whole p s pk) (subst (λ x. is_filling x ≡ true) (says p s pk).new h)

pub prefer_new_ranks : (p : Pair) (pk : List ℕ) → IsSound p → is_prefer_new (old_state_at p pk) ≡ true → (4 ≤ rank (mode p pk)) × (rank (mode p pk) ≤ 5)
prefer_new_ranks p pk s h = prefer_new_rank (mode p pk) (whole p s pk) (subst (λ x. is_prefer_new x ≡ true) (says p s pk).old h)

pub ranks_filling : (p : Pair) (pk : List ℕ) → IsSound p → 3 ≤ rank (mode p pk) → rank (mode p pk) ≤ 4 → is_filling (new_state_at p pk) ≡ true
ranks_filling p pk s low high = subst (λ x. is_filling x ≡ true) (sym (says p s pk).new) (is_between (mode p pk) low high)

pub overlaid_turned : (p : Pair) (pk : List ℕ) → IsSound p → mode p pk ≡ Overlaid → is_prefer_new (old_state_at p pk) ≡ true
overlaid_turned p pk s e = ap is_prefer_new (says p s pk).old ∙ ap (λ m. is_prefer_new (old_in m)) e

-- ---- where clients write old

-- where old has a marker and is not turned, clients see its rows
pub early_shows : (m : Mode) → 1 ≤ rank m → rank m ≤ 3 → (row entry : Option Stored) → shown_in m row entry ≡ from_old row
early_shows Empty low high row entry = absurd (omega arith)
early_shows AtOld low high row entry = refl
early_shows Prepared low high row entry = refl
early_shows Copying low high row entry = refl
early_shows Overlaid low high row entry = absurd (omega arith)
early_shows Settled low high row entry = absurd (omega arith)
early_shows NewOnly low high row entry = absurd (omega arith)
early_shows Broken low high row entry = absurd (omega arith)

-- and new's entries fit whatever they are
pub early_fits : (m : Mode) → 1 ≤ rank m → rank m ≤ 3 → (row row' entry : Option Stored) → FitsMode m row entry → FitsMode m row' entry
early_fits Empty low high row row' entry h = absurd (omega arith)
early_fits AtOld low high row row' entry h = h
early_fits Prepared low high row row' entry h = h
early_fits Copying low high row row' entry h = h
early_fits Overlaid low high row row' entry h = absurd (omega arith)
early_fits Settled low high row row' entry h = absurd (omega arith)
early_fits NewOnly low high row row' entry h = absurd (omega arith)
early_fits Broken low high row row' entry h = absurd (omega arith)

unsealed_mode : (n : NewState) → IsWhole (mode_of NoOld n false) → mode_of NoOld n false ≡ Empty
unsealed_mode NoNew w = refl
unsealed_mode AtFilling w = absurd w
unsealed_mode AtUseNew w = absurd w
unsealed_mode BadNew w = absurd w

-- a partition without a marker in old, which is not sealed, is not there
pub unsealed_empty : (p : Pair) (pk : List ℕ) → IsSound p → old_state_at p pk ≡ NoOld → p.old.sealed ≡ false → mode p pk ≡ Empty
unsealed_empty p pk s none open_old =
    let is : mode p pk ≡ mode_of NoOld (new_state_at p pk) false =
    ap (λ o. mode_of o (new_state_at p pk) p.old.sealed) none ∙ ap (mode_of NoOld (new_state_at p pk)) open_old in
    is ∙ unsealed_mode (new_state_at p pk) (subst IsWhole is (whole p s pk))
