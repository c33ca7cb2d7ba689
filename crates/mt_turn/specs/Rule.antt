-- The rule of a turnstile, which each step of each pass keeps.
-- Its word is twice the number of entries ever made, and 1 more while a seat holds the turn. Its one slot has the value while none does.
use Rattle.std.specs.Prelude.{◌≡◌, ◌≢◌, ℕ, ◌+◌, ◌*◌, ◌^◌, ◌<◌, ◌≤◌, true, List, [], ◌∷◌, ◌++◌, length, Option, Some, IfSome, All}
use Rattle.std.specs.List.{Contains}
use mathlib.Core.Option.{some}
use lib.ListN.{get_elem?}
use Rattle.atomic_table.specs.Table.{State}
use Rattle.mt_turn.specs.declared.view.Window.{Window}
use Rattle.mt_turn.specs.declared.view.View.{View}
use Rattle.mt_turn.specs.Windows.{last_of, end_of, replay, InOrder}

module _ {E B : Type 0} (base_after : B → E → B) where
  -- the window is a part of the whole history, and these entries came after its end
  pub record IsPart (whole x : Window E B) (rest : List E) : Type 0 where
    pub before : List E
    pub entries : whole.entries ≡ before ++ (x.entries ++ rest)
    pub first : x.first ≡ whole.first + length before
    pub base : x.base ≡ replay base_after whole.base before

  -- the value had this window once
  pub record WasHad (whole : Window E B) (log : List (Window E B)) (x : Window E B) : Type 0 where
    pub had : Contains log x
    pub rest : List E
    pub part : IsPart whole x rest

-- two lists of facts that two passes may have at one time
abbrev pub AreApart : {F : Type 0} → (F → F → Type 0) → List F → List F → Type 0
AreApart apart fs gs = All (λ f. All (apart f) gs) fs

module _ {W E B X F : Type 0} (base_after : B → E → B) (caller_of : E → ℕ) (whole : Window E B) (log : List (Window E B)) (top : ℕ) where
  -- the last window of a pass: of the entries that came since none is its own, and caller 0 knows a number that no caller's exceeds
  pub record IsLast (v : View W E B X F) (x : Window E B) : Type 0 where
    pub was : WasHad base_after whole log x
    pub others : v.numbered ≡ true → All (λ e. caller_of e ≢ v.caller) was.rest
    pub low : v.numbered ≡ true → v.caller ≡ 0 → All (λ e. caller_of e ≤ top) was.rest

module _ {W E B X F : Type 0} (base_after : B → E → B) (fixed : W → X) (caller_of : E → ℕ) (holds : W → F → Type 0) (tells : W → Type 0) where
  -- what is true of the seat j, where `value` is in the slot, or where `held` is 1 with the seat `holder`
  pub record Knows (about : W) (whole : Window E B) (log : List (Window E B)) (value : W) (held holder top j : ℕ) (v : View W E B X F) : Type 0 where
    pub order : InOrder base_after v.seen
    pub seen : IfSome (last_of v.seen) (IsLast base_after caller_of whole log top v)
    pub heard : IfSome v.heard (WasHad base_after whole log)
    pub fixed_is : v.numbered ≡ true → v.fixed ≡ Some (fixed about)
    pub turn : v.turn ≡ true → (j ≡ holder) × (held ≡ 1) × (v.numbered ≡ true) × (v.last ≡ Some value)
    pub low : v.numbered ≡ true → v.caller ≤ top
    pub count : v.numbered ≡ true → v.caller ≡ 0 → v.count ≡ top
    pub told : tells value → IfSome v.last tells
    pub facts : All (holds value) v.facts

module _ {W E B X F : Type 0} (window : W → Window E B) (base_after : B → E → B) (fixed : W → X) (caller_of : E → ℕ) (holds : W → F → Type 0) (tells : W → Type 0) (apart : F → F → Type 0) where
  -- the rule, where `about` is the value at `new`
  pub record Kept (about : W) (s : State (Option W) (View W E B X F)) : Type 0 where
    pub value : W
    pub held : ℕ
    pub holder : ℕ
    pub top : ℕ
    -- the whole history since `new`, and the windows that the value had
    pub whole : Window E B
    pub log : List (Window E B)
    pub order : InOrder base_after log
    pub now : last_of log ≡ Some (window value)
    pub part : IsPart base_after whole (window value) []
    pub few : end_of (window value) < 2 ^ 63
    pub fixed_is : fixed value ≡ fixed about
    pub words : s.words ≡ (2 * end_of (window value) + held) ∷ []
    pub bit : held < 2
    pub home : held ≡ 0 → s.homes ≡ some (Some value) ∷ []
    pub deep : length s.homes ≡ 1
    pub seats : (j : ℕ) (v : View W E B X F) → get_elem? s.views j ≡ some v → Knows base_after fixed caller_of holds tells about whole log value held holder top j v
    -- no two passes have one caller number
    pub callers : (i j : ℕ) (v w : View W E B X F) → get_elem? s.views i ≡ some v → get_elem? s.views j ≡ some w → v.numbered ≡ true → w.numbered ≡ true → v.caller ≡ w.caller → i ≡ j
    -- the facts of each two passes are apart
    pub apart_are : (i j : ℕ) (v w : View W E B X F) → get_elem? s.views i ≡ some v → get_elem? s.views j ≡ some w → i ≢ j → AreApart apart v.facts w.facts
