-- What each step on the word tells the pass that makes it.
use Rattle.std.specs.Prelude.{◌≡◌, ◌≢◌, ℕ, List, [], ◌∷◌, Option, Some}
use Rattle.atomic_table.specs.Table.{Me, Step}
use Rattle.mt_turn.specs.declared.view.Window.{Window}
use Rattle.mt_turn.specs.declared.view.View.{View}
use Rattle.mt_turn.specs.Windows.{last_of, InOrder}
use Rattle.mt_turn.specs.Views.{after_take, after_give, sees}
use Rattle.mt_turn.specs.Turns.{Finds, IsLater}

-- a view with the slots in hand
abbrev pub Seated : (W E B X F : Type 0) → Type 0
Seated W E B X F = Me (Option W) (View W E B X F)

module _ {W E B X F : Type 0} (window : W → Window E B) (base_after : B → E → B) (fixed : W → X) (caller_of : E → ℕ) (holds : W → F → Type 0) (tells : W → Type 0) where
  -- the seat has the turn, and the value
  abbrev pub Claimed : Seated W E B X F → Seated W E B X F → Type 0
  Claimed m n = (w : W) × (n ≡ (after_take window m.0 w, (0, Some w) ∷ m.1)) × Finds window base_after fixed caller_of holds tells m.0 w × InOrder base_after (after_take window m.0 w).seen

  -- a claim comes through where the word is the one expected, and else changes nothing
  abbrev pub claimed : Step (Option W) → Seated W E B X F → ℕ → Seated W E B X F → Type 0
  claimed st m r n = (r ≡ st.first → Claimed m n) × (r ≢ st.first → n ≡ m)

module _ {W E B X F : Type 0} (window : W → Window E B) (base_after : B → E → B) (calls : W → ℕ) where
  -- the turn is given back with the value in the slot
  abbrev pub left : List F → Step (Option W) → Seated W E B X F → ℕ → Seated W E B X F → Type 0
  left facts st m r n = (w : W) → m.1 ≡ (0, Some w) ∷ [] → (n ≡ (after_give window calls facts m.0 w, [])) × InOrder base_after (after_give window calls facts m.0 w).seen

module _ {W E B X F : Type 0} (base_after : B → E → B) where
  -- the window that was heard of is compared with the last one seen, and the later of the two is seen
  abbrev pub looked : Step (Option W) → Seated W E B X F → ℕ → Seated W E B X F → Type 0
  looked st m r n = (x : Window E B) × (n ≡ (sees m.0 x, m.1)) × IsLater base_after (last_of m.0.seen) m.0.heard x × InOrder base_after (sees m.0 x).seen
