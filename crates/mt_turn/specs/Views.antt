-- What a pass knows at first, and after each call.
use Rattle.std.specs.Prelude.{ℕ, ◌+◌, ◌-◌, Bool, true, false, List, [], ◌∷◌, ◌++◌, Option, Some, None}
use Rattle.mt_turn.specs.declared.view.Window.{Window}
use Rattle.mt_turn.specs.declared.view.View.{View}
use Rattle.mt_turn.specs.Windows.{last_of}

-- the slots in the hand of a seat, which has the only one while it holds the turn
abbrev pub hand : {W : Type 0} → Bool → List (ℕ × Option W)
hand true = (0, None) ∷ []
hand false = []

module _ {W E B X F : Type 0} where
  -- what a pass tells another: the windows that it has seen, and nothing else
  abbrev pub note : List (Window E B) → View W E B X F
  note seen = record { numbered = false; caller = 0; count = 0; fixed = None; seen = seen; start = []; heard = None; turn = false; last = None; facts = []; made = 0 }

  -- a pass after one was split off from it
  abbrev pub after_split : View W E B X F → View W E B X F
  after_split v = record v { count = v.count + 1 }

  -- the pass that was split off: it has the next number, has seen as much, and has no facts
  abbrev pub split_off : View W E B X F → View W E B X F
  split_off v = record { numbered = true; caller = v.count + 1; count = 0; fixed = v.fixed; seen = v.seen; start = v.seen; heard = None; turn = false; last = v.last; facts = []; made = 0 }

  -- one more window is seen
  abbrev pub sees : View W E B X F → Window E B → View W E B X F
  sees v x = record v { seen = v.seen ++ x ∷ []; heard = None }

  -- another's last window is heard of, and not yet compared
  abbrev pub hears : View W E B X F → View W E B X F → View W E B X F
  hears v other = record v { heard = last_of other.seen }

module _ {W E B X F : Type 0} (window : W → Window E B) (fixed : W → X) where
  -- the first pass of a turnstile: caller 0, which has seen the value's window
  abbrev pub first_pass : W → View W E B X F
  first_pass w = record { numbered = true; caller = 0; count = 0; fixed = Some (fixed w); seen = window w ∷ []; start = window w ∷ []; heard = None; turn = false; last = Some w; facts = []; made = 0 }

module _ {W E B X F : Type 0} (window : W → Window E B) where
  -- a pass that took this value
  abbrev pub after_take : View W E B X F → W → View W E B X F
  after_take v w = record v { seen = v.seen ++ window w ∷ []; turn = true; last = Some w }

-- by how much the number of calls rose since the value was taken
abbrev pub rise : {W : Type 0} → (W → ℕ) → Option W → W → ℕ
rise calls None given = 0
rise calls (Some taken) given = calls given - calls taken

module _ {W E B X F : Type 0} (window : W → Window E B) (calls : W → ℕ) where
  -- a pass that gave this value, with these facts from then on
  abbrev pub after_give : List F → View W E B X F → W → View W E B X F
  after_give facts v w = record v { seen = v.seen ++ window w ∷ []; turn = false; facts = facts; made = v.made + rise calls v.last w }
