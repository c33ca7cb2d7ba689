-- What a pass finds of the value, and what it may give.
use Rattle.std.specs.Prelude.{◌≡◌, ◌≢◌, ◌⊎◌, ℕ, ◌+◌, ◌^◌, ◌<◌, ◌≤◌, List, [], length, Option, Some, IfSome, All}
use Rattle.mt_turn.specs.declared.view.Window.{Window}
use Rattle.mt_turn.specs.declared.view.View.{View}
use Rattle.mt_turn.specs.Windows.{last_of, end_of, FollowsBy, Follows}

-- so it is of the value that the pass took last
abbrev pub OfTaken : {W E B X F : Type 0} → View W E B X F → (W → Type 0) → Type 0
OfTaken {W} v P = (taken : W) → v.last ≡ Some taken → P taken

module _ {W E B X F : Type 0} (base_after : B → E → B) (caller_of : E → ℕ) where
  -- the window follows the last one that the pass has seen, and of the entries that came in between none is the pass's own
  pub record FindsWindow (v : View W E B X F) (found : Window E B) : Type 0 where
    pub before : Window E B
    pub is_last : last_of v.seen ≡ Some before
    pub cut : List E
    pub more : List E
    pub follows : FollowsBy base_after found before cut more
    pub others : All (λ e. caller_of e ≢ v.caller) more

module _ {E B : Type 0} (base_after : B → E → B) (caller_of : E → ℕ) where
  -- either at most one entry of the caller's came at the end, or entries were cut from the front
  pub record MayGive (caller : ℕ) (taken given : Window E B) : Type 0 where
    pub cut : List E
    pub more : List E
    pub follows : FollowsBy base_after given taken cut more
    pub few : length more ≤ 1
    pub own : All (λ e. caller_of e ≡ caller) more
    pub one_kind : (cut ≡ []) ⊎ (more ≡ [])

-- the number of calls rose by at most one
pub record RisesByOne (before after : ℕ) : Type 0 where
  pub grew : before ≤ after
  pub few : after ≤ before + 1

module _ {E B : Type 0} (base_after : B → E → B) where
  -- of two windows the one that follows the other
  pub record IsLater (mine theirs : Option (Window E B)) (x : Window E B) : Type 0 where
    pub one : (mine ≡ Some x) ⊎ (theirs ≡ Some x)
    pub follows_mine : (w : Window E B) × (mine ≡ Some w) × Follows base_after x w
    pub follows_theirs : (w : Window E B) × (theirs ≡ Some w) × Follows base_after x w

module _ {W E B X F : Type 0} (window : W → Window E B) (base_after : B → E → B) (fixed : W → X) (caller_of : E → ℕ) (holds : W → F → Type 0) (tells : W → Type 0) where
  -- what the value is to a pass that finds it
  pub record Finds (v : View W E B X F) (w : W) : Type 0 where
    pub seen : FindsWindow base_after caller_of v (window w)
    pub few : end_of (window w) < 2 ^ 63
    pub fixed_is : v.fixed ≡ Some (fixed w)
    pub facts : All (holds w) v.facts
    pub told : tells w → IfSome v.last tells
