-- Windows of one history, and which of them follow one another.
use Rattle.std.specs.Prelude.{◌≡◌, ℕ, ◌+◌, ◌≤◌, List, [], ◌∷◌, ◌++◌, length, Option, Some, None, IfSome}
use Rattle.std.specs.List.{fold, last_or}
use Rattle.mt_turn.specs.declared.view.Window.{Window}

-- the last item of a list
abbrev pub last_of : {A : Type 0} → List A → Option A
last_of xs = last_or None xs

-- the first item of a list
abbrev pub first_of : {A : Type 0} → List A → Option A
first_of [] = None
first_of (x ∷ xs) = Some x

-- the place after the last entry, which is how many entries were ever made
abbrev pub end_of : {E B : Type 0} → Window E B → ℕ
end_of w = w.first + length w.entries

module _ {E B : Type 0} (base_after : B → E → B) where
  -- the base after these entries, one after the other
  abbrev pub replay : B → List E → B
  replay base entries = fold base_after base entries

  -- these entries were cut from the front of the earlier window into its base, and these more came at its end
  pub record FollowsBy (later earlier : Window E B) (cut more : List E) : Type 0 where
    pub entries : earlier.entries ++ more ≡ cut ++ later.entries
    pub first : later.first ≡ earlier.first + length cut
    pub base : later.base ≡ replay earlier.base cut

  -- the later window is the earlier one, some time after
  pub record Follows (later earlier : Window E B) : Type 0 where
    pub cut : List E
    pub more : List E
    pub by : FollowsBy later earlier cut more

  -- each window follows the one before it
  abbrev pub InOrder : List (Window E B) → Type 0
  InOrder [] = Unit {0}
  InOrder (w ∷ ws) = IfSome (first_of ws) (λ next. Follows next w) × InOrder ws

-- the last of these windows ends at that place or later
pub record HasSeen {E B : Type 0} (seen : List (Window E B)) (place : ℕ) : Type 0 where
  pub now : Window E B
  pub is_last : last_of seen ≡ Some now
  pub reaches : place ≤ end_of now
