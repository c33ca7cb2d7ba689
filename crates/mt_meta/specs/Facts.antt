-- What an actor knows of two stores between its steps, and what every step of every actor keeps.
use Rattle.std.specs.Prelude.{◌≡◌, ◌≢◌, ◌⊎◌, ℕ, ◌≤◌, Bool, true, false, bytes_eq, List, [], ◌∷◌, Option, Some, None, option_map, is_some, IfSome}
use Rattle.std.specs.List.{list_any}
use Rattle.std.specs.Ordering.{nat_cmp, is_lt}
use Rattle.std.specs.Cmp.Lexicographic.{slice_cmp}
use Rattle.mt_model.specs.declared.tag.Tag.{Tag}
use Rattle.mt_model.specs.declared.value.Prop.{Prop}
use Rattle.mt_model.specs.Key.{key_fault}
use Rattle.mt_chain.specs.declared.ask.Side.TheVariants.{Old, New}
use Rattle.mt_chain.specs.declared.row.Stored.{Stored}
use Rattle.mt_chain.specs.declared.row.StoredRow.{StoredRow}
use Rattle.mt_chain.specs.declared.query.PkFrom.{PkFrom}
use Rattle.mt_chain.specs.Rows.{row_at, row_in, shown, is_from, is_upto, is_past}
use Rattle.mt_chain.specs.StoreCall.{Contents}
use Rattle.mt_meta.specs.declared.marker.NewPhase.TheVariants.{Filling}
use Rattle.mt_meta.specs.declared.mark.Mark.TheVariants.{Copy}
use Rattle.mt_meta.specs.declared.fact.Keys.{Keys}
use Rattle.mt_meta.specs.declared.fact.Keys.TheVariants as keys
use Rattle.mt_meta.specs.declared.fact.Fact.{Fact}
use Rattle.mt_meta.specs.declared.fact.Fact.TheVariants as fact
use Rattle.mt_meta.specs.Markers.{marker_key, new_phase_of}
use Rattle.mt_meta.specs.Marks.{mark_of}
use Rattle.mt_meta.specs.Logical.{Pair, OldState, NoOld, AtPreferOld, AtPreferNew, NewState, NoNew, AtFilling, AtUseNew, shown_as, from_old, old_at, new_at, old_state_at, new_state_at}
use Rattle.mt_meta.specs.Sound.{NoTomb, IsKept}
use Rattle.mt_meta.specs.Modes.{Overlaid, mode, rank}

-- the row key is one of those listed
abbrev pub is_in : List ℕ → List (List ℕ) → Bool
is_in rk listed = list_any (bytes_eq rk) listed

-- the row key lies in these
abbrev pub InKeys : Keys → List ℕ → Type 0
InKeys keys.None rk = ⊥
InKeys (keys.Named listed) rk = is_in rk listed ≡ true
InKeys (keys.Within from upto waiting) rk = (is_from from rk ≡ true) × (is_upto upto rk ≡ true) × (is_in rk waiting ≡ false)

-- before the end of a range of partition keys, which does not belong to it
abbrev pub IsBelow : List ℕ → Option (List ℕ) → Type 0
IsBelow pk None = Unit {0}
IsBelow pk (Some upto) = is_lt (slice_cmp nat_cmp pk upto) ≡ true

-- before a place among partition keys, of which none is the end of all
abbrev pub IsBehind : List ℕ → Option PkFrom → Type 0
IsBehind pk None = Unit {0}
IsBehind pk (Some place) = is_past place pk ≡ false

abbrev pub is_begun : OldState → NewState → Bool
is_begun AtPreferOld n = true
is_begun AtPreferNew n = true
is_begun NoOld AtUseNew = true
is_begun o n = false

abbrev pub is_there : OldState → NewState → Bool
is_there NoOld AtUseNew = true
is_there NoOld n = false
is_there o n = true

abbrev pub is_prefer_new : OldState → Bool
is_prefer_new AtPreferNew = true
is_prefer_new o = false

abbrev pub is_marked : NewState → Bool
is_marked NoNew = false
is_marked n = true

abbrev pub is_filling : NewState → Bool
is_filling AtFilling = true
is_filling n = false

abbrev pub is_use_new : NewState → Bool
is_use_new AtUseNew = true
is_use_new n = false

-- a row of that tag has those properties, now and later
pub record KnowsRow (c : Contents) (pk rk : List ℕ) (props : List Prop) (tag : Tag) : Type 0 where
  pub past : tag.n ≤ c.counter
  pub same : (r : Stored) → row_at c.rows pk rk ≡ Some r → r.tag ≡ tag → r.props ≡ props

-- old's row, which a migrator has in hand, may be copied with the tag that clients see
pub record KnowsKept (p : Pair) (pk rk : List ℕ) (tag : Tag) : Type 0 where
  pub key : key_fault pk rk ≡ None
  pub tag_is : IsKept p p.new_number tag

-- while new fills, old takes no write, and has these rows at these keys
pub record KnowsTurned (p : Pair) (pk : List ℕ) (part : Keys) (seen : List StoredRow) : Type 0 where
  pub marked : is_marked (new_state_at p pk) ≡ true
  pub turned : is_filling (new_state_at p pk) ≡ true → is_prefer_new (old_state_at p pk) ≡ true
  pub rows : is_filling (new_state_at p pk) ≡ true → (rk : List ℕ) → rk ≢ marker_key → InKeys part rk
      → option_map (shown rk) (old_at p pk rk) ≡ row_in seen rk

-- old is sealed, and has nothing in the range
pub record KnowsClosed (p : Pair) (low : PkFrom) (high : Option (List ℕ)) : Type 0 where
  pub sealed : p.old.sealed ≡ true
  pub empty : (pk : List ℕ) → is_past low pk ≡ true → IsBelow pk high → (rk : List ℕ) → old_at p pk rk ≡ None

-- old's row has an entry in new, and a copy has the visible properties and the seen tag of old's row
pub record Exact (row entry : Option Stored) : Type 0 where
  pub covered : is_some row ≡ true → is_some entry ≡ true
  pub copies : (e : Stored) (tag : Tag) → entry ≡ Some e → mark_of e.props ≡ Some (Copy tag) → from_old row ≡ Some (shown_as e.props tag)

-- new's marker of that tag is of the migrator's own making: it fills, and where there are keys, old is turned and at these keys the copies are made
pub record KnowsEpoch (p : Pair) (pk : List ℕ) (tag : Tag) (part : Keys) : Type 0 where
  pub past : tag.n ≤ p.new.counter
  pub marked : is_marked (new_state_at p pk) ≡ true
  pub filling : (m : Stored) → new_at p pk marker_key ≡ Some m → m.tag ≡ tag → new_phase_of m.props ≡ Some Filling
  pub turned : (m : Stored) → new_at p pk marker_key ≡ Some m → m.tag ≡ tag → (rk : List ℕ) → InKeys part rk → is_prefer_new (old_state_at p pk) ≡ true
  pub exact : (m : Stored) → new_at p pk marker_key ≡ Some m → m.tag ≡ tag → (rk : List ℕ) → rk ≢ marker_key → InKeys part rk
      → Exact (old_at p pk rk) (new_at p pk rk)

-- new is used alone, has no tombstone at these keys, and old has no data rows but these
pub record KnowsClean (p : Pair) (pk : List ℕ) (part : Keys) (rest : Option (List StoredRow)) : Type 0 where
  pub moved : is_use_new (new_state_at p pk) ≡ true
  pub tombs : (rk : List ℕ) → rk ≢ marker_key → InKeys part rk → NoTomb (new_at p pk rk)
  pub left : IfSome rest (λ rows. (rk : List ℕ) (r : Stored) → rk ≢ marker_key → old_at p pk rk ≡ Some r → row_in rows rk ≡ Some (shown rk r))

-- old is sealed, and each of its partitions before the place is in new alone
pub record KnowsSwept (p : Pair) (place : Option PkFrom) : Type 0 where
  pub sealed : p.old.sealed ≡ true
  pub moved : (pk : List ℕ) → IsBehind pk place → is_some (old_at p pk marker_key) ≡ true → is_use_new (new_state_at p pk) ≡ true

-- the fact holds of two stores, and of whether old is retired
abbrev pub Holds : Pair → Bool → Fact → Type 0
Holds p retired (fact.Row Old pk rk props tag) = KnowsRow p.old pk rk props tag
Holds p retired (fact.Row New pk rk props tag) = KnowsRow p.new pk rk props tag
Holds p retired (fact.Kept pk rk tag) = KnowsKept p pk rk tag
Holds p retired (fact.Begun pk) = is_begun (old_state_at p pk) (new_state_at p pk) ≡ true
Holds p retired (fact.There pk) = is_there (old_state_at p pk) (new_state_at p pk) ≡ true
Holds p retired (fact.Turned pk part rows) = KnowsTurned p pk part rows
Holds p retired (fact.Closed from upto) = KnowsClosed p from upto
Holds p retired (fact.Moved pk) = is_use_new (new_state_at p pk) ≡ true
Holds p retired (fact.Epoch pk tag part) = KnowsEpoch p pk tag part
Holds p retired (fact.Clean pk part rest) = KnowsClean p pk part rest
Holds p retired (fact.Swept place) = KnowsSwept p place
Holds p retired fact.Retired = retired ≡ true

-- two facts are apart unless both speak of one epoch
abbrev pub Apart : Fact → Fact → Type 0
Apart (fact.Epoch pk tag part) (fact.Epoch pk' tag' part') = pk ≡ pk' → tag ≡ tag' → ⊥
Apart f g = Unit {0}

-- the fact is apart from each of these
abbrev pub ApartFrom : Fact → List Fact → Type 0
ApartFrom f [] = Unit {0}
ApartFrom f (g ∷ gs) = Apart f g × ApartFrom f gs

-- the fact speaks of no epoch
abbrev pub IsPlain : Fact → Type 0
IsPlain (fact.Epoch pk tag part) = ⊥
IsPlain f = Unit {0}

-- none of these facts does
abbrev pub AllPlain : List Fact → Type 0
AllPlain [] = Unit {0}
AllPlain (f ∷ fs) = IsPlain f × AllPlain fs

-- an entry stays one, and a copy there now was there with the same properties
pub record EntryStays (before after : Option Stored) : Type 0 where
  pub there : is_some before ≡ true → is_some after ≡ true
  pub copies : (e : Stored) (tag : Tag) → after ≡ Some e → mark_of e.props ≡ Some (Copy tag) → (b : Stored) × (before ≡ Some b) × (b.props ≡ e.props)

-- a store's counter rises, and a row of a tag that it gave before was there
pub record Ages (a b : Contents) : Type 0 where
  pub counter : a.counter ≤ b.counter
  pub past : (pk rk : List ℕ) (r : Stored) → row_at b.rows pk rk ≡ Some r → r.tag.n ≤ a.counter → row_at a.rows pk rk ≡ Some r

-- what every step of every actor keeps, but for the entries of its own epochs
pub record Grows (own : List Fact) (p q : Pair) : Type 0 where
  -- the stores are the same ones
  pub numbers : (q.old_number ≡ p.old_number) × (q.new_number ≡ p.new_number)
  -- no partition goes back
  pub modes : (pk : List ℕ) → rank (mode p pk) ≤ rank (mode q pk)
  -- each row that is written has a fresh tag
  pub old : Ages p.old q.old
  pub new : Ages p.new q.new
  -- a seal stays
  pub sealed : p.old.sealed ≡ true → q.old.sealed ≡ true
  -- a sealed store bears no partition
  pub births : p.old.sealed ≡ true → (pk : List ℕ) → old_at p pk marker_key ≡ None → (rk : List ℕ) → old_at q pk rk ≡ None
  -- clients write old before this mode, and the cleaner drops its rows after it
  pub turned : (pk : List ℕ) → mode p pk ≡ Overlaid → mode q pk ≡ Overlaid → (rk : List ℕ) → old_at q pk rk ≡ old_at p pk rk
  -- while new fills, clients leave live rows and tombstones, and only the epoch's own migrator writes copies
  pub entries : (pk : List ℕ) (m : Stored) → mode p pk ≡ Overlaid → mode q pk ≡ Overlaid → new_at q pk marker_key ≡ Some m
      → m.tag.n ≤ p.new.counter → ApartFrom (fact.Epoch pk m.tag keys.None) own → (rk : List ℕ) → rk ≢ marker_key
      → EntryStays (new_at p pk rk) (new_at q pk rk)
  -- once new is used alone, a delete leaves no tombstone
  pub tombs : (pk : List ℕ) → 5 ≤ rank (mode p pk) → (rk : List ℕ) → rk ≢ marker_key → NoTomb (new_at p pk rk) → NoTomb (new_at q pk rk)
  -- and old takes no write
  pub dropped : (pk : List ℕ) → 5 ≤ rank (mode p pk) → (rk : List ℕ) → (old_at q pk rk ≡ old_at p pk rk) ⊎ (old_at q pk rk ≡ None)
