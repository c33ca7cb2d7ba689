-- What a step of an actor does to a pair of stores: the one law that each of them meets.
use Rattle.std.specs.Prelude.{◌≡◌, ◌≢◌, ◌⊎◌, ℕ, ◌<◌, ◌≤◌, Bool, true, List, [], ◌∷◌, None, option_map}
use Rattle.mt_model.specs.declared.tag.Tag.{Tag}
use Rattle.mt_chain.specs.declared.ask.Side.{Side}
use Rattle.mt_chain.specs.declared.ask.Side.TheVariants.{Old, New}
use Rattle.mt_chain.specs.declared.ask.Ask.{Ask}
use Rattle.mt_chain.specs.declared.ask.StoreAsk.{StoreAsk}
use Rattle.mt_chain.specs.declared.ask.StoreReply.{StoreReply}
use Rattle.mt_chain.specs.declared.row.Stored.{Stored}
use Rattle.mt_chain.specs.declared.row.StoredRow.{StoredRow}
use Rattle.mt_chain.specs.StoreCall.{Contents}
use Rattle.mt_chain.specs.Table.{Table}
use Rattle.mt_chain.specs.Asks.{Means}
use Rattle.mt_meta.specs.declared.fact.Fact.{Fact}
use Rattle.mt_meta.specs.declared.fact.Fact.TheVariants as fact
use Rattle.mt_meta.specs.Logical.{Pair, Shown, old_at, logical}
use Rattle.mt_meta.specs.Sound.{IsSound}
use Rattle.mt_meta.specs.Facts.{Holds, ApartFrom, Grows}

-- a row as clients see it, as a row of a table
abbrev pub as_row : Shown → Stored
as_row s = record { props = s.props; tag = s.tag }

-- the logical table of two stores as a reference table
abbrev pub logical_table : Pair → Table
logical_table p key = option_map as_row (logical p key.pk key.rk)

-- all of these facts hold
abbrev pub AllHold : Pair → Bool → List Fact → Type 0
AllHold p retired [] = Unit {0}
AllHold p retired (f ∷ fs) = Holds p retired f × AllHold p retired fs

-- what an actor knows from rows of a partition that it read in one of the stores
abbrev pub row_facts : Side → List ℕ → List StoredRow → List Fact
row_facts side pk [] = []
row_facts side pk (r ∷ rows) = fact.Row side pk r.rk r.props r.tag ∷ row_facts side pk rows

-- the pair with these contents of old
abbrev pub with_old : Pair → Contents → Pair
with_old p c = record { old_number = p.old_number; new_number = p.new_number; old = c; new = p.new }

-- the pair with these contents of new
abbrev pub with_new : Pair → Contents → Pair
with_new p c = record { old_number = p.old_number; new_number = p.new_number; old = p.old; new = c }

-- the contents of one of the two stores
abbrev pub contents_of : Pair → Side → Contents
contents_of p Old = p.old
contents_of p New = p.new

-- its number
abbrev pub number_of : Pair → Side → ℕ
number_of p Old = p.old_number
number_of p New = p.new_number

-- the pair with these contents of it
abbrev pub with_store : Pair → Side → Contents → Pair
with_store p Old c = with_old p c
with_store p New c = with_new p c

-- what a reply of that one of two stores says of them before and after the call; the other store stays
abbrev pub MeansOn : Side → Ask → StoreReply → Pair → Pair → Type 0
MeansOn Old a r p q = Means p.old_number a r p.old q.old × (q ≡ with_old p q.old)
MeansOn New a r p q = Means p.new_number a r p.new q.new × (q ≡ with_new p q.new)

-- what the reply to a call of one of two stores says of them
abbrev pub PairMeans : StoreAsk → StoreReply → Pair → Pair → Type 0
PairMeans a r p q = MeansOn a.side a.ask r p q

-- ---- what a step does

-- a step in one partition: the pair stays sound, what every step is to keep is kept, and other partitions show the same
pub record StepIn (own : List Fact) (p q : Pair) (part : List ℕ) : Type 0 where
  pub sound : IsSound q
  pub grows : Grows own p q
  pub others : (pk rk : List ℕ) → pk ≢ part → logical q pk rk ≡ logical p pk rk

-- old is sealed and has no row
pub record IsEmptied (p : Pair) : Type 0 where
  pub sealed : p.old.sealed ≡ true
  pub rows : (pk rk : List ℕ) → old_at p pk rk ≡ None

-- a step of an actor that knew `own` and then knows `own'`: what it does is `Does`
pub record ActorStep (own own' : List Fact) (retired retired' : Bool) (Does : Pair → Pair → Type 0) (p q : Pair) : Type 0 where
  -- the pair stays sound
  pub sound : IsSound q
  -- and keeps what every step is to keep
  pub grows : Grows own p q
  -- the actor's facts afterwards hold
  pub knows : AllHold q retired' own'
  -- each fact that held and was apart from the actor's is apart from its new ones
  pub apart : (f : Fact) → Holds p retired f → ApartFrom f own → ApartFrom f own'
  -- a retired world stays retired, and becomes so only where old is sealed and empty
  pub stays : retired ≡ true → retired' ≡ true
  pub retires : retired' ≡ true → (retired ≡ true) ⊎ IsEmptied q
  pub does : Does p q

-- ---- the tags that stores give

-- the store of that number gave the tag in this step
pub record IsGivenBetween (number : ℕ) (a b : Contents) (tag : Tag) : Type 0 where
  pub store_is : tag.store ≡ number
  pub above : a.counter < tag.n
  pub within : tag.n ≤ b.counter

-- old or new gave the tag in this step
abbrev pub IsFresh : Pair → Pair → Tag → Type 0
IsFresh p q tag = IsGivenBetween p.old_number p.old q.old tag ⊎ IsGivenBetween p.new_number p.new q.new tag

-- one of the two stores gave the tag, or an earlier store did
abbrev pub IsGiven : Pair → Tag → Type 0
IsGiven p tag = ((tag.store ≡ p.old_number) × (tag.n ≤ p.old.counter)) ⊎ (((tag.store ≡ p.new_number) × (tag.n ≤ p.new.counter)) ⊎ (tag.store < p.old_number))
