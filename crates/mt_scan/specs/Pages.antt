-- A page: where it is, what it asks there, and how it moves with each reply.
use Rattle.std.specs.Prelude.{◌≡◌, ◌⊎◌, ℕ, ◌+◌, ◌-◌, Bool, true, false, not, ◌||◌, ◌==◌, nat_le, List, [], ◌∷◌, ◌++◌, length, Option, Some, None, option_map, Result, Ok, Err}
use Rattle.std.specs.List.{AllByRecursion}
use Rattle.std.specs.Ordering.{nat_cmp, is_lt, is_le}
use Rattle.std.specs.Cmp.Lexicographic.{slice_cmp}
use Rattle.mt_model.specs.declared.text.NoMemory.{NoMemory}
use Rattle.mt_model.specs.declared.key.Key.{Key}
use Rattle.mt_model.specs.declared.entity.Entity.{Entity}
use Rattle.mt_model.specs.Key.{key_cmp}
use Rattle.mt_model.specs.Entities.{RisingKeys}
use Rattle.mt_filter.specs.declared.filter.Filter.{Filter}
use Rattle.mt_filter.specs.Tree.{tree_of}
use Rattle.mt_match.specs.declared.bounds.Bounds.{Bounds}
use Rattle.mt_match.specs.Bounds.{IsNarrowest}
use Rattle.mt_chain.specs.declared.row.StoredRow.{StoredRow}
use Rattle.mt_chain.specs.declared.query.Found.{Found}
use Rattle.mt_chain.specs.declared.query.Next.{Next}
use Rattle.mt_chain.specs.declared.query.RkFrom.{RkFrom}
use Rattle.mt_chain.specs.declared.query.Range.{Range}
use Rattle.mt_chain.specs.declared.query.PkFrom.{PkFrom}
use Rattle.mt_chain.specs.declared.query.PkFrom.TheVariants as part
use Rattle.mt_chain.specs.declared.ask.Side.{Side}
use Rattle.mt_chain.specs.declared.ask.Side.TheVariants.{Old, New}
use Rattle.mt_chain.specs.declared.ask.Ask.TheVariants as ask
use Rattle.mt_chain.specs.declared.ask.StoreAsk.{StoreAsk}
use Rattle.mt_chain.specs.declared.ask.StoreReply.{StoreReply}
use Rattle.mt_chain.specs.declared.ask.StoreReply.TheVariants as reply
use Rattle.mt_chain.specs.Rows.{key_at, row_in, is_within, is_past, read_end}
use Rattle.mt_meta.specs.declared.marker.Phase.{Phase}
use Rattle.mt_meta.specs.declared.marker.Phase.TheVariants.{UseOld, PreferOld, PreferNew}
use Rattle.mt_meta.specs.declared.marker.NewPhase.{NewPhase}
use Rattle.mt_meta.specs.declared.marker.NewPhase.TheVariants.{Filling, UseNew}
use Rattle.mt_meta.specs.declared.fact.Keys.TheVariants as keys
use Rattle.mt_meta.specs.declared.fact.Fact.{Fact}
use Rattle.mt_meta.specs.declared.fact.Fact.TheVariants as fact
use Rattle.mt_meta.specs.Markers.{marker_key, old_phase_of, new_phase_of}
use Rattle.mt_meta.specs.ReadRows.{reads_marked, closed_fact}
use Rattle.mt_scan.specs.declared.unit.Unit.{Unit as PageUnit}
use Rattle.mt_scan.specs.declared.unit.Unit.TheVariants.{Scan, Gap}
use Rattle.mt_scan.specs.declared.unit.Place.{Place}
use Rattle.mt_scan.specs.declared.unit.Place.TheVariants as at
use Rattle.mt_scan.specs.declared.unit.Token.{Token}
use Rattle.mt_scan.specs.declared.unit.Token.TheVariants as token
use Rattle.mt_scan.specs.declared.unit.PageProgress.{PageProgress}
use Rattle.mt_scan.specs.declared.unit.PageProgress.TheVariants as said
use Rattle.mt_scan.specs.declared.saw.Half.{Half}
use Rattle.mt_scan.specs.declared.saw.Half.TheVariants.{First, Turned, Closed, Named}
use Rattle.mt_scan.specs.declared.call.Seen.{Seen}
use Rattle.mt_scan.specs.declared.call.Seen.TheVariants as came
use Rattle.mt_scan.specs.declared.saw.SeenRows.{SeenRows}
use Rattle.mt_scan.specs.declared.saw.SeenRows.TheVariants as rows
use Rattle.mt_scan.specs.declared.saw.SeenNext.{SeenNext}
use Rattle.mt_scan.specs.declared.saw.SeenNext.TheVariants as next
use Rattle.mt_scan.specs.Units.{from_row, after_unit, place_of}
use Rattle.mt_scan.specs.Chunks.{asked_range, is_row_key, is_partition_key, is_fair, is_fair_next, lesser, IsChunk}

-- a page: its filter with the bounds of keys, the room that is left in it, its rows and how many units it has so far, and where it is: the next unit's place with what that unit's first call showed
pub record Page : Type 0 where
  pub filter : Option Filter
  pub bounds : Bounds
  pub room : ℕ
  pub rows : List Entity
  pub units : ℕ
  pub place : Place
  pub half : Half

-- the bounds that the filter gives, or without a filter from the empty texts on without end
abbrev pub AreBounds : Option Filter → Bounds → Type 0
AreBounds None bounds = bounds ≡ record { pk_low = []; pk_high = None; rk_low = []; rk_high = None }
AreBounds (Some filter) bounds = IsNarrowest (tree_of filter) bounds

-- the place of a page, at first the start of the bounds
abbrev pub place_in : Bounds → Option Place → Place
place_in bounds None = at.Parts (part.From bounds.pk_low)
place_in bounds (Some place) = place

-- the texts of a token meet the rules of keys
abbrev pub IsKeyedToken : Token → Type 0
IsKeyedToken (token.Row key) = (is_partition_key key.pk ≡ true) × (is_row_key key.rk ≡ true)
IsKeyedToken (token.Part (part.From pk)) = is_partition_key pk ≡ true
IsKeyedToken (token.Part (part.After pk)) = is_partition_key pk ≡ true

abbrev pub begun : Option Filter → Bounds → ℕ → Option Token → Page
begun filter bounds top token = record { filter = filter; bounds = bounds; room = top; rows = []; units = 0; place = place_of bounds token; half = First }

abbrev pub is_end : Place → Bool
is_end at.End = true
is_end place = false

-- a page ends without room, at 256 units, or at the end of the bounds
abbrev pub is_over_at : Place → ℕ → ℕ → Bool
is_over_at place room units = is_end place || (room == 0 || nat_le 256 units)

abbrev pub is_over : Page → Bool
is_over page = is_over_at page.place page.room page.units

-- ---- what is asked

-- first old, and then new
abbrev pub side_of : Half → Side
side_of First = Old
side_of half = New

abbrev pub range_at : Bounds → Option (List ℕ) → Range
range_at bounds row = asked_range bounds.rk_low bounds.rk_high (from_row row)

-- in a partition a read of the marker and of a range, else the next partition
abbrev pub asks_at : Bounds → Place → Side → StoreAsk
asks_at bounds (at.Rows pk row) side = reads_marked side pk (Some (range_at bounds row))
asks_at bounds (at.Parts from) side = record { side = side; ask = ask.Next from }
asks_at bounds at.End side = record { side = side; ask = ask.Next (part.From []) }

abbrev pub asks : Page → StoreAsk
asks page = asks_at page.bounds page.place (side_of page.half)

-- the place among partitions at which a gap begins
abbrev pub gap_from : Place → Option PkFrom
gap_from (at.Rows pk row) = None
gap_from (at.Parts from) = Some from
gap_from at.End = None

-- ---- where a reply leads

pub data Lead : Type 0 where
  -- to the beginning of the unit
  again : Lead
  -- on to new
  on : Half → Lead
  -- to the end of a chunk, by the reads of old and new that count
  chunk : NewPhase → Option Found → Option Found → Lead
  -- to the end of a gap, before that partition
  gap : Option (List ℕ) → Lead

-- an empty partition
abbrev pub nothing : Lead
nothing = chunk UseNew None None

-- what old shows by its marker. Without one there is no such partition, or old has been sealed, and then new is read
abbrev pub saw_old : Found → Option (Option Phase) → Bool → Lead
saw_old found (Some (Some UseOld)) sealed = chunk Filling (Some found) None
saw_old found (Some (Some PreferOld)) sealed = chunk Filling (Some found) None
saw_old found (Some (Some PreferNew)) sealed = on (Turned found)
saw_old found (Some None) sealed = again
saw_old found None false = nothing
saw_old found None true = on Closed

-- what new shows by its marker where old was turned: at `use-new` the rows of old are thrown away
abbrev pub saw_turned : Found → Found → Option (Option NewPhase) → Lead
saw_turned old found (Some (Some Filling)) = chunk Filling (Some old) (Some found)
saw_turned old found (Some (Some UseNew)) = chunk UseNew None (Some found)
saw_turned old found (Some None) = again
saw_turned old found None = again

-- and where old was sealed without the partition
abbrev pub saw_closed : Found → Option (Option NewPhase) → Lead
saw_closed found (Some (Some UseNew)) = chunk UseNew None (Some found)
saw_closed found (Some (Some Filling)) = again
saw_closed found (Some None) = again
saw_closed found None = nothing

-- what the marker among the rows that were read says in old, and in new
abbrev pub old_marker : Found → Option (Option Phase)
old_marker found = option_map (λ (m : StoredRow). old_phase_of m.tag.store m.props) (row_in found.named marker_key)

abbrev pub new_marker : Found → Option (Option NewPhase)
new_marker found = option_map (λ (m : StoredRow). new_phase_of m.props) (row_in found.named marker_key)

abbrev pub saw_rows : Half → Found → Lead
saw_rows First found = saw_old found (old_marker found) found.sealed
saw_rows (Turned old) found = saw_turned old found (new_marker found)
saw_rows Closed found = saw_closed found (new_marker found)
saw_rows (Named next) found = again

-- the next partition in old ends a gap, or where old is sealed the lesser of it and new's
abbrev pub saw_first : Option (List ℕ) → Bool → Lead
saw_first next false = gap next
saw_first next true = on (Named next)

abbrev pub saw_next : Half → Option (List ℕ) → Bool → Lead
saw_next First next sealed = saw_first next sealed
saw_next (Named old) next sealed = gap (lesser old next)
saw_next (Turned old) next sealed = again
saw_next Closed next sealed = again

-- a reply with a key outside the rules is odd
abbrev pub read_lead : Bool → Half → Found → Lead
read_lead true half found = saw_rows half found
read_lead false half found = again

abbrev pub next_lead : Bool → Half → Next → Lead
next_lead true half next = saw_next half next.pk next.sealed
next_lead false half next = again

abbrev pub lead_of : Place → Half → StoreReply → Lead
lead_of (at.Rows pk row) half (reply.Found found) = read_lead (is_fair found) half found
lead_of (at.Parts from) half (reply.Next next) = next_lead (is_fair_next next.pk) half next
lead_of place half reply = again

-- ---- how a page moves

abbrev pub with_half : Page → Half → Page
with_half page half = record { filter = page.filter; bounds = page.bounds; room = page.room; rows = page.rows; units = page.units; place = page.place; half = half }

-- the unit and the rows to which a reply leads: a scan up to where the chunk ends, or a gap
abbrev pub IsScan : List ℕ → RkFrom → Option Filter → NewPhase → ℕ → Option Found → Option Found → PageUnit → List Entity → Type 0
IsScan pk from filter phase room old new unit rows = (upto : Option (List ℕ)) × (unit ≡ Scan pk from upto) × IsChunk pk filter phase room old new (record { rows = rows; upto = upto })

abbrev pub MakesAt : Place → Option Filter → ℕ → Lead → PageUnit → List Entity → Type 0
MakesAt (at.Rows pk row) filter room (chunk phase old new) unit rows = IsScan pk (from_row row) filter phase room old new unit rows
MakesAt (at.Parts from) filter room (gap next) unit rows = (unit ≡ Gap from next) × (rows ≡ [])
MakesAt place filter room lead unit rows = ⊥

abbrev pub Makes : Page → Lead → PageUnit → List Entity → Type 0
Makes page lead unit rows = MakesAt page.place page.filter page.room lead unit rows

abbrev pub told : Bool → PageUnit → PageProgress
told true unit = said.Last unit
told false unit = said.Unit unit

-- the page behind the unit, with its rows
abbrev pub after : Page → PageUnit → List Entity → Page
after page unit rows = record { filter = page.filter; bounds = page.bounds; room = page.room - length rows; rows = page.rows ++ rows; units = page.units + 1; place = after_unit page.bounds unit; half = First }

abbrev pub Goes : Page → Lead → Page → Type 0
Goes page again to = to ≡ with_half page First
Goes page (on half) to = to ≡ with_half page half
Goes page lead to = ⊥

abbrev pub Comes : Page → Lead → PageProgress → Page → Type 0
Comes page lead said.More to = Goes page lead to
Comes page lead (said.Unit unit) to = (rows : List Entity) × Makes page lead unit rows × (to ≡ after page unit rows) × (is_over to ≡ false)
Comes page lead (said.Last unit) to = (rows : List Entity) × Makes page lead unit rows × (to ≡ after page unit rows) × (is_over to ≡ true)

-- for want of memory it stays as it was
abbrev pub Absorbs : Page → StoreReply → Result PageProgress NoMemory → Page → Type 0
Absorbs page answer (Ok progress) to = Comes page (lead_of page.place page.half answer) progress to
Absorbs page answer (Err none) to = to ≡ page

-- a unit that is done is the scan of these rows up to there, or the gap up to there
abbrev pub IsScanDone : Bounds → List ℕ → Option (List ℕ) → List Entity → Option (List ℕ) → Seen → Type 0
IsScanDone bounds pk row found upto (came.Done unit rows to) = (unit ≡ Scan pk (from_row row) upto) × (rows.items ≡ found) × (to ≡ after_unit bounds unit)
IsScanDone bounds pk row found upto came = ⊥

abbrev pub IsGapDone : Bounds → PkFrom → Option (List ℕ) → Seen → Type 0
IsGapDone bounds from next (came.Done unit rows to) = (unit ≡ Gap from next) × (rows.items ≡ []) × (to ≡ after_unit bounds unit)
IsGapDone bounds from next came = ⊥

-- what a reply comes to in memory is where it leads
abbrev pub Sees : Page → Lead → Seen → Type 0
Sees page again came.Again = Unit {0}
Sees page (on half) (came.On read) = read ≡ half
Sees page lead (came.Done unit rows to) = Makes page lead unit rows.items × (to ≡ after_unit page.bounds unit)
Sees page lead came = ⊥

-- what a read of rows comes to
abbrev pub SeesRows : List ℕ → Option Filter → ℕ → Lead → SeenRows → Type 0
SeesRows pk filter room again rows.Again = Unit {0}
SeesRows pk filter room (on half) (rows.On read) = read ≡ half
SeesRows pk filter room (chunk phase old new) (rows.Made made) = IsChunk pk filter phase room old new (record { rows = made.rows.items; upto = made.upto })
SeesRows pk filter room lead came = ⊥

-- and the next partition
abbrev pub SeesNext : Lead → SeenNext → Type 0
SeesNext again next.Again = Unit {0}
SeesNext (on half) (next.On read) = read ≡ half
SeesNext (gap to) (next.Next found) = found ≡ to
SeesNext lead came = ⊥

-- ---- what a page keeps whatever the stores reply

-- the row's key lies behind the place
abbrev pub is_behind : Place → Key → Bool
is_behind (at.Rows pk (Some rk)) key = is_le (key_cmp key (key_at pk rk))
is_behind (at.Rows pk None) key = is_lt (slice_cmp nat_cmp key.pk pk)
is_behind (at.Parts from) key = not (is_past from key.pk)
is_behind at.End key = true

abbrev pub MayBe : (List ℕ → Bool) → Option (List ℕ) → Type 0
MayBe test None = Unit {0}
MayBe test (Some text) = test text ≡ true

-- the keys of a place meet the rules, but for the lower bound at which a page begins
abbrev pub IsKeyed : Bounds → Place → Type 0
IsKeyed bounds (at.Rows pk row) = (is_partition_key pk ≡ true) × MayBe is_row_key row
IsKeyed bounds (at.Parts (part.From pk)) = (is_partition_key pk ≡ true) ⊎ (pk ≡ bounds.pk_low)
IsKeyed bounds (at.Parts (part.After pk)) = is_partition_key pk ≡ true
IsKeyed bounds at.End = Unit {0}

-- the rows lie in the range
abbrev pub AreIn : Range → List StoredRow → Type 0
AreIn range rows = AllByRecursion (λ r. is_within range r.rk ≡ true) rows

-- what a unit's first call showed is of the kind that it asked for, and lies past the place
abbrev pub IsHalf : Bounds → Place → Half → Type 0
IsHalf bounds place First = Unit {0}
IsHalf bounds (at.Rows pk row) (Turned old) = AreIn (range_at bounds row) old.rows × (is_fair old ≡ true)
IsHalf bounds (at.Rows pk row) Closed = Unit {0}
IsHalf bounds (at.Parts from) (Named next) = MayBe (is_past from) next × (is_fair_next next ≡ true)
IsHalf bounds place half = ⊥

pub record IsPage (page : Page) : Type 0 where
  pub bounds : AreBounds page.filter page.bounds
  pub rising : RisingKeys page.rows
  pub behind : AllByRecursion (λ e. is_behind page.place e.key ≡ true) page.rows
  pub keyed : IsKeyed page.bounds page.place
  pub half : IsHalf page.bounds page.place page.half

-- ---- what a page knows

-- once old was turned: while new fills, old's rows in the range up to where the read ends stay those that were read
abbrev pub turned_fact : List ℕ → Range → Found → Fact
turned_fact pk range old = fact.Turned pk (keys.Within range.from (lesser range.upto (read_end old.rows old.more)) []) old.rows

abbrev pub half_facts : Bounds → Place → Half → List Fact
half_facts bounds (at.Rows pk row) (Turned old) = turned_fact pk (range_at bounds row) old ∷ []
half_facts bounds (at.Rows pk row) Closed = closed_fact pk ∷ []
half_facts bounds (at.Parts from) (Named next) = fact.Closed from next ∷ []
half_facts bounds place half = []

abbrev pub page_facts : Page → List Fact
page_facts page = half_facts page.bounds page.place page.half
