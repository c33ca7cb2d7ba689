-- The query of one partition: where it is, what it asks there, and how it moves with each reply.
use Rattle.std.specs.Prelude.{◌≡◌, ℕ, Bool, true, false, List, [], ◌∷◌, Option, Some, None, Result, Ok, Err}
use Rattle.mt_model.specs.declared.text.NoMemory.{NoMemory}
use Rattle.mt_filter.specs.declared.filter.Filter.{Filter}
use Rattle.mt_chain.specs.declared.row.StoredRow.{StoredRow}
use Rattle.mt_chain.specs.declared.query.Found.{Found}
use Rattle.mt_chain.specs.declared.ask.Side.{Side}
use Rattle.mt_chain.specs.declared.ask.Side.TheVariants.{Old, New}
use Rattle.mt_chain.specs.declared.ask.StoreAsk.{StoreAsk}
use Rattle.mt_chain.specs.declared.ask.StoreReply.{StoreReply}
use Rattle.mt_chain.specs.declared.ask.StoreReply.TheVariants as reply
use Rattle.mt_chain.specs.Rows.{row_in}
use Rattle.mt_meta.specs.declared.marker.Phase.{Phase}
use Rattle.mt_meta.specs.declared.marker.Phase.TheVariants.{UseOld, PreferOld, PreferNew}
use Rattle.mt_meta.specs.declared.marker.NewPhase.{NewPhase}
use Rattle.mt_meta.specs.declared.marker.NewPhase.TheVariants.{Filling, UseNew}
use Rattle.mt_meta.specs.declared.fact.Keys.TheVariants as keys
use Rattle.mt_meta.specs.declared.fact.Fact.{Fact}
use Rattle.mt_meta.specs.declared.fact.Fact.TheVariants as fact
use Rattle.mt_meta.specs.Markers.{marker_key, old_phase_of, new_phase_of}
use Rattle.mt_meta.specs.ReadRows.{reads_marked, closed_fact}
use Rattle.mt_query_plan.specs.declared.place.AfterOld.{AfterOld}
use Rattle.mt_query_plan.specs.declared.place.AfterOld.TheVariants.{Turned, Closed, Moved}
use Rattle.mt_query_plan.specs.declared.place.Place.{Place}
use Rattle.mt_query_plan.specs.declared.place.Place.TheVariants.{ReadOld, ReadNew}
use Rattle.mt_query_plan.specs.declared.call.QueryProgress.{QueryProgress}
use Rattle.mt_query_plan.specs.declared.call.QueryProgress.TheVariants.{More, Rows}
use Rattle.mt_query_plan.specs.declared.saw.Seen.{Seen}
use Rattle.mt_query_plan.specs.declared.saw.Seen.TheVariants as seen
use Rattle.mt_query_plan.specs.Ranges.{range_of, from_low, row_low, row_high}
use Rattle.mt_query_plan.specs.Answers.{IsAnswer}

-- a query: its partition, its filter, and where it is
pub record Call : Type 0 where
  pub pk : List ℕ
  pub filter : Option Filter
  pub place : Place

-- it begins at a read of old, or at a read of new where the partition is known to be there alone
abbrev pub first_place : Bool → Place
first_place false = ReadOld
first_place true = ReadNew Moved

-- ---- what is asked

abbrev pub side_of : Place → Side
side_of ReadOld = Old
side_of (ReadNew after) = New

-- a read of the marker, and of the range that the filter leaves
abbrev pub asks : Call → StoreAsk
asks call = reads_marked (side_of call.place) call.pk (Some (range_of call.filter))

-- ---- where a read leads

pub data Lead : Type 0 where
  -- to the beginning: no client may go on under this marker
  again : Lead
  -- to a read of new
  on : AfterOld → Lead
  -- to the answer, by rows of old and entries of new over them
  answered : NewPhase → List StoredRow → List StoredRow → Lead

-- an empty partition
abbrev pub nothing : Lead
nothing = answered UseNew [] []

-- what the marker in old says
abbrev pub marker_says : List StoredRow → Option Phase → Lead
marker_says rows (Some UseOld) = answered Filling rows []
marker_says rows (Some PreferOld) = answered Filling rows []
marker_says rows (Some PreferNew) = on (Turned rows)
marker_says rows None = again

-- without a marker there is no such partition, or old has been sealed, and then new is read
abbrev pub saw_old : List StoredRow → Option StoredRow → Bool → Lead
saw_old rows (Some m) sealed = marker_says rows (old_phase_of m.tag.store m.props)
saw_old rows None false = nothing
saw_old rows None true = on Closed

-- what the marker in new says: at `use-new` the rows of old are thrown away
abbrev pub phase_says : AfterOld → List StoredRow → Option NewPhase → Lead
phase_says (Turned rows) entries (Some Filling) = answered Filling rows entries
phase_says after entries (Some UseNew) = answered UseNew [] entries
phase_says after entries _ = again

-- without a marker there is no such partition, where old was sealed without it
abbrev pub saw_new : AfterOld → List StoredRow → Option StoredRow → Lead
saw_new after entries (Some m) = phase_says after entries (new_phase_of m.props)
saw_new Closed entries None = nothing
saw_new after entries None = again

abbrev pub lead_of : Place → Found → Lead
lead_of ReadOld found = saw_old found.rows (row_in found.named marker_key) found.sealed
lead_of (ReadNew after) found = saw_new after found.rows (row_in found.named marker_key)

-- ---- how a call moves

-- what a read comes to in memory is where it leads
abbrev pub Sees : List ℕ → Option Filter → Lead → Seen → Type 0
Sees pk filter again seen.Again = Unit {0}
Sees pk filter (on after) (seen.Read read) = read ≡ after
Sees pk filter (answered phase rows entries) (seen.Answer answer) = IsAnswer pk filter phase rows entries answer
Sees pk filter lead came = ⊥

-- where a call is then, and what it says: after the answer it is at its beginning
abbrev pub Comes : List ℕ → Option Filter → Lead → QueryProgress → Place → Type 0
Comes pk filter again More to = to ≡ ReadOld
Comes pk filter (on after) More to = to ≡ ReadNew after
Comes pk filter (answered phase rows entries) (Rows answer) to = (to ≡ ReadOld) × IsAnswer pk filter phase rows entries answer
Comes pk filter lead said to = ⊥

-- for want of memory it stays where it was
abbrev pub Moves : Call → Found → Result QueryProgress NoMemory → Place → Type 0
Moves call found (Ok said) to = Comes call.pk call.filter (lead_of call.place found) said to
Moves call found (Err none) to = to ≡ call.place

-- how a call moves with a reply of the kind that it asked for
abbrev pub Absorbs : Call → StoreReply → Result QueryProgress NoMemory → Place → Type 0
Absorbs call (reply.Found found) r to = Moves call found r to
Absorbs call answer r to = ⊥

-- ---- what a call knows

-- once old was turned: while new fills, old's rows in the range stay those that were read
abbrev pub turned_fact : List ℕ → Option Filter → List StoredRow → Fact
turned_fact pk filter rows = fact.Turned pk (keys.Within (from_low (row_low filter)) (row_high filter) []) rows

abbrev pub place_facts : List ℕ → Option Filter → Place → List Fact
place_facts pk filter ReadOld = []
place_facts pk filter (ReadNew (Turned rows)) = turned_fact pk filter rows ∷ []
place_facts pk filter (ReadNew Closed) = closed_fact pk ∷ []
place_facts pk filter (ReadNew Moved) = fact.Moved pk ∷ []

abbrev pub call_facts : Call → List Fact
call_facts call = place_facts call.pk call.filter call.place
