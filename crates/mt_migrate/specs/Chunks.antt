-- A chunk of rows that were read in both stores: where it ends, and the put that each of its keys wants.
use Rattle.std.specs.Prelude.{◌≡◌, ℕ, Bool, true, false, not, ◌&&◌, ◌||◌, bytes_eq, List, [], ◌∷◌, ◌++◌, map, filter, Option, Some, None, if◌then◌else◌}
use Rattle.std.specs.List.{list_any, AllByRecursion}
use Rattle.std.specs.List.Sorted.{IsStrictlySortedBy}
use Rattle.std.specs.Ordering.{nat_cmp, is_le}
use Rattle.std.specs.Cmp.Lexicographic.{slice_cmp, pointwise}
use Rattle.mt_model.specs.declared.tag.Tag.{Tag}
use Rattle.mt_model.specs.declared.value.Prop.{Prop}
use Rattle.mt_model.specs.contracts.value.PropPartialEq.TheImpl as prop_eq
use Rattle.mt_model.specs.Tag.{IsTag}
use Rattle.mt_model.specs.Props.{is_visible}
use Rattle.mt_chain.specs.declared.row.StoredRow.{StoredRow}
use Rattle.mt_chain.specs.declared.row.Put.{Put}
use Rattle.mt_chain.specs.declared.row.Put.TheVariants as put
use Rattle.mt_chain.specs.Rows.{row_in, read_end, is_upto}
use Rattle.mt_chain.specs.Puts.{row_key, is_same_tag}
use Rattle.mt_meta.specs.declared.mark.Mark.{Mark}
use Rattle.mt_meta.specs.declared.mark.Mark.TheVariants.{Live, Copy, Tomb}
use Rattle.mt_meta.specs.Markers.{marker_key}
use Rattle.mt_meta.specs.Marks.{mark_of, seen_tag, stored}
use Rattle.mt_meta.specs.Facts.{is_in}
use Rattle.mt_migrate.specs.declared.state.Reading.{Reading}
use Rattle.mt_migrate.specs.declared.chunk.Want.{Want}
use Rattle.mt_migrate.specs.declared.chunk.Want.TheVariants.{Nothing, Insert, Replace, Delete}

-- ---- where a chunk ends

-- a reading goes up to its last row key where its range has more rows, else to the end
abbrev pub end_of : Reading → Option (List ℕ)
end_of reading = read_end reading.rows reading.more

-- the lesser of two ends, of which none is the end of all
abbrev pub lesser : Option (List ℕ) → Option (List ℕ) → Option (List ℕ)
lesser None b = b
lesser (Some a) None = Some a
lesser (Some a) (Some b) = if is_le (slice_cmp nat_cmp a b) then Some a else Some b

-- a chunk ends at the lesser last key of the readings that have more
abbrev pub chunk_end : Reading → Reading → Option (List ℕ)
chunk_end old new = lesser (end_of old) (end_of new)

-- ---- what a key wants

-- the visible properties are equal
abbrev pub are_alike : List Prop → List Prop → Bool
are_alike ps qs = pointwise (prop_eq.ghosts).eq (filter is_visible ps) (filter is_visible qs)

-- an old row without an entry is copied, with the tag that clients see
abbrev pub insert_want : Option Tag → Want
insert_want None = Nothing
insert_want (Some seen) = Insert seen

-- a copy of other properties, or with another kept tag, than those that clients see of old's row is replaced
abbrev pub replace_want : StoredRow → Option Tag → StoredRow → Tag → Want
replace_want row None entry kept = Nothing
replace_want row (Some seen) entry kept = if are_alike row.props entry.props && is_same_tag seen kept then Nothing else Replace seen entry.tag

-- a copy without an old row is deleted
abbrev pub copy_want : Option StoredRow → StoredRow → Tag → Want
copy_want None entry kept = Delete entry.tag
copy_want (Some row) entry kept = replace_want row (seen_tag row.props row.tag) entry kept

-- a client's write and a tombstone stay
abbrev pub entry_want : Option StoredRow → StoredRow → Option Mark → Want
entry_want row entry (Some (Copy kept)) = copy_want row entry kept
entry_want row entry (Some Live) = Nothing
entry_want row entry (Some Tomb) = Nothing
entry_want row entry None = Nothing

-- by old's row and new's entry at the key
abbrev pub want_of : Option StoredRow → Option StoredRow → Want
want_of None None = Nothing
want_of (Some row) None = insert_want (seen_tag row.props row.tag)
want_of row (Some entry) = entry_want row entry (mark_of entry.props)

-- the key is a client's, and the chunk that ends there has it
abbrev pub is_of_chunk : Option (List ℕ) → List ℕ → Bool
is_of_chunk upto rk = not (bytes_eq rk marker_key) && is_upto upto rk

-- what a key wants, by the rows that were read of both stores
abbrev pub want_at : Option (List ℕ) → List StoredRow → List StoredRow → List ℕ → Want
want_at upto rows entries rk = if is_of_chunk upto rk then want_of (row_in rows rk) (row_in entries rk) else Nothing

abbrev pub is_want : Want → Bool
is_want Nothing = false
is_want want = true

abbrev pub wants_put : Option (List ℕ) → List StoredRow → List StoredRow → List ℕ → Bool
wants_put upto rows entries rk = is_want (want_at upto rows entries rk)

-- some key that was read wants a put
abbrev pub is_wanting : Option (List ℕ) → List StoredRow → List StoredRow → Bool
is_wanting upto rows entries = list_any (λ r. wants_put upto rows entries r.rk) rows || list_any (λ e. wants_put upto rows entries e.rk) entries

-- the keys that want one
abbrev pub waiting : Option (List ℕ) → List StoredRow → List StoredRow → List (List ℕ)
waiting upto rows entries = filter (wants_put upto rows entries) (map (λ r. r.rk) rows ++ map (λ e. e.rk) entries)

-- ---- puts

abbrev pub props_of : Option StoredRow → List Prop
props_of None = []
props_of (Some row) = row.props

-- the put that a key with these properties in old wants
abbrev pub put_by : List ℕ → List Prop → Want → Option Put
put_by rk ps Nothing = None
put_by rk ps (Insert seen) = Some (put.Insert rk (stored (Copy seen) ps))
put_by rk ps (Replace seen own) = Some (put.Replace rk (stored (Copy seen) ps) own)
put_by rk ps (Delete own) = Some (put.Delete rk own)

abbrev pub put_at : Option (List ℕ) → List StoredRow → List StoredRow → List ℕ → Option Put
put_at upto rows entries rk = put_by rk (props_of (row_in rows rk)) (want_at upto rows entries rk)

-- a tag that a copy is to keep is one
abbrev pub KeepsTag : Want → Type 0
KeepsTag (Insert seen) = IsTag seen
KeepsTag (Replace seen own) = IsTag seen
KeepsTag want = Unit {0}

-- the put is the one that its key wants
abbrev pub IsWanted : Option (List ℕ) → List StoredRow → List StoredRow → Put → Type 0
IsWanted upto rows entries p = (put_at upto rows entries (row_key p) ≡ Some p) × KeepsTag (want_at upto rows entries (row_key p))

-- the puts of a chunk: each is the one that its key wants, every key that wants one has it, and their keys rise
pub record ArePuts (upto : Option (List ℕ)) (rows entries : List StoredRow) (puts : List Put) : Type 0 where
  pub rising : IsStrictlySortedBy (slice_cmp nat_cmp) (map row_key puts)
  pub each : AllByRecursion (IsWanted upto rows entries) puts
  pub all : (rk : List ℕ) → wants_put upto rows entries rk ≡ true → is_in rk (map row_key puts) ≡ true

-- a put behind others, if there is one
abbrev pub with_put : List Put → Option Put → List Put
with_put puts None = puts
with_put puts (Some p) = puts ++ p ∷ []
