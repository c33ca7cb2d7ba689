-- What a connection of one caller is answered over a history, in which others may have entries too.
use Rattle.std.specs.Prelude.{◌≡◌, ◌≢◌, ◌⊎◌, ℕ, ◌+◌, ◌-◌, ◌≤◌, true, false, not, All, List, [], ◌∷◌, take, drop, length, Option, Some, None, IfSome}
use Rattle.std.specs.List.{list_any, slice_range}
use Rattle.mt_model.specs.declared.tag.Tag.{Tag}
use Rattle.mt_chain.specs.declared.op.Op.{Op}
use Rattle.mt_chain.specs.Store.{Rose}
use Rattle.mt_chain.specs.Table.{Table}
use Rattle.mt_history.specs.declared.entry.What.TheVariants as what
use Rattle.mt_history.specs.declared.entry.Entry.{Entry}
use Rattle.mt_history.specs.Kept.{Kept, has_room}
use Rattle.mt_history.specs.Window.{Window, replay}
use Rattle.mt_history.specs.Replies.{Replies}
use Rattle.mt_world.specs.Moves.{NewEntry}
use Rattle.mt_world.specs.WholeCalls.{Mark}
use Rattle.mt_front.specs.Items.{Item, IsRendered, is_full, is_fault, need_of}

-- ---- places of a history

-- a history, with the table before its first entry, and its limit of entries
pub record Past : Type 0 where
  pub window : Window
  pub limit : ℕ

-- the place behind the last entry
abbrev pub past_end : Past → ℕ
past_end past = past.window.first + length past.window.entries

-- the entries before a place
abbrev pub entries_before : Past → ℕ → List Entry
entries_before past place = take (place - past.window.first) past.window.entries

-- the entries from a place on
abbrev pub entries_from : Past → ℕ → List Entry
entries_from past place = drop (place - past.window.first) past.window.entries

-- the entries from one place on and before another
abbrev pub entries_between : Past → ℕ → ℕ → List Entry
entries_between past from place = slice_range past.window.entries (from - past.window.first) (place - past.window.first)

-- the history as a turn found it that found its end at that place
abbrev pub found : Past → ℕ → Kept
found past place = record { first = past.window.first; entries = entries_before past place; limit = past.limit; spare = 0 }

-- the reference table then
abbrev pub table_found : Past → ℕ → Table
table_found past place = replay past.window.base (entries_before past place)

-- none of these entries is the caller's
abbrev pub NoneOf : ℕ → List Entry → Type 0
NoneOf c entries = All (λ e. e.caller ≢ c) entries

-- ---- marks

-- the next entry is the caller's, and says this; or there is none to look for
abbrev pub StandsFirst : ℕ → Option NewEntry → List Entry → Type 0
StandsFirst c None entries = Unit {0}
StandsFirst c (Some e) entries = (number : ℕ) × (rest : List Entry) × (entries ≡ (record { caller = c; number = number; what = e.what }) ∷ rest)

-- the reply to an entry is the reference table's as the turn found it
abbrev pub RepliesFound : Past → ℕ → Option NewEntry → Type 0
RepliesFound past place None = Unit {0}
RepliesFound past place (Some e) = Replies e.what (table_found past place) e.reply

-- from a place on the mark is the caller's next: no other entry of the caller's lies between, its own stands there, and its reply is the reference table's, where the stores tell (the premise T)
pub record IsNextMark (c : ℕ) (T : Type 0) (past : Past) (from : ℕ) (m : Mark) : Type 0 where
  pub order : from ≤ m.place
  pub within : m.place ≤ past_end past
  pub between : NoneOf c (entries_between past from m.place)
  pub stands : StandsFirst c m.entry (entries_from past m.place)
  pub replies : T → RepliesFound past m.place m.entry

-- the place behind a mark: behind its entry, where it has one
abbrev pub place_behind : ℕ → Option NewEntry → ℕ
place_behind place None = place
place_behind place (Some e) = place + 1

-- the place behind these marks, or the place from which they are looked for
abbrev pub behind : ℕ → List Mark → ℕ
behind from [] = from
behind from (m ∷ marks) = behind (place_behind m.place m.entry) marks

-- from a place on each mark is the caller's next after the one before it
abbrev pub AreNextMarks : ℕ → Type 0 → Past → ℕ → List Mark → Type 0
AreNextMarks c T past from [] = Unit {0}
AreNextMarks c T past from (m ∷ marks) = IsNextMark c T past from m × AreNextMarks c T past (place_behind m.place m.entry) marks

-- ---- items

-- it came out that the history is full exactly where a turn of it found no room for what it needs
abbrev pub FoundRoom : Past → Item → Type 0
FoundRoom past i = IfSome (need_of i.asks) (λ need. is_full i.outcome ≡ list_any (λ m. not (has_room (found past m.place) need)) i.marks)

-- from a place on the item's marks are the caller's next
pub record FitsAt (c : ℕ) (T : Type 0) (past : Past) (from : ℕ) (i : Item) : Type 0 where
  pub marks : AreNextMarks c T past from i.marks
  pub room : FoundRoom past i

-- an item that broke off may have left this: anything but a batch that was applied
abbrev pub MayStay : Option NewEntry → Type 0
MayStay None = Unit {0}
MayStay (Some e) = (batch : List Op) (tags : List Tag) → e.what ≢ what.Batch batch tags

-- the last marks are those of an item that broke off, if any, and the caller has no entry behind them
pub record BreaksOff (c : ℕ) (T : Type 0) (past : Past) (from : ℕ) (broken : List Mark) : Type 0 where
  pub marks : AreNextMarks c T past from broken
  pub no_batch : All (λ m. MayStay m.entry) broken
  pub behind_them : NoneOf c (entries_from past (behind from broken))

-- the items fit the history one after the other from a place on, and then what an item left that broke off
abbrev pub FitsFrom : ℕ → Type 0 → Past → ℕ → List Item → List Mark → Type 0
FitsFrom c T past from [] broken = BreaksOff c T past from broken
FitsFrom c T past from (i ∷ items) broken = FitsAt c T past from i × FitsFrom c T past (behind from i.marks) items broken

-- what a connection of caller c is answered: each reply shows what its item's entries reply, and these are the caller's entries of the history from that place on
pub record FitsConnection (c : ℕ) (T : Type 0) (past : Past) (from : ℕ) (items : List Item) (broken : List Mark) : Type 0 where
  pub rendered : All IsRendered items
  pub fits : FitsFrom c T past from items broken

-- ---- causes

-- the two stores' counts of faults
pub record Counts : Type 0 where
  pub old_store : ℕ
  pub new_store : ℕ

-- neither count fell
pub record AtMost (s t : Counts) : Type 0 where
  pub old_store : s.old_store ≤ t.old_store
  pub new_store : s.new_store ≤ t.new_store

-- these were the counts before an item and after it, where nobody else's turn came between: one of them rose where it was answered that a store failed, and elsewhere neither did
pub record IsCaused (s : Counts) (i : Item) (t : Counts) : Type 0 where
  pub later : AtMost s t
  pub rose : is_fault i.outcome ≡ true → Rose s.old_store t.old_store ⊎ Rose s.new_store t.new_store
  pub still : is_fault i.outcome ≡ false → t ≡ s

-- so for each item, whose counts before it are those after the one before, up to the counts at the end
abbrev pub AreCaused : Counts → List Item → Counts → Type 0
AreCaused s [] t = t ≡ s
AreCaused s (i ∷ items) t = (m : Counts) × IsCaused s i m × AreCaused m items t

-- so up to an item that broke off with these marks, where one did, in whose turns a count may have risen
pub record AreCausedTo (s : Counts) (items : List Item) (broken : List Mark) (t : Counts) : Type 0 where
  pub at : Counts
  pub items_are : AreCaused s items at
  pub later : AtMost at t
  pub still : broken ≡ [] → t ≡ at
