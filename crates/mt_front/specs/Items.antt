-- The items of a connection: what each asks, how it came out, and the reply that shows what its entries in the history reply.
use Rattle.std.specs.Prelude.{◌≡◌, ℕ, ◌≤◌, Bool, true, false, not, All, List, [], ◌∷◌, ◌++◌, length, filter, Option, Some, None, Ok, Err}
use Rattle.std.specs.List.{flat_map}
use Rattle.std.specs.Option.{option_to_list}
use Rattle.mt_model.specs.declared.tag.Tag.{Tag}
use Rattle.mt_model.specs.declared.entity.Entity.{Entity}
use Rattle.mt_chain.specs.declared.op.Op.{Op}
use Rattle.mt_chain.specs.declared.op.Refusal.{Refusal}
use Rattle.mt_chain.specs.Batch.{batch_weight}
use Rattle.mt_filter.specs.declared.filter.Filter.{Filter}
use Rattle.mt_history.specs.Weight.{need_of_query, need_of_page}
use Rattle.mt_history.specs.declared.entry.What.TheVariants as what
use Rattle.mt_history.specs.declared.model.Reply.TheVariants as reply
use Rattle.mt_http_out.specs.declared.reply.Reply.{Reply}
use Rattle.mt_http_out.specs.Rendering.{bytes_of}
use Rattle.mt_mime.specs.Replies.{Answers}
use Rattle.mt_front.specs.declared.asks.Asked.{Asked}
use Rattle.mt_front.specs.declared.asks.Asked.TheVariants as asked
use Rattle.mt_front.specs.Writes.{Writing}
use Rattle.mt_front.specs.declared.services.Machine.TheVariants.{Migrator, Cleaner}
use Rattle.mt_front.specs.declared.services.Admin.{Admin as Order}
use Rattle.mt_front.specs.declared.services.Admin.TheVariants.{Steps, Seal, Status}
use Rattle.mt_front.specs.declared.services.Report.{Report}
use Rattle.mt_front.specs.declared.services.Report.TheVariants as report
use Rattle.mt_front.specs.Services.{need_of_order}
use Rattle.mt_front.specs.Reports.{report_reply}
use Rattle.mt_front.specs.declared.reads.Read.{Read}
use Rattle.mt_front.specs.Reads.{ShowsRows}
use Rattle.mt_front.specs.declared.pages.PageRead.{PageRead}
use Rattle.mt_front.specs.PageReplies.{ShowsPage}
use Rattle.mt_front.specs.PageUnits.{LeavesPage}
use Rattle.mt_front.specs.Refusals.{bad_reply, part_reply, refusal_reply, fault_reply, full_reply}
use Rattle.mt_scan.specs.declared.unit.Page.{Page}
use Rattle.mt_world.specs.declared.actor.Answer.TheVariants as answer
use Rattle.mt_world.specs.declared.actor.TurnFault.TheVariants.{StoreFault, HistoryFull}
use Rattle.mt_world.specs.Moves.{NewEntry, fault_entry}
use Rattle.mt_world.specs.WholeCalls.{Mark}

-- how an item came out: refused before anything was tried; done, with the tags of its rows; refused by the table; with the rows that were found; with a page; with what the service reports; a store failed; the history is full
pub data ItemOutcome : Type 0 where
  Bad : ItemOutcome
  Done : List Tag → ItemOutcome
  Refused : Refusal → ItemOutcome
  Found : List Entity → ItemOutcome
  Paged : Page → ItemOutcome
  Reported : Report → ItemOutcome
  Fault : ItemOutcome
  Full : ItemOutcome

-- what is asked, whether the connection goes on behind it, how it came out, the bytes of its reply, and a mark for each turn: where it found the history's end, and what it left there
pub record Item : Type 0 where
  pub asks : Asked
  pub keep : Bool
  pub outcome : ItemOutcome
  pub reply : List ℕ
  pub marks : List Mark

-- it was answered that the history is full
abbrev pub is_full : ItemOutcome → Bool
is_full Bad = false
is_full (Done tags) = false
is_full (Refused refusal) = false
is_full (Found rows) = false
is_full (Paged page) = false
is_full (Reported told) = false
is_full Fault = false
is_full Full = true

-- it was answered that a store failed
abbrev pub is_fault : ItemOutcome → Bool
is_fault Bad = false
is_fault (Done tags) = false
is_fault (Refused refusal) = false
is_fault (Found rows) = false
is_fault (Paged page) = false
is_fault (Reported told) = false
is_fault Fault = true
is_fault Full = false

-- how many items were answered that a store failed
abbrev pub faults_of : List Item → ℕ
faults_of items = length (filter (λ i. is_fault i.outcome) items)

-- the room in the history that each turn of what is asked needs; what is refused takes no turn, nor does a status
abbrev pub need_of : Asked → Option ℕ
need_of (asked.Write w) = Some (batch_weight w.ops)
need_of (asked.Read q) = Some (need_of_query q.pk q.filter)
need_of (asked.Page q) = Some (need_of_page q.filter)
need_of (asked.Admin order) = need_of_order order
need_of (asked.Refused r) = None
need_of (asked.RefusedPart r) = None

-- ---- replies

-- the entry that a batch leaves which was applied
abbrev pub applied_entry : List Op → List Tag → NewEntry
applied_entry batch tags = record { what = what.Batch batch tags; reply = reply.Written tags }

-- the entry that a batch leaves which the table refused
abbrev pub refused_entry : List Op → Refusal → NewEntry
refused_entry batch refusal = record { what = what.Refused batch; reply = reply.Refused refusal }

-- the entry that a query leaves which found these rows
abbrev pub found_entry : List ℕ → Option Filter → List Entity → NewEntry
found_entry pk filter rows = record { what = what.Query pk filter; reply = reply.Rows rows }

-- the entries that turns left
abbrev pub entries_of : List Mark → List NewEntry
entries_of marks = flat_map (λ m. option_to_list m.entry) marks

-- the bytes are the reply to operations that were done, whose rows have these tags
abbrev pub IsDoneReply : Writing → List Tag → Bool → List ℕ → Type 0
IsDoneReply w tags close bytes = (r : Reply) × Answers w.change_set close w.ops w.echoes tags r × (bytes ≡ bytes_of r)

-- operations came out so, with these marks; and the bytes are the reply, which shows what their entries reply
abbrev pub RendersWrite : Writing → ItemOutcome → List Mark → Bool → List ℕ → Type 0
RendersWrite w Bad marks close bytes = ⊥
RendersWrite w (Done tags) marks close bytes = (entries_of marks ≡ applied_entry w.ops tags ∷ []) × IsDoneReply w tags close bytes
RendersWrite w (Refused refusal) marks close bytes = (entries_of marks ≡ refused_entry w.ops refusal ∷ []) × (bytes ≡ bytes_of (refusal_reply w.change_set refusal close))
RendersWrite w (Found rows) marks close bytes = ⊥
RendersWrite w (Paged page) marks close bytes = ⊥
RendersWrite w (Reported told) marks close bytes = ⊥
RendersWrite w Fault marks close bytes = (entries_of marks ≡ fault_entry ∷ []) × (bytes ≡ bytes_of (fault_reply close))
RendersWrite w Full marks close bytes = (entries_of marks ≡ []) × (bytes ≡ bytes_of (full_reply close))

-- the bytes are the reply that shows the rows which a read found
abbrev pub IsFoundReply : Read → List Entity → Bool → List ℕ → Type 0
IsFoundReply q rows close bytes = (r : Reply) × ShowsRows q.shape q.show rows close r × (bytes ≡ bytes_of r)

-- a read came out so, with these marks; and the bytes are the reply, which shows what their entry replies
abbrev pub RendersRead : Read → ItemOutcome → List Mark → Bool → List ℕ → Type 0
RendersRead q Bad marks close bytes = ⊥
RendersRead q (Done tags) marks close bytes = ⊥
RendersRead q (Refused refusal) marks close bytes = ⊥
RendersRead q (Found rows) marks close bytes = (entries_of marks ≡ found_entry q.pk q.filter rows ∷ []) × IsFoundReply q rows close bytes
RendersRead q (Paged page) marks close bytes = ⊥
RendersRead q (Reported told) marks close bytes = ⊥
RendersRead q Fault marks close bytes = (entries_of marks ≡ fault_entry ∷ []) × (bytes ≡ bytes_of (fault_reply close))
RendersRead q Full marks close bytes = (entries_of marks ≡ []) × (bytes ≡ bytes_of (full_reply close))

-- the bytes are the reply that shows a page
abbrev pub IsPageReply : PageRead → Page → Bool → List ℕ → Type 0
IsPageReply q page close bytes = (r : Reply) × ShowsPage q.show page close r × (bytes ≡ bytes_of r)

-- a page came out so, with these marks; and the bytes are the reply, which shows the rows that the entries of its units reply. Where a store failed or the history is full, the units before it have their entries
abbrev pub RendersPage : PageRead → ItemOutcome → List Mark → Bool → List ℕ → Type 0
RendersPage q Bad marks close bytes = ⊥
RendersPage q (Done tags) marks close bytes = ⊥
RendersPage q (Refused refusal) marks close bytes = ⊥
RendersPage q (Found rows) marks close bytes = ⊥
RendersPage q (Paged page) marks close bytes = LeavesPage q.filter q.top q.token (Ok (answer.Page page)) (entries_of marks) × IsPageReply q page close bytes
RendersPage q (Reported told) marks close bytes = ⊥
RendersPage q Fault marks close bytes = LeavesPage q.filter q.top q.token (Err StoreFault) (entries_of marks) × (bytes ≡ bytes_of (fault_reply close))
RendersPage q Full marks close bytes = LeavesPage q.filter q.top q.token (Err HistoryFull) (entries_of marks) × (bytes ≡ bytes_of (full_reply close))

-- what is reported of an order whose turns have these marks: as many turns of a machine as were taken, all that were asked for where it is not done, and of a cleaner what stopped it; a seal takes one turn, and a status none
abbrev pub Reports : Order → Report → List Mark → Type 0
Reports (Steps machine steps) (report.Stepped done taken) marks = (taken ≡ length marks) × (taken ≤ steps) × (done ≡ false → taken ≡ steps)
Reports (Steps Cleaner steps) report.NotSealed marks = length marks ≤ steps
Reports (Steps Cleaner steps) (report.NotMigrated pk) marks = length marks ≤ steps
Reports Seal report.Sealed marks = length marks ≡ 1
Reports Status (report.Status entries generation retired) marks = marks ≡ []
Reports order told marks = ⊥

-- an order came out so, with these marks; and the bytes are the reply. Only a store call that failed left an entry
abbrev pub RendersAdmin : Order → ItemOutcome → List Mark → Bool → List ℕ → Type 0
RendersAdmin order Bad marks close bytes = ⊥
RendersAdmin order (Done tags) marks close bytes = ⊥
RendersAdmin order (Refused refusal) marks close bytes = ⊥
RendersAdmin order (Found rows) marks close bytes = ⊥
RendersAdmin order (Paged page) marks close bytes = ⊥
RendersAdmin order (Reported told) marks close bytes = (entries_of marks ≡ []) × Reports order told marks × (bytes ≡ bytes_of (report_reply told close))
RendersAdmin order Fault marks close bytes = (entries_of marks ≡ fault_entry ∷ []) × (bytes ≡ bytes_of (fault_reply close))
RendersAdmin order Full marks close bytes = (entries_of marks ≡ []) × (bytes ≡ bytes_of (full_reply close))

-- what is refused took no turn, and the bytes are this reply
abbrev pub RendersBad : Reply → ItemOutcome → List Mark → List ℕ → Type 0
RendersBad r Bad marks bytes = (marks ≡ []) × (bytes ≡ bytes_of r)
RendersBad r (Done tags) marks bytes = ⊥
RendersBad r (Refused refusal) marks bytes = ⊥
RendersBad r (Found rows) marks bytes = ⊥
RendersBad r (Paged page) marks bytes = ⊥
RendersBad r (Reported told) marks bytes = ⊥
RendersBad r Fault marks bytes = ⊥
RendersBad r Full marks bytes = ⊥

-- what is asked came out so, with these marks; and the bytes are the reply, which ends the connection or not
abbrev pub Renders : Asked → ItemOutcome → List Mark → Bool → List ℕ → Type 0
Renders (asked.Write w) outcome marks close bytes = RendersWrite w outcome marks close bytes
Renders (asked.Read q) outcome marks close bytes = RendersRead q outcome marks close bytes
Renders (asked.Page q) outcome marks close bytes = RendersPage q outcome marks close bytes
Renders (asked.Admin order) outcome marks close bytes = RendersAdmin order outcome marks close bytes
Renders (asked.Refused r) outcome marks close bytes = RendersBad (bad_reply r close) outcome marks bytes
Renders (asked.RefusedPart r) outcome marks close bytes = RendersBad (part_reply r close) outcome marks bytes

-- the item's reply is that to what it asks, and ends the connection where it does not go on
abbrev pub IsRendered : Item → Type 0
IsRendered i = Renders i.asks i.outcome i.marks (not i.keep) i.reply

-- ---- the end of a connection

-- the connection goes on behind each
abbrev pub AllKeep : List Item → Type 0
AllKeep items = All (λ i. i.keep ≡ true) items

-- it goes on behind each but the last
pub record LastCloses (items : List Item) : Type 0 where
  pub before : List Item
  pub last : Item
  pub are : items ≡ before ++ last ∷ []
  pub keep : AllKeep before
  pub closes : last.keep ≡ false
