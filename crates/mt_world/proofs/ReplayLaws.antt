-- Entries are replayed one after the other.
use Rattle.std.proofs.Common.{◌≡◌, ◌∙◌, ℕ, ◌+◌, ◌<◌, List, [], ◌∷◌, ◌++◌, length, take, get_or, nat_lt, false, ◌-◌, Some, None, if◌then◌else◌, arith, refl, sym, ap, subst, append_assoc, IsTrue}
use Rattle.std.specs.List.{slice_get}
use Rattle.std.proofs.lemmas.Bool.Decides.{nat_tests}
use Rattle.std.proofs.lemmas.List.{take_more}
use Rattle.std.proofs.lemmas.Option.{slice_get_within, get_or_from_slice_get}
use Rattle.mt_history.specs.Kept.{Kept, entry_at}
use Rattle.mt_chain.specs.Rows.{Rows, are_rising}
use Rattle.mt_chain.specs.Table.{Table, IsSameTable, table_of}
use Rattle.mt_history.specs.declared.entry.What.{What}
use Rattle.mt_history.specs.declared.entry.What.TheVariants as what
use Rattle.mt_history.specs.declared.entry.Entry.{Entry}
use Rattle.mt_history.specs.Window.{replay, after_entry, begun}
use Rattle.mt_chain.specs.Table.{rows_of}
use Rattle.mt_history.specs.Legal.{IsLegal, IsTrueAtEnd}
use Rattle.mt_history.proofs.WindowLaws.{replays_join}
use Rattle.mt_world.specs.Worlds.{WorldState, IsReplayed, IsWorld, window_of, table_now}
use Rattle.mt_world.specs.Replays.{Accepts, AllAccepted, IsAfter, IsReplay, LeavesRows, CountsRows}
use Rattle.mt_world.proofs.PairLaws.{map_pair}
use Rattle.mt_world.proofs.EntryLaws.{refusal_same, applied_same}

-- ---- one entry

accepts_same : (t u : Table) (w : What) → IsSameTable t u → Accepts t w → Accepts u w
accepts_same t u (what.Batch batch tags) same h = sym (refusal_same batch t u same) ∙ h
accepts_same t u (what.Refused batch) same h = tt
accepts_same t u (what.Query pk filter) same h = tt
accepts_same t u (what.Scan pk from upto filter) same h = tt
accepts_same t u (what.Gap from to) same h = tt
accepts_same t u what.Fault same h = tt

after_same : (t u : Table) (w : What) → IsSameTable t u → IsSameTable (after_entry t w) (after_entry u w)
after_same t u (what.Batch batch tags) same = applied_same batch tags t u same
after_same t u (what.Refused batch) same = same
after_same t u (what.Query pk filter) same = same
after_same t u (what.Scan pk from upto filter) same = same
after_same t u (what.Gap from to) same = same
after_same t u what.Fault same = same

pub replay_none : (rows : Rows) → IsTrue (are_rising rows) → IsReplay rows [] rows
replay_none rows rising = record { rising = rising; table = λ accepted key. refl }

pub replay_one : (base : Rows) (xs : List Entry) (e : Entry) (rows after : Rows) → IsReplay base xs rows → IsAfter rows e.what after → IsReplay base (xs ++ e ∷ []) after
replay_one base xs e rows after h one = record { rising = one.rising; table = table } where
  table : AllAccepted (table_of base) (xs ++ e ∷ []) → IsSameTable (table_of after) (replay (table_of base) (xs ++ e ∷ []))
  table accepted key =
      let same = h.table (λ before rest x is. accepted before (rest ++ e ∷ []) x (ap (λ es. es ++ e ∷ []) is ∙ append_assoc before (x ∷ rest) (e ∷ []))) in
      one.table (accepts_same (replay (table_of base) xs) (table_of rows) e.what (λ k. sym (same k)) (accepted xs [] e refl)) key
      ∙ after_same (table_of rows) (replay (table_of base) xs) e.what same key
      ∙ sym (ap (λ t. t key) (replays_join (table_of base) xs (e ∷ [])))

pub replay_next : (base : Rows) (entries : List Entry) (i : ℕ) (d : Entry) (rows after : Rows) → i < length entries → IsReplay base (take i entries) rows → IsAfter rows (get_or entries i d).what after → IsReplay base (take (i + 1) entries) after
replay_next base entries i d rows after l h one = subst (λ xs. IsReplay base xs after) (sym (take_more entries i d l)) (replay_one base (take i entries) (get_or entries i d) rows after h one)

-- the entry at a place of a history that begins at its first
entry_there : (h : Kept) (at : ℕ) → h.first ≡ 0 → entry_at h at ≡ slice_get h.entries at
entry_there h at whole = ap (λ first. if nat_lt at first then None else slice_get h.entries (at - first)) whole ∙ from_first where
  from_first : (if nat_lt at 0 then None else slice_get h.entries (at - 0)) ≡ slice_get h.entries at
  from_first = (let lt : nat_lt at 0 ≡ false = grind (arith, nat_tests) in let same : at - 0 ≡ at = omega arith in rw (lt, same) refl)

pub replay_at : (base : Rows) (h : Kept) (at : ℕ) (e : Entry) (rows after : Rows) → h.first ≡ 0 → entry_at h at ≡ Some e → IsReplay base (take at h.entries) rows → IsAfter rows e.what after → IsReplay base (take (at + 1) h.entries) after
replay_at base h at e rows after whole there so_far one =
    let found = sym (entry_there h at whole) ∙ there in
    replay_next base h.entries at e rows after (slice_get_within h.entries at e found) so_far (subst (λ (x : Entry). IsAfter rows x.what after) (sym (get_or_from_slice_get h.entries at e e found)) one)

-- ---- all entries

says_accepted : (w : WorldState) (before : List Entry) (said : What) → IsTrueAtEnd (begun (window_of w) before) said → Accepts (replay (table_of (rows_of w.base)) before) said
says_accepted w before (what.Batch batch tags) h = h.accepted
says_accepted w before (what.Refused batch) h = tt
says_accepted w before (what.Query pk filter) h = tt
says_accepted w before (what.Scan pk from upto filter) h = tt
says_accepted w before (what.Gap from to) h = tt
says_accepted w before what.Fault h = tt

-- no entry of a legal history is refused by the table at its place
legal_accepted : (w : WorldState) → IsLegal (window_of w) → AllAccepted (table_of (rows_of w.base)) w.history.entries
legal_accepted w legal before after e is = says_accepted w before e.what (legal before after e is).says

pub counted_rows : (w v : WorldState) (n : ℕ) → w ≡ v → IsWorld w → LeavesRows (rows_of w.base) w.history.entries n → CountsRows v n
counted_rows w v n view world leaves = subst (λ x. CountsRows x n) view
    (map_pair w (IsReplayed w) (λ p. (rows : Rows) × IsTrue (are_rising rows) × IsSameTable (table_of rows) (table_now w) × (n ≡ length rows)) (λ p h.
    (leaves.0, leaves.1.rising, leaves.1.table (legal_accepted w h.legal), leaves.2)) world.replayed)
