-- A keeper as contracts see it, and what each of its calls does.
use Rattle.std.specs.Prelude.{◌≡◌, ℕ, ◌+◌, ◌-◌, ◌^◌, ◌≤◌, ◌<◌, min, Bool, true, false, IsTrue, List, length, Option, Some, None, Result, Ok, Err, IfSome}
use Rattle.mt_model.specs.declared.tag.Tag.{Tag}
use Rattle.mt_chain.specs.declared.row.Put.{Put}
use Rattle.mt_chain.specs.declared.query.PkFrom.{PkFrom}
use Rattle.mt_chain.specs.declared.query.RangeQuery.{RangeQuery}
use Rattle.mt_chain.specs.declared.query.Found.{Found}
use Rattle.mt_chain.specs.declared.query.Next.{Next}
use Rattle.mt_chain.specs.declared.keeper.KeepFault.{KeepFault}
use Rattle.mt_chain.specs.declared.keeper.KeepFault.TheVariants.{Unmet, Sealed, Failed, NoMemory}
use Rattle.mt_chain.specs.Rows.{is_past}
use Rattle.mt_chain.specs.StoreCall.{Contents, IsContents, Done, UnmetAt, SealedOff, HasRoom, judge, IsFound, FitsQuery, IsNext, sealed_of}

-- a keeper: its number, what it tells of its contents, and its counts of calls and of faults
pub record Store : Type 0 where
  pub number : ℕ
  pub told : Option Contents
  pub calls : ℕ
  pub faults : ℕ

-- where it tells afterwards it told before, and this relates the two
abbrev pub Onward : (Contents → Contents → Type 0) → Option Contents → Option Contents → Type 0
Onward P before None = Unit {0}
Onward P None (Some after) = ⊥
Onward P (Some before) (Some after) = P before after

-- a count rose, or stands at its end
abbrev pub Rose : ℕ → ℕ → Type 0
Rose before now = min (before + 1) (2 ^ 64 - 1) ≤ now

-- one call was made
pub record Counted (s t : Store) : Type 0 where
  pub number : t.number ≡ s.number
  pub calls : t.calls ≡ min (s.calls + 1) (2 ^ 64 - 1)
  pub grew : s.calls ≤ t.calls
  pub faults : s.faults ≤ t.faults
  pub contents : IfSome t.told IsContents

-- the call failed
abbrev pub has_failed : {A : Type 0} → Result A KeepFault → Bool
has_failed (Err Failed) = true
has_failed r = false

-- the count of faults rises in a call that failed, and in no other
abbrev pub FaultsBy : Bool → Store → Store → Type 0
FaultsBy true s t = Rose s.faults t.faults
FaultsBy false s t = t.faults ≡ s.faults

-- a call is answered, or refused by what the store holds, only before call 2^62
abbrev pub Early : Store → Type 0
Early s = s.calls + 1 < 2 ^ 62

abbrev pub Same : Contents → Contents → Type 0
Same before after = after ≡ before

-- what an answer of `apply` says of the contents; puts that might pass the counter's end are not judged
abbrev pub Judged : ℕ → List ℕ → List Put → Result (List Tag) KeepFault → Contents → Contents → Type 0
Judged store pk puts (Ok tags) before after = (judge store before pk puts ≡ Done after tags) × HasRoom puts before
Judged store pk puts (Err (Unmet index)) before after = (judge store before pk puts ≡ UnmetAt index) × (after ≡ before) × HasRoom puts before
Judged store pk puts (Err Sealed) before after = (judge store before pk puts ≡ SealedOff) × (after ≡ before) × HasRoom puts before
Judged store pk puts (Err Failed) before after = after ≡ before
Judged store pk puts (Err NoMemory) before after = after ≡ before

-- what it says whether the store tells or not
abbrev pub ApplyShows : List Put → Result (List Tag) KeepFault → Store → Store → Type 0
ApplyShows puts (Ok tags) s t = Early s × (length tags ≡ length puts)
ApplyShows puts (Err (Unmet index)) s t = Early s × (index < length puts)
ApplyShows puts (Err Sealed) s t = Early s
ApplyShows puts (Err Failed) s t = Unit {0}
ApplyShows puts (Err NoMemory) s t = Unit {0}

pub record Applies (s : Store) (pk : List ℕ) (puts : List Put) (r : Result (List Tag) KeepFault) (t : Store) : Type 0 where
  pub counted : Counted s t
  pub faults : FaultsBy (has_failed r) s t
  pub shows : ApplyShows puts r s t
  pub judged : Onward (Judged s.number pk puts r) s.told t.told

-- an answer that is only a fault of the store or want of memory
abbrev pub FaultShows : KeepFault → Store → Store → Type 0
FaultShows (Unmet index) s t = ⊥
FaultShows Sealed s t = ⊥
FaultShows Failed s t = Onward Same s.told t.told
FaultShows NoMemory s t = Onward Same s.told t.told

abbrev pub Queried : RangeQuery → Result Found KeepFault → Store → Store → Type 0
Queried q (Ok found) s t = Early s × FitsQuery q found × Onward (λ before after. (after ≡ before) × IsFound q found before) s.told t.told
Queried q (Err fault) s t = FaultShows fault s t

pub record Queries (s : Store) (q : RangeQuery) (r : Result Found KeepFault) (t : Store) : Type 0 where
  pub counted : Counted s t
  pub faults : FaultsBy (has_failed r) s t
  pub queried : Queried q r s t

abbrev pub NextShows : PkFrom → Result Next KeepFault → Store → Store → Type 0
NextShows at (Ok next) s t = Early s × IfSome next.pk (λ pk. IsTrue (is_past at pk))
    × Onward (λ before after. (after ≡ before) × IsNext at next.pk before.rows × (next.sealed ≡ before.sealed)) s.told t.told
NextShows at (Err fault) s t = FaultShows fault s t

pub record Nexts (s : Store) (at : PkFrom) (r : Result Next KeepFault) (t : Store) : Type 0 where
  pub counted : Counted s t
  pub faults : FaultsBy (has_failed r) s t
  pub next : NextShows at r s t

abbrev pub SealShows : Result (Unit {0}) KeepFault → Store → Store → Type 0
SealShows (Ok u) s t = Early s × Onward (λ before after. after ≡ sealed_of before) s.told t.told
SealShows (Err fault) s t = FaultShows fault s t

pub record Seals (s : Store) (r : Result (Unit {0}) KeepFault) (t : Store) : Type 0 where
  pub counted : Counted s t
  pub faults : FaultsBy (has_failed r) s t
  pub seals : SealShows r s t
