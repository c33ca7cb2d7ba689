-- Two stores that are opened as one table.
use Rattle.std.specs.Prelude.{◌≡◌, ◌⊎◌, ℕ, ◌≤◌, Bool, true, false, ◌&&◌, ◌==◌, IsTrue, List, length, Result, Ok, Err, IfOk, IfSome}
use Rattle.mt_model.specs.declared.entity.Entity.{Entity}
use Rattle.mt_model.specs.declared.key.Key.{Key}
use Rattle.mt_chain.specs.Rows.{are_rising}
use Rattle.mt_chain.specs.Table.{IsListing, rows_of}
use Rattle.mt_chain.specs.StoreCall.{Contents, IsContents}
use Rattle.mt_chain.specs.Store.{Store, Onward, Rose, FaultsBy}
use Rattle.mt_meta.specs.Logical.{Pair, ForPair}
use Rattle.mt_meta.specs.Sound.{IsSound}
use Rattle.mt_meta.specs.Steps.{logical_table}
use Rattle.mt_open.specs.declared.damage.Rule.{Rule}
use Rattle.mt_open.specs.declared.damage.Damage.{Damage}
use Rattle.mt_open.specs.declared.reading.ReadFault.{ReadFault}
use Rattle.mt_open.specs.declared.reading.ReadFault.TheVariants as read
use Rattle.mt_open.specs.declared.opening.OpenedPair.{OpenedPair}
use Rattle.mt_open.specs.declared.opening.OpenFault.{OpenFault}
use Rattle.mt_open.specs.declared.opening.OpenFault.TheVariants.{Damaged, StoreFault, NoMemory}
use Rattle.mt_open.specs.Held.{Held}
use Rattle.mt_open.specs.Reading.{has_failed, Passed, AsBefore}
use Rattle.mt_open.specs.Damage.{rule_number, IsDamage}

-- calls were made of a store: its number and its contents stay, and no count falls
pub record Stays (s t : Store) : Type 0 where
  pub number : t.number ≡ s.number
  pub calls : s.calls ≤ t.calls
  pub faults : s.faults ≤ t.faults
  pub contents : AsBefore s t

-- a store failed
abbrev pub is_store_fault : Result (List Entity) OpenFault → Bool
is_store_fault (Err StoreFault) = true
is_store_fault r = false

-- where a store failed the count of faults of one of the two rose, and that of the other stayed; else both stayed
abbrev pub OpenFaults : Bool → Store → Store → Store → Store → Type 0
OpenFaults true s s' t t' = (FaultsBy true s t × FaultsBy false s' t') ⊎ (FaultsBy false s t × FaultsBy true s' t')
OpenFaults false s s' t t' = FaultsBy false s t × FaultsBy false s' t'

-- where two stores are first damaged, by the number of the rule
abbrev pub IsDamagedAt : Pair → ℕ → Key → ℕ → Type 0
IsDamagedAt p store key number = (r : Rule) × (number ≡ rule_number r) × IsDamage p (record { store = store; key = key; rule = r })

-- the logical table of a sound pair, or the first damage of one that is not; want of memory is free
abbrev pub Finds : Pair → Result (List Entity) OpenFault → Type 0
Finds p (Ok es) = IsSound p × IsListing es (logical_table p)
Finds p (Err (Damaged store key number)) = IsDamagedAt p store key number
Finds p (Err StoreFault) = ⊥
Finds p (Err NoMemory) = Unit {0}

-- what is found of the pair, where both stores tell
abbrev pub OpenShows : Result (List Entity) OpenFault → Store → Store → Type 0
OpenShows (Err StoreFault) t t' = Unit {0}
OpenShows r t t' = ForPair t.number t'.number t.told t'.told (λ p. Finds p r)

-- both stores were called before a table or a damage was told
abbrev pub AreCalled : Result (List Entity) OpenFault → Store → Store → Store → Store → Type 0
AreCalled (Ok es) s s' t t' = Rose s.calls t.calls × Rose s'.calls t'.calls
AreCalled (Err (Damaged store key number)) s s' t t' = Rose s.calls t.calls × Rose s'.calls t'.calls
AreCalled (Err StoreFault) s s' t t' = Unit {0}
AreCalled (Err NoMemory) s s' t t' = Unit {0}

-- what comes of opening two stores
pub record OpensPair (s s' : Store) (r : Result (List Entity) OpenFault) (t t' : Store) : Type 0 where
  pub old_stays : Stays s t
  pub new_stays : Stays s' t'
  pub faults : OpenFaults (is_store_fault r) s s' t t'
  pub called : AreCalled r s s' t t'
  pub rising : IfOk r (λ es. IsTrue (are_rising (rows_of es)))
  -- the keys of what a store tells rise
  pub contents : IfOk r (λ es. IfSome t.told IsContents × IfSome t'.told IsContents)
  pub shows : OpenShows r t t'

-- ---- and whether old has nothing left

-- sealed, and without a row
abbrev pub is_emptied : Contents → Bool
is_emptied c = c.sealed && (length c.rows == 0)

-- the rows that were opened, or why they were not
abbrev pub table_opened : Result OpenedPair OpenFault → Result (List Entity) OpenFault
table_opened (Ok opened) = Ok opened.table
table_opened (Err fault) = Err fault

-- where old tells, it was told whether it is sealed and has no row
abbrev pub TellsEmptied : Result OpenedPair OpenFault → Store → Type 0
TellsEmptied (Ok opened) t = IfSome t.told (λ c. opened.is_old_emptied ≡ is_emptied c)
TellsEmptied (Err fault) t = Unit {0}

-- what comes of opening two stores, where that is told too
pub record OpensStores (s s' : Store) (r : Result OpenedPair OpenFault) (t t' : Store) : Type 0 where
  pub opens : OpensPair s s' (table_opened r) t t'
  pub emptied : TellsEmptied r t

-- ---- one store

-- a store as it was read, with its number, or why it was not
abbrev pub HoldShows : Result Held ReadFault → Store → Store → Type 0
HoldShows (Ok held) s t = (held.number ≡ t.number) × Rose s.calls t.calls × Onward (λ before after. (after ≡ before) × (held.contents ≡ before)) s.told t.told × IfSome t.told IsContents
HoldShows (Err fault) s t = AsBefore s t

-- what comes of reading a store with its number
pub record HoldsStore (s : Store) (r : Result Held ReadFault) (t : Store) : Type 0 where
  pub passed : Passed (has_failed r) s t
  pub shows : HoldShows r s t

abbrev pub fault_of : ReadFault → OpenFault
fault_of read.Failed = StoreFault
fault_of read.NoMemory = NoMemory

abbrev pub damaged : Damage → OpenFault
damaged d = Damaged d.store d.key (rule_number d.rule)
