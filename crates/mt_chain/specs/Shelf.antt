-- A depot as contracts see it: the stores that it has, and those that are out.
use Rattle.std.specs.Prelude.{◌≡◌, ◌≢◌, ℕ, ◌+◌, ◌-◌, ◌^◌, ◌≤◌, min, Bool, true, false, Option, Some, None, Result, Ok, Err, IfSome, if◌then◌else◌}
use Rattle.mt_chain.specs.declared.depot.DepotFault.{DepotFault}
use Rattle.mt_chain.specs.declared.depot.DepotFault.TheVariants.{Failed, NoMemory}
use Rattle.mt_chain.specs.StoreCall.{Contents, IsContents}
use Rattle.mt_chain.specs.Store.{Store, Rose}

-- whether the depot tells, what it tells of the store of each number, which stores are out, and its count of faults
pub record Shelf : Type 0 where
  pub tells : Bool
  pub told : ℕ → Option Contents
  pub out : ℕ → Bool
  pub faults : ℕ

-- only the store of that number may differ
pub record SameBeside (n : ℕ) (s t : Shelf) : Type 0 where
  pub tells : t.tells ≡ s.tells
  pub told : (m : ℕ) → m ≢ n → t.told m ≡ s.told m
  pub out : (m : ℕ) → m ≢ n → t.out m ≡ s.out m

-- a store was handed out: it has that number, no faults yet, and what the depot told of it
pub record HandedOut (s : Shelf) (n : ℕ) (k : Store) (t : Shelf) : Type 0 where
  pub beside : SameBeside n s t
  pub was_in : s.out n ≡ false
  pub out : t.out n ≡ true
  pub faults : t.faults ≡ s.faults
  pub number : k.number ≡ n
  pub clean : k.faults ≡ 0
  pub told : IfSome (s.told n) (λ c. k.told ≡ Some c)
  pub contents : IfSome k.told IsContents

-- nothing was handed out
pub record NotHandedOut (s t : Shelf) : Type 0 where
  pub tells : t.tells ≡ s.tells
  pub told : (m : ℕ) → t.told m ≡ s.told m
  pub out : (m : ℕ) → t.out m ≡ s.out m
  pub faults : s.faults ≤ t.faults

-- what comes of asking for a store, where `state` shows a keeper as a store; want of memory is no fault
abbrev pub Opens : {K : Type 0} → (K → Store) → Shelf → ℕ → Result K DepotFault → Shelf → Type 0
Opens state s n (Ok k) t = HandedOut s n (state k) t
Opens state s n (Err Failed) t = NotHandedOut s t × Rose s.faults t.faults
Opens state s n (Err NoMemory) t = NotHandedOut s t × (t.faults ≡ s.faults)

-- a store came back: the depot's count grew by the store's
pub record TakesBack (s : Shelf) (k : Store) (t : Shelf) : Type 0 where
  pub beside : SameBeside k.number s t
  pub in_again : t.out k.number ≡ false
  pub told : t.told k.number ≡ (if s.tells then k.told else None)
  pub faults : t.faults ≡ min (s.faults + k.faults) (2 ^ 64 - 1)
