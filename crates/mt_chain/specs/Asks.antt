-- A store call as a value: what may be asked, and what an answer says of the store.
use Rattle.std.specs.Prelude.{◌≡◌, ℕ, ◌<◌, Bool, true, false, IsTrue, IfSome, length, Result, Ok, Err}
use Rattle.mt_chain.specs.declared.ask.Ask.{Ask}
use Rattle.mt_chain.specs.declared.ask.Ask.TheVariants as ask
use Rattle.mt_chain.specs.declared.ask.StoreReply.{StoreReply}
use Rattle.mt_chain.specs.declared.ask.StoreReply.TheVariants as reply
use Rattle.mt_chain.specs.declared.ask.CallFault.{CallFault}
use Rattle.mt_chain.specs.declared.ask.CallFault.TheVariants.{Failed, NoMemory}
use Rattle.mt_chain.specs.Rows.{is_past}
use Rattle.mt_chain.specs.Puts.{CanApply}
use Rattle.mt_chain.specs.StoreCall.{Contents, Done, UnmetAt, SealedOff, HasRoom, judge, CanQuery, IsFound, FitsQuery, IsNext, sealed_of}
use Rattle.mt_chain.specs.Store.{Store, Onward, FaultsBy, Counted, Early, Same}

-- what may be asked of a store
abbrev pub CanAsk : Ask → Type 0
CanAsk (ask.Query q) = CanQuery q
CanAsk (ask.Apply pk puts) = CanApply puts
CanAsk (ask.Next at) = Unit {0}
CanAsk ask.Seal = Unit {0}

-- the reply is of a kind that a store gives to the call, and what it has whatever the store tells
abbrev pub FitsAsk : Ask → StoreReply → Type 0
FitsAsk (ask.Query q) (reply.Found found) = FitsQuery q found
FitsAsk (ask.Apply pk puts) (reply.Applied tags) = length tags ≡ length puts
FitsAsk (ask.Apply pk puts) (reply.Unmet index) = index < length puts
FitsAsk (ask.Apply pk puts) reply.SealedOff = Unit {0}
FitsAsk (ask.Next at) (reply.Next next) = IfSome next.pk (λ pk. IsTrue (is_past at pk))
FitsAsk ask.Seal reply.SealDone = Unit {0}
FitsAsk a r = ⊥

-- what the reply of store `store` says of its contents before and after the call
abbrev pub Means : ℕ → Ask → StoreReply → Contents → Contents → Type 0
Means store (ask.Query q) (reply.Found found) before after = (after ≡ before) × IsFound q found before
Means store (ask.Apply pk puts) (reply.Applied tags) before after = (judge store before pk puts ≡ Done after tags) × HasRoom puts before
Means store (ask.Apply pk puts) (reply.Unmet index) before after = (judge store before pk puts ≡ UnmetAt index) × (after ≡ before) × HasRoom puts before
Means store (ask.Apply pk puts) reply.SealedOff before after = (judge store before pk puts ≡ SealedOff) × (after ≡ before) × HasRoom puts before
Means store (ask.Next at) (reply.Next next) before after = (after ≡ before) × IsNext at next.pk before.rows × (next.sealed ≡ before.sealed)
Means store ask.Seal reply.SealDone before after = after ≡ sealed_of before
Means store a r before after = ⊥

-- the call failed
abbrev pub has_failed : Result StoreReply CallFault → Bool
has_failed (Err Failed) = true
has_failed r = false

-- what comes of a call: a reply that fits, or a fault that changed nothing
abbrev pub CallShows : Ask → Result StoreReply CallFault → Store → Store → Type 0
CallShows a (Ok r) s t = Early s × FitsAsk a r × Onward (Means s.number a r) s.told t.told
CallShows a (Err Failed) s t = Onward Same s.told t.told
CallShows a (Err NoMemory) s t = Onward Same s.told t.told

pub record Calls (s : Store) (a : Ask) (r : Result StoreReply CallFault) (t : Store) : Type 0 where
  pub counted : Counted s t
  pub faults : FaultsBy (has_failed r) s t
  pub shows : CallShows a r s t
