-- The migration's machines of a connection, and what each item does to the world and to them.
use Rattle.std.specs.Prelude.{◌≡◌, ℕ, true, false, List, [], ◌∷◌, length, Result, Ok, Err, if◌then◌else◌}
use Rattle.mt_meta.specs.declared.fact.Fact.{Fact}
use Rattle.mt_meta.specs.Facts.{IsPlain}
use Rattle.mt_migrate.specs.declared.state.State.{State as MoverState}
use Rattle.mt_migrate.specs.Moves.{begin}
use Rattle.mt_clean.specs.declared.state.State.{State as CleanerState}
use Rattle.mt_clean.specs.declared.state.State.TheVariants.{Walk}
use Rattle.mt_world.specs.declared.actor.Request.{Request}
use Rattle.mt_world.specs.declared.actor.Request.TheVariants as request
use Rattle.mt_world.specs.declared.actor.Actor.{Actor}
use Rattle.mt_world.specs.declared.actor.Actor.TheVariants as actor
use Rattle.mt_world.specs.declared.actor.ClientCall.{ClientCall}
use Rattle.mt_world.specs.declared.actor.Answer.{Answer}
use Rattle.mt_world.specs.declared.actor.Answer.TheVariants as answer
use Rattle.mt_world.specs.declared.actor.Progress.{Progress}
use Rattle.mt_world.specs.declared.actor.Progress.TheVariants.{More, Done}
use Rattle.mt_world.specs.declared.actor.Stepped.{Stepped as Turns}
use Rattle.mt_world.specs.declared.actor.TurnFault.{TurnFault}
use Rattle.mt_world.specs.declared.actor.TurnFault.TheVariants.{StoreFault, HistoryFull, NoMemory}
use Rattle.mt_world.specs.Worlds.{WorldState, ForPair, Tells, IsTrueOf}
use Rattle.mt_world.specs.Moves.{CanStep, IsCallOf}
use Rattle.mt_world.specs.Turns.{Knows}
use Rattle.mt_world.specs.Sealing.{SealsOld}
use Rattle.mt_world.specs.WholeCalls.{EndsCall, TakesSteps, is_at_end}
use Rattle.mt_front.specs.declared.asks.Asked.{Asked}
use Rattle.mt_front.specs.declared.asks.Asked.TheVariants as asked
use Rattle.mt_front.specs.declared.services.Machine.{Machine}
use Rattle.mt_front.specs.declared.services.Machine.TheVariants.{Migrator, Cleaner}
use Rattle.mt_front.specs.declared.services.Admin.{Admin as Order}
use Rattle.mt_front.specs.declared.services.Admin.TheVariants.{Steps, Seal, Status}
use Rattle.mt_front.specs.declared.services.Report.{Report}
use Rattle.mt_front.specs.declared.services.Report.TheVariants as report
use Rattle.mt_front.specs.declared.machines.Machines.{Machines}
use Rattle.mt_front.specs.Items.{Item, ItemOutcome, Reported, Fault, Full}

-- ---- the machines

-- a machine at its beginning
abbrev pub begun : Machine → Actor
begun Migrator = actor.Migrator begin
begun Cleaner = actor.Cleaner Walk

-- both at their beginning
abbrev pub all_begun : Machines
all_begun = record { migrator = begun Migrator; cleaner = begun Cleaner }

-- the actor is a machine of that kind
abbrev pub IsOfKind : Machine → Actor → Type 0
IsOfKind Migrator a = (state : MoverState) × (a ≡ actor.Migrator state)
IsOfKind Cleaner a = (state : CleanerState) × (a ≡ actor.Cleaner state)

-- it is one that may take a turn in this world
pub record IsMachine (w : WorldState) (machine : Machine) (a : Actor) : Type 0 where
  pub kind : IsOfKind machine a
  pub ready : CanStep a
  pub knows : Knows w a

-- so are both
pub record IsHeld (w : WorldState) (ms : Machines) : Type 0 where
  pub migrator : IsMachine w Migrator ms.migrator
  pub cleaner : IsMachine w Cleaner ms.cleaner

-- ---- an order

-- turns came to what a machine is answered
abbrev pub IsAMachines : Result Progress TurnFault → Type 0
IsAMachines (Ok More) = Unit {0}
IsAMachines (Ok (Done answer.Moved)) = Unit {0}
IsAMachines (Ok (Done answer.Cleaned)) = Unit {0}
IsAMachines (Ok (Done answer.NotSealed)) = Unit {0}
IsAMachines (Ok (Done (answer.NotMigrated pk))) = Unit {0}
IsAMachines (Ok (Done other)) = ⊥
IsAMachines (Err fault) = Unit {0}

-- what is told of so many turns whose last came to this
abbrev pub IsTold : ℕ → Result Progress TurnFault → Result Report TurnFault → Type 0
IsTold taken (Ok More) r = r ≡ Ok (report.Stepped false taken)
IsTold taken (Ok (Done answer.Moved)) r = r ≡ Ok (report.Stepped true taken)
IsTold taken (Ok (Done answer.Cleaned)) r = r ≡ Ok (report.Stepped true taken)
IsTold taken (Ok (Done answer.NotSealed)) r = r ≡ Ok report.NotSealed
IsTold taken (Ok (Done (answer.NotMigrated pk))) r = r ≡ Ok (report.NotMigrated pk)
IsTold taken (Ok (Done other)) r = ⊥
IsTold taken (Err fault) r = r ≡ Err fault

-- the machine behind turns that came to this: one that is done is at its beginning again
abbrev pub kept_behind : Machine → Result Progress TurnFault → Actor → Actor
kept_behind machine came left = if is_at_end came then begun machine else left

-- at most so many turns of a machine were taken, with no other caller between, and this is told of them
pub record StepsMachine (c : ℕ) (w : WorldState) (machine : Machine) (a : Actor) (steps : ℕ) (r : Result Report TurnFault) (w' : WorldState) (a' : Actor) : Type 0 where
  pub taken : Turns
  pub left : Actor
  pub takes : TakesSteps w c a steps taken w' left
  pub kept : a' ≡ kept_behind machine taken.came left
  pub told : IsTold taken.taken taken.came r

-- what is told of a seal
abbrev pub told_of_seal : Result (Unit {0}) TurnFault → Result Report TurnFault
told_of_seal (Ok u) = Ok report.Sealed
told_of_seal (Err fault) = Err fault

-- old was sealed, or the one turn came to nothing
abbrev pub SealsBy : ℕ → WorldState → Result Report TurnFault → WorldState → Type 0
SealsBy c w r w' = (sealed : Result (Unit {0}) TurnFault) × SealsOld w c sealed w' × (r ≡ told_of_seal sealed)

-- the entries of the history, the generation, and whether the world is retired
abbrev pub tells_status : WorldState → Report
tells_status w = report.Status (length w.history.entries) w.generation w.retired

-- what an order does to the world and to the machines, and what is told of it
abbrev pub Does : ℕ → WorldState → Machines → Order → Result Report TurnFault → WorldState → Machines → Type 0
Does c w ms (Steps Migrator steps) r w' ms' = StepsMachine c w Migrator ms.migrator steps r w' ms'.migrator × (ms'.cleaner ≡ ms.cleaner)
Does c w ms (Steps Cleaner steps) r w' ms' = StepsMachine c w Cleaner ms.cleaner steps r w' ms'.cleaner × (ms'.migrator ≡ ms.migrator)
Does c w ms Seal r w' ms' = SealsBy c w r w' × (ms' ≡ ms)
Does c w ms Status r w' ms' = (r ≡ Ok (tells_status w)) × (w' ≡ w) × (ms' ≡ ms)

-- ---- an item

-- a whole call of a request, from its beginning, with no other caller between
abbrev pub CallsWhole : ℕ → WorldState → Request → WorldState → Type 0
CallsWhole c w q w' = (call : ClientCall) × (r : Result Answer TurnFault) × IsCallOf q call × EndsCall w c (actor.Client call) r w'

-- the item came out as it is told
abbrev pub IsOutcomeOf : Result Report TurnFault → ItemOutcome → Type 0
IsOutcomeOf (Ok told) outcome = outcome ≡ Reported told
IsOutcomeOf (Err StoreFault) outcome = outcome ≡ Fault
IsOutcomeOf (Err HistoryFull) outcome = outcome ≡ Full
IsOutcomeOf (Err NoMemory) outcome = ⊥

-- an order was done, and the item came out as it is told
abbrev pub OrderDoes : ℕ → WorldState → Machines → Order → ItemOutcome → WorldState → Machines → Type 0
OrderDoes c w ms order outcome w' ms' = (r : Result Report TurnFault) × Does c w ms order r w' ms' × IsOutcomeOf r outcome

-- what is asked of the table makes one whole call, and what is refused makes none; neither touches the machines
abbrev pub CallDoes : ℕ → WorldState → Asked → WorldState → Type 0
CallDoes c w (asked.Write v) w' = CallsWhole c w (request.Batch v.ops) w'
CallDoes c w (asked.Read q) w' = CallsWhole c w (request.Query q.pk q.filter) w'
CallDoes c w (asked.Page q) w' = CallsWhole c w (request.Page q.filter q.top q.token) w'
CallDoes c w (asked.Admin order) w' = ⊥
CallDoes c w (asked.Refused r) w' = w' ≡ w
CallDoes c w (asked.RefusedPart r) w' = w' ≡ w

-- what an item does to the world and to the machines
abbrev pub AskedDoes : ℕ → WorldState → Machines → Asked → ItemOutcome → WorldState → Machines → Type 0
AskedDoes c w ms (asked.Admin order) outcome w' ms' = OrderDoes c w ms order outcome w' ms'
AskedDoes c w ms asks outcome w' ms' = CallDoes c w asks w' × (ms' ≡ ms)

abbrev pub ItemDoes : ℕ → WorldState → Machines → Item → WorldState → Machines → Type 0
ItemDoes c w ms i w' ms' = AskedDoes c w ms i.asks i.outcome w' ms'

-- what items do one after the other
abbrev pub ItemsDo : ℕ → WorldState → Machines → List Item → WorldState → Machines → Type 0
ItemsDo c w ms [] w' ms' = (w' ≡ w) × (ms' ≡ ms)
ItemsDo c w ms (i ∷ items) w' ms' = (v : WorldState) × (ns : Machines) × ItemDoes c w ms i v ns × ItemsDo c v ns items w' ms'

-- ---- what stays

-- a fact that was true is true, unless it is one of an epoch; a retired world stays so
pub record GoesForward (w w' : WorldState) : Type 0 where
  pub tells : Tells w' → Tells w
  pub facts : (f : Fact) → IsPlain f → ForPair w (λ p. IsTrueOf w p f) → ForPair w' (λ p. IsTrueOf w' p f)
  pub retired : w.retired ≡ true → w'.retired ≡ true
