-- How a run ends over two open stores, and over a depot.
use Rattle.std.specs.Prelude.{◌≡◌, ◌⊎◌, ◌+◌, Result, Ok, Err}
use Rattle.mt_io.specs.Ends.{Input, Output}
use Rattle.mt_chain.specs.declared.depot.DepotFault.{DepotFault}
use Rattle.mt_chain.specs.declared.depot.DepotFault.TheVariants as depot
use Rattle.mt_chain.specs.Store.{Store}
use Rattle.mt_open.specs.declared.opening.OpenFault.{OpenFault}
use Rattle.mt_open.specs.declared.opening.OpenFault.TheVariants as opening
use Rattle.mt_front.specs.declared.connection.End.TheVariants as end
use Rattle.mt_front.specs.declared.connection.Served.{Served as ServedTo}
use Rattle.mt_front.specs.declared.connection.End.{End}
use Rattle.mt_front.specs.declared.connection.ConnFault.{ConnFault}
use Rattle.mt_front.specs.declared.connection.ConnFault.TheVariants as conn
use Rattle.mt_front.specs.Session.{Sent, Cut}
use Rattle.mt_top.specs.declared.running.Ending.{Ending}
use Rattle.mt_top.specs.declared.running.Ending.TheVariants.{Served, ReadFault, WriteFault, StoreFault, Damaged, BadInput, NoMemory}
use Rattle.mt_top.specs.Lines.{damage_line}
use Rattle.mt_top.specs.Run.{Service, Tellings, RunEnds}

-- how the end of a session ends the run
abbrev pub ending_at : End → Ending
ending_at end.Input = Served
ending_at end.Closed = Served
ending_at end.BadInput = BadInput

-- how a session's result ends the run
abbrev pub ending_of : Result ServedTo ConnFault → Ending
ending_of (Ok served) = ending_at served.end
ending_of (Err conn.ReadFault) = ReadFault
ending_of (Err conn.WriteFault) = WriteFault
ending_of (Err conn.NoMemory) = NoMemory

-- how a depot's fault ends it
abbrev pub depot_ending : DepotFault → Ending
depot_ending depot.Failed = StoreFault
depot_ending depot.NoMemory = NoMemory

-- how it ends where two stores were not opened as a world: a damage is written as a line, where there is memory for it
abbrev pub Refuses : Output → OpenFault → Ending → Output → Type 0
Refuses o (opening.Damaged store key rule) ending x = ((ending ≡ Damaged) × (Sent o (damage_line store key rule) x ⊎ Cut o (damage_line store key rule) x)) ⊎ ((ending ≡ NoMemory) × (x ≡ o))
Refuses o opening.StoreFault ending x = (ending ≡ StoreFault) × (x ≡ o)
Refuses o opening.NoMemory ending x = (ending ≡ NoMemory) × (x ≡ o)

abbrev pub tellings_of : Store → Store → Store → Store → Tellings
tellings_of k k' l l' = record { old_before = k.told; old_after = k'.told; new_before = l.told; new_after = l'.told }

-- a run over two open stores
pub record Over (v : Service) (s : Input) (o : Output) (k l : Store) (ending : Ending) (t : Input) (x : Output) (k' l' : Store) : Type 0 where
  pub number : k'.number ≡ k.number
  pub number_new : l'.number ≡ l.number
  pub ends : RunEnds v s o ending (tellings_of k k' l l') (k.faults + l.faults) (k'.faults + l'.faults) t x
