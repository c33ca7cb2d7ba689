use Rattle.std.proofs.Common.{◌≡◌, take}
use Rattle.mt_chain.specs.Table.{rows_of}
use Rattle.mt_world.proofs.replay.copies_of.Given as goal

abbrev pub invariant-loop-entity : goal.invariant-loop-entity
invariant-loop-entity l = l.rows.items ≡ rows_of (take l.entity-index l.entities)
