use Rattle.std.proofs.Common.{subst}
use Rattle.mt_world.specs.WholeCalls.{TakesSteps}
use Rattle.mt_move_tests.proofs.Beside.{known_beside_a_new_one}
use Rattle.mt_move_tests.proofs.machines.overtaken.Goals as goal

pub go-requires-3-clause-knows : goal.go-requires-3-clause-knows
go-requires-3-clause-knows c =
    let first = c.go.ensures.steps in
    let second = c.go-2.ensures.steps in
    let taken = subst (λ a. TakesSteps c.go.new.world 1001 a 4 second.0 c.go-2.new.world c.go-2.new.machine) c.migrator-second.ensures.begins second.1 in
    known_beside_a_new_one c.go.new.world c.go-2.new.world 1001 c.go-2.new.machine c.go.new.machine 4 second.0 taken first.1.knows
