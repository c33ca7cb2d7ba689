use Rattle.std.proofs.Common.{refl, rules}
use Rattle.mt_front.specs.Machines.{kept_behind}
use Rattle.mt_front.proofs.MachineLaws.{steps_said, a_machines, not_client}
use Rattle.mt_front.proofs.machines.step.Goals as goal

pub steps-stepped-requires-clause-machine : goal.steps-stepped-requires-clause-machine
steps-stepped-requires-clause-machine g c = not_client c.args.machine c.args.actor.now c.requires.kept.kind

pub told-requires : goal.told-requires
told-requires g c = a_machines c.args.machine c.steps-stepped.result.came (steps_said c.args.machine 0 c.args.world.now c.steps-stepped.new.self c.args.actor.now c.steps-stepped.new.actor c.args.steps c.steps-stepped.result c.requires.kept.kind c.steps-stepped.ensures).0
