use Rattle.std.proofs.Common.{Ok, Err, refl, not, arith}
use Rattle.mt_world.specs.declared.actor.TurnFault.TheVariants.{StoreFault, HistoryFull, NoMemory}
use Rattle.mt_front.specs.Machines.{Does}
use Rattle.mt_front.proofs.AdminLaws.{report_said, order_failed, order_full, order_starved}
use Rattle.mt_front.proofs.connection.administer.Goals as goal

pub returns-in-Ok : goal.returns-in-Ok
returns-in-Ok g c =
    report_said 0 c.args.world.now c.administer.new.world c.args.machines.now c.administer.new.self (g.T.Sink.output c.args.sink.now) (g.T.Sink.output c.send_reply.new.sink) c.args.order c.args.keep c.send_reply.result c.requires.held
    c.in-Ok.report c.report_reply.result c.in-Ok.ensures c.report_reply.ensures c.send_reply.ensures

pub returns-in-Err-StoreFault : goal.returns-in-Err-StoreFault
returns-in-Err-StoreFault g c =
    order_failed 0 c.args.world.now c.administer.new.world c.args.machines.now c.administer.new.self (g.T.Sink.output c.args.sink.now) (g.T.Sink.output c.send_fault.new.sink) c.args.order c.args.keep c.send_fault.result c.requires.held
    (rw c.in-Err-StoreFault.field-0-is at c.in-Err-StoreFault.ensures) c.send_fault.ensures

pub returns-in-Err-HistoryFull : goal.returns-in-Err-HistoryFull
returns-in-Err-HistoryFull g c =
    order_full 0 c.args.world.now c.administer.new.world c.args.machines.now c.administer.new.self (g.T.Sink.output c.args.sink.now) (g.T.Sink.output c.send_full.new.sink) c.args.order c.args.keep c.send_full.result c.requires.held
    (rw c.in-Err-HistoryFull.field-0-is at c.in-Err-HistoryFull.ensures) c.send_full.ensures

pub returns-in-Err-NoMemory : goal.returns-in-Err-NoMemory
returns-in-Err-NoMemory g c =
    let did : Does 0 c.args.world.now c.args.machines.now c.args.order (Err NoMemory) c.administer.new.world c.administer.new.self = rw c.in-Err-NoMemory.field-0-is at c.in-Err-NoMemory.ensures in
    let off = order_starved 0 c.args.world.now c.administer.new.world c.args.machines.now c.administer.new.self c.args.order c.requires.held did in
    record { faults_out = omega arith; answers = (off.0, off.1, refl) }
