use Rattle.std.proofs.Common.{Ok, sym, subst}
use Rattle.mt_front.specs.Turns.{Converses}
use Rattle.mt_front.proofs.TalkLaws.{On, on_held, never_began, on_start, go_on, ended, failed, out_of_count}
use Rattle.mt_front.proofs.connection.converse.Goals as goal

pub returns-in_default : goal.returns-in_default
returns-in_default g c = never_began 0 c.args.table.now (g.S.Source.input c.args.source.now) (g.T.Sink.output c.args.sink.now) c.args.world.now

pub requests-init : goal.requests-init
requests-init g c =
    subst (λ ms. On 0 c.args.table.now (g.S.Source.input c.args.source.now) (g.T.Sink.output c.args.sink.now) c.args.world.now 0 c.in-Ok.reader (g.S.Source.input c.args.source.now) (g.T.Sink.output c.args.sink.now) c.args.world.now ms) (sym c.new-machines.ensures)
    (on_start 0 c.args.table.now c.in-Ok.reader (g.S.Source.input c.args.source.now) (g.T.Sink.output c.args.sink.now) c.args.world.now c.in-Ok.ensures)

pub requests-preserved : goal.requests-preserved
requests-preserved g c =
    go_on 0 _ _ _ _ _ _ (g.S.Source.input c.requests.source) (g.T.Sink.output c.requests.sink) _ _ _ _ _ _ _ c.requests.invariant (rw c.in-Ok-Answered.field-0-is at c.in-Ok-Answered.ensures)

pub returns-in-Ok-Ended : goal.returns-in-Ok-Ended
returns-in-Ok-Ended g c =
    subst (λ v. Converses 0 c.args.table.now c.args.world.now (g.S.Source.input c.args.source.now) (g.T.Sink.output c.args.sink.now) (Ok v) c.take_turn.new.world (g.S.Source.input c.take_turn.new.source) (g.T.Sink.output c.take_turn.new.sink))
    (sym c.served_of.ensures)
    (ended 0 _ _ _ _ _ _ (g.S.Source.input c.requests.source) (g.T.Sink.output c.requests.sink) _ _ _ _ _ _ _ c.requests.invariant _ (rw c.in-Ok-Ended.field-0-is at c.in-Ok-Ended.ensures))

pub returns-in-Err : goal.returns-in-Err
returns-in-Err g c =
    failed 0 _ _ _ _ _ _ (g.S.Source.input c.requests.source) (g.T.Sink.output c.requests.sink) _ _ _ _ _ _ _ c.requests.invariant _ c.in-Err.ensures

pub returns : goal.returns
returns g c = out_of_count 0 _ _ _ _ _ _ _ _ _ _ c.requests.invariant

pub take_turn-requires : goal.take_turn-requires
take_turn-requires g c = on_held 0 _ _ _ _ _ _ _ _ _ _ c.requests.invariant
