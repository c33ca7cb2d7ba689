use Rattle.std.proofs.Common.{refl}
use Rattle.mt_top.proofs.RunningLaws.{over_served, over_refused}
use Rattle.mt_top.proofs.running.over_stores.Goals as goal

pub returns-in-Ok : goal.returns-in-Ok
returns-in-Ok g c =
    over_served c.args.common.now (g.S.Source.input c.args.source.now) (g.T.Sink.output c.args.sink.now) (g.K.Keeper.state c.args.old) (g.K.Keeper.state c.args.new) c.in-Ok.world c.session-served.result c.session-served.new.world
    (g.S.Source.input c.session-served.new.source) (g.T.Sink.output c.session-served.new.sink) c.requires.old c.requires.new c.into_stores.ensures.world c.args.common.now.table c.ending_of.result (g.K.Keeper.state c.into_stores.result.old) (g.K.Keeper.state c.into_stores.result.new)
    refl c.ending_of.ensures c.into_stores.ensures.old c.into_stores.ensures.new c.in-Ok.ensures.opened c.session-served.ensures

pub returns-in-Err : goal.returns-in-Err
returns-in-Err g c =
    over_refused c.args.common.now (g.S.Source.input c.args.source.now) (g.T.Sink.output c.args.sink.now) (g.K.Keeper.state c.args.old) (g.K.Keeper.state c.args.new) (g.K.Keeper.state c.in-Err.field-0.old) (g.K.Keeper.state c.in-Err.field-0.new)
    c.requires.old c.requires.new c.in-Err.field-0.fault c.refuse.result (g.T.Sink.output c.refuse.new.sink) c.refuse.ensures c.in-Err.ensures.refused
