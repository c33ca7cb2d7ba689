use Rattle.mt_top.proofs.RunningLaws.{over_depot_law}
use Rattle.mt_top.proofs.running.over_depot.Goals as goal

pub returns : goal.returns
returns g c = over_depot_law c.args.common.now (g.S.Source.input c.args.source.now) (g.T.Sink.output c.args.sink.now) _ _ _ _ _
    (g.D.Keeper.Keeper.state c.in-Ok.old) (g.D.Keeper.Keeper.state c.in-Ok-open_store.new) (g.D.Keeper.Keeper.state c.over_stores-ending.result.1.old) (g.D.Keeper.Keeper.state c.over_stores-ending.result.1.new)
    _ _ _ c.in-Ok.ensures c.in-Ok-open_store.ensures c.over_stores-ending.ensures c.take_back-2.ensures c.take_back-3.ensures
