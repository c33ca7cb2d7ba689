use Rattle.std.proofs.Common.{subst}
use Rattle.std.proofs.lemmas.Result.{IfOk-weaker}
use Rattle.mt_chain.specs.Table.{rows_of}
use Rattle.mt_world.specs.Logs.{Log}
use Rattle.mt_world.specs.Replays.{LeavesRows, CountsRows}
use Rattle.mt_world.proofs.ReplayLaws.{counted_rows}
use Rattle.mt_world.proofs.world.World.rows.Goals as goal

pub returns : goal.returns
returns g c =
    IfOk-weaker c.count_rows.result (λ n. LeavesRows (rows_of c.self.inside.base) c.log.result.now.history.entries n) (λ n. CountsRows c.args.self.now n)
    (λ n leaves. counted_rows _ c.args.self.now n c.self.view_is c.self.invariant (subst (λ (l : Log). LeavesRows (rows_of c.self.inside.base) l.history.entries n) c.log.ensures leaves))
    c.count_rows.ensures
