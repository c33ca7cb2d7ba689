use Rattle.std.proofs.Common.{sym, ap, ◌∙◌}
use Rattle.std.specs.Prelude.{option_copied}
use Rattle.mt_world.proofs.ReplayLaws.{replay_at}
use Rattle.mt_world.proofs.replay.replayed.Goals as goal

pub loop-at-preserved : goal.loop-at-preserved
loop-at-preserved c =
    replay_at c.args.rows c.args.log.now.history c.loop-at.at c.in-Some.entry.now c.loop-at.rows c.in_ok-rows.rows c.len-at-end.ensures.valid.whole
    (sym c.get.ensures.value ∙ ap option_copied c.in-Some.is) c.loop-at.invariant c.in_ok-rows.ensures
