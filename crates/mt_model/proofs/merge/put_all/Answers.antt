use Rattle.std.proofs.Common.{arith}
use Rattle.std.proofs.lemmas.Grind.{common_steps}
use Rattle.mt_model.proofs.Merging.{RisingNames-put}
use Rattle.mt_model.proofs.merge.put_all.Goals as goal

pub loop-prop-preserved : goal.loop-prop-preserved
loop-prop-preserved c = record {
  rising = rw c.in_ok-put.ensures.ok (RisingNames-put _ _ c.loop-prop.invariant.rising);
  same = grind (arith, common_steps);
}
