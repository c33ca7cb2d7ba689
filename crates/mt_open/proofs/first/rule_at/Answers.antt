use Rattle.mt_open.proofs.FirstLaws.{rule_at}
use Rattle.mt_open.proofs.first.rule_at.Goals as goal

pub returns : goal.returns
returns c = rw (c.requires.0) (rule_at c.args.at _ c.requires.1)
