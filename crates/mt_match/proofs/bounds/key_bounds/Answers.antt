use Rattle.mt_filter.specs.Tree.{tree_of}
use Rattle.mt_match.proofs.Conjuncts.{lies_within}
use Rattle.mt_match.proofs.bounds.key_bounds.Goals as goal

pub returns-clause-holds_all : goal.returns-clause-holds_all
returns-clause-holds_all c =
    lies_within (tree_of c.args.filter.now) _
    (record { pk_low = c.in_ok-pk_low.ensures; pk_high = c.in_ok-pk_high.ensures; rk_low = c.in_ok-rk_low.ensures; rk_high = c.in_ok-rk_high.ensures })
