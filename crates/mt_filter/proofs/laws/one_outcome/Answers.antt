use Rattle.mt_filter.proofs.OneReading.{one_tree, one_fault, not_both_ways}
use Rattle.mt_filter.proofs.laws.one_outcome.Goals as goal

pub returns-clause-tree : goal.returns-clause-tree
returns-clause-tree c = one_tree

pub returns-clause-fault : goal.returns-clause-fault
returns-clause-fault c = one_fault

pub returns-clause-either : goal.returns-clause-either
returns-clause-either c = not_both_ways
