use Rattle.mt_filter.specs.Tree.{tree_of}
use Rattle.mt_filter.proofs.reader.read_whole.Goals as goal

pub returns : goal.returns
returns c = (_, _, (_, c.in_ok-filter.ensures, c.in_ok-end.ensures (tree_of c.in_ok-filter.filter) c.read_chain.new.self.tests))
