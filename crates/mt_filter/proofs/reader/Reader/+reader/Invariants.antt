use Rattle.std.proofs.Common.{ℕ, ◌+◌, ◌-◌, ◌*◌, length}
use Rattle.mt_filter.specs.declared.chain.Chain.{Chain}
use Rattle.mt_filter.specs.declared.chain.Chain.TheVariants.{Or, And}
use Rattle.mt_filter.specs.Tree.{tree_of}
use Rattle.mt_filter.specs.Grammar.{Reading, read, Reads, more, chain}
use Rattle.mt_filter.proofs.reader.Reader.+reader.Given as goal

abbrev pub rank : Chain → ℕ
rank Or = 4
rank And = 2

abbrev pub decreases-read_chain : goal.decreases-read_chain
decreases-read_chain l = (64 - l.level) * 8 + rank l.links + 1

abbrev pub decreases-read_operand : goal.decreases-read_operand
decreases-read_operand l = (64 - l.level) * 8 + rank l.links

abbrev pub decreases-read_unary : goal.decreases-read_unary
decreases-read_unary l = (64 - l.level) * 8 + 1

abbrev pub decreases-read_not : goal.decreases-read_not
decreases-read_not l = (64 - l.level) * 8

abbrev pub decreases-read_parentheses : goal.decreases-read_parentheses
decreases-read_parentheses l = (64 - l.level) * 8

abbrev pub invariant-read_chain-loop-alloc : goal.invariant-read_chain-loop-alloc
invariant-read_chain-loop-alloc l =
    (r : Reading) → Reads (more l.links (read (tree_of l.filter) l.self.tests l.self.rest.now)) l.level r → Reads (chain l.links l.fn.self.tests l.fn.self.rest.now) l.level r

abbrev pub decreases-read_chain-loop-alloc : goal.decreases-read_chain-loop-alloc
decreases-read_chain-loop-alloc l = length l.self.rest.now
