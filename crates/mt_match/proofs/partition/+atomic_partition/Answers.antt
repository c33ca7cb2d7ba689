use Rattle.std.proofs.Common.{refl}
use Rattle.mt_filter.specs.Tree.{tree_of}
use Rattle.mt_match.proofs.Conjuncts.{partition_either}
use Rattle.mt_match.proofs.partition.+atomic_partition.Goals as goal

pub returns-in-Some : goal.returns-in-Some
returns-in-Some t c =
    rw (c.in-And.is, partition_either (tree_of c.in-And.left.value) (tree_of c.in-And.right.value), ← c.deref.ensures, ← c.in-Some.ensures) refl

pub returns-in-None : goal.returns-in-None
returns-in-None t c =
    rw (c.in-And.is, partition_either (tree_of c.in-And.left.value) (tree_of c.in-And.right.value), ← c.deref.ensures, ← c.in-None.ensures, ← c.deref-in-None.ensures)
    c.atomic_partition-in-None.ensures
