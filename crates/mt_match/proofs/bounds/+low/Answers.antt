use Rattle.std.specs.Option.{option_copied}
use Rattle.std.proofs.lemmas.List.Elements.{filter_map-append}
use Rattle.mt_filter.specs.Tree.{tree_of}
use Rattle.mt_match.specs.Partition.{conjuncts}
use Rattle.mt_match.specs.Bounds.{low_text, low_texts}
use Rattle.mt_match.proofs.Texts.{greatest_one}
use Rattle.mt_match.proofs.bounds.+low.Goals as goal

pub returns-in-And : goal.returns-in-And
returns-in-And t c =
    rw (c.in-And.is, filter_map-append (low_text c.args.part) (conjuncts (tree_of c.in-And.left.value)) (conjuncts (tree_of c.in-And.right.value)))
    (c.greater.ensures (low_texts c.args.part (tree_of c.in-And.left.value)) (low_texts c.args.part (tree_of c.in-And.right.value)) (rw c.deref.ensures at c.low.ensures) (rw c.deref-in-And.ensures at c.low-in-And.ensures))

pub returns-in-Test : goal.returns-in-Test
returns-in-Test t c = rw (c.in-Test.is, ← c.if-bounds_below.ensures, ← c.key_text.ensures) (greatest_one (option_copied c.key_text.result))
