use Rattle.std.specs.Option.{option_copied}
use Rattle.std.proofs.lemmas.List.Elements.{filter_map-append}
use Rattle.mt_filter.specs.Tree.{tree_of}
use Rattle.mt_match.specs.Partition.{conjuncts}
use Rattle.mt_match.specs.Bounds.{high_text, high_texts}
use Rattle.mt_match.proofs.Texts.{least_one}
use Rattle.mt_match.proofs.bounds.+high.Goals as goal

pub returns-in-And : goal.returns-in-And
returns-in-And t c =
    rw (c.in-And.is, filter_map-append (high_text c.args.part) (conjuncts (tree_of c.in-And.left.value)) (conjuncts (tree_of c.in-And.right.value)))
    (c.lesser.ensures (high_texts c.args.part (tree_of c.in-And.left.value)) (high_texts c.args.part (tree_of c.in-And.right.value)) (rw c.deref.ensures at c.high.ensures) (rw c.deref-in-And.ensures at c.high-in-And.ensures))

pub returns-in-Test : goal.returns-in-Test
returns-in-Test t c = rw (c.in-Test.is, ← c.if-bounds_above.ensures, ← c.key_text.ensures) (least_one (option_copied c.key_text.result))
