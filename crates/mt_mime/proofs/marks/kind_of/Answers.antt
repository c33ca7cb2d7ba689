use Rattle.std.proofs.Common.{sym, ◌∙◌}
use Rattle.mt_mime.proofs.MarkLaws.{no_delimiter, no_dashes, no_closing}
use Rattle.mt_mime.proofs.marks.kind_of.Goals as goal

pub returns-in_default-after-2 : goal.returns-in_default-after-2
returns-in_default-after-2 c = (
  no_delimiter c.args.boundary.now c.args.line.now c.in-Some.rest.now c.in-Some-after.rest.now c.in-Some.ensures c.in-Some-after.ensures (sym c.are_blank.ensures ∙ c.if-are_blank.false),
  no_dashes c.args.boundary.now c.args.line.now c.in-Some.rest.now c.in-Some-after.rest.now c.in-Some.ensures c.in-Some-after.ensures c.in_default-after-2.ensures,
)

pub returns-else-are_blank-2 : goal.returns-else-are_blank-2
returns-else-are_blank-2 c = (
  no_delimiter c.args.boundary.now c.args.line.now c.in-Some.rest.now c.in-Some-after.rest.now c.in-Some.ensures c.in-Some-after.ensures (sym c.are_blank.ensures ∙ c.if-are_blank.false),
  no_closing c.args.boundary.now c.args.line.now c.in-Some.rest.now c.in-Some-after.rest.now c.in-Some-after-2.rest.now c.in-Some.ensures c.in-Some-after.ensures c.in-Some-after-2.ensures (sym c.are_blank-2.ensures ∙ c.if-are_blank-2.false),
)
