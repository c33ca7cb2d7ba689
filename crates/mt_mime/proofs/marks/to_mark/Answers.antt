use Rattle.std.proofs.Common.{sym, refl, subst, Bool}
use Rattle.mt_mime.specs.Marks.{Ends}
use Rattle.mt_mime.proofs.MarkLaws.{passed_all, passed_more, mark_found}
use Rattle.mt_mime.proofs.marks.to_mark.Goals as goal
use Rattle.mt_mime.proofs.marks.to_mark.Goals.{in-Delimiter, in-Closing}

pub returns-in_default : goal.returns-in_default
returns-in_default c = passed_all c.args.boundary.now c.args.bytes.now c.lines.rest.now c.peel_line-line.result c.lines.invariant c.peel_line-line.ensures c.in-Plain.ensures c.in_default.is

pub lines-preserved : goal.lines-preserved
lines-preserved c = passed_more c.args.boundary.now c.args.bytes.now c.lines.rest.now c.peel_line-line.result c.in-Some.more c.lines.invariant c.peel_line-line.ensures c.in-Plain.ensures c.in-Some.is

pub returns-in-lines : goal.returns-in-lines
returns-in-lines c =
    let ends : Ends c.args.boundary.now c.peel_line-line.result.text.now c.match-kind_of.closing = elim c.match-kind_of.branch [
      | in-Delimiter w ↦ subst (λ (k : Bool). Ends c.args.boundary.now c.peel_line-line.result.text.now k) (sym w.closing-is) w.in-Delimiter.ensures
      | in-Closing w ↦ subst (λ (k : Bool). Ends c.args.boundary.now c.peel_line-line.result.text.now k) (sym w.closing-is) w.in-Closing.ensures
    ] in
    mark_found c.args.boundary.now c.args.bytes.now c.lines.rest.now c.peel_line-line.result _ c.match-kind_of.closing c.lines.invariant c.peel_line-line.ensures ends refl
