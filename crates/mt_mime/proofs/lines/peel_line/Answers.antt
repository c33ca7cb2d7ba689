use Rattle.std.proofs.Common.{◌∙◌, sym, arith, subst, refl}
use Rattle.std.proofs.lemmas.List.{take_rest, take_all}
use Rattle.mt_mime.specs.Lines.{IsLine}
use Rattle.mt_mime.proofs.LineLaws.{no_end, end_found}
use Rattle.mt_mime.proofs.lines.peel_line.Goals as goal

pub returns-in-Some : goal.returns-in-Some
returns-in-Some c = record {
  line = no_end c.args.bytes.now c.loop-at.at (omega arith) c.loop-at.invariant;
  whole = end_found c.args.bytes.now c.in-Some.rest.now c.loop-at.at (sym (take_rest c.args.bytes.now c.loop-at.at) ∙ c.in-Some.ensures);
}

pub returns : goal.returns
returns c = record {
  line = subst IsLine (take_all c.loop-at.at c.args.bytes.now c.loop-at-test.false) (no_end c.args.bytes.now c.loop-at.at (omega arith) c.loop-at.invariant);
  whole = refl;
}
