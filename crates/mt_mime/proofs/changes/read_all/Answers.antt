use Rattle.std.proofs.Common.{List, sym, subst, ◌+◌, take}
use Rattle.mt_mime.specs.declared.changes.Part.{Part}
use Rattle.mt_mime.specs.Changes.{bytes_in, ReadsAll}
use Rattle.mt_mime.proofs.ChangeLaws.{all_bad, all_more}
use Rattle.mt_mime.proofs.changes.read_all.Goals as goal

pub returns-in-Err-Bad-clause-bad : goal.returns-in-Err-Bad-clause-bad
returns-in-Err-Bad-clause-bad c = λ _. all_bad c.args.texts.now c.loop-text.text-index _ c.loop-text-test.true (c.in-Err-Bad.ensures.bad c.in-Err-Bad.field-0-is)

pub loop-text-preserved : goal.loop-text-preserved
loop-text-preserved c =
    let more = all_more c.args.texts.now c.loop-text.text-index c.loop-text.parts.items _ c.in-Ok.part c.loop-text.invariant c.loop-text-test.true c.in-Ok.ensures.operation in
    subst (λ (ps : List Part). ReadsAll (bytes_in (take (c.loop-text.text-index + 1) c.args.texts.now)) ps) (sym c.if-not-add.ensures) more
