use Rattle.std.proofs.Common.{◌+◌, List, take, slice_index_or, sym, subst, arith}
use Rattle.std.proofs.lemmas.Slice.Zip.{AllZip-long}
use Rattle.mt_chain.specs.declared.op.Op.{Op}
use Rattle.mt_json.specs.declared.write.Level.TheVariants as level
use Rattle.mt_mime.specs.declared.forms.Echo.TheVariants as echo
use Rattle.mt_mime.specs.declared.forms.Form.{Form}
use Rattle.mt_mime.specs.Replies.{HasEcho, IsFormOf, AreForms}
use Rattle.mt_mime.proofs.ReplyLaws.{echo_at, forms_more, forms_all}
use Rattle.mt_mime.proofs.drafting.forms_of.Goals as goal

pub bounds-echoes-at : goal.bounds-echoes-at
bounds-echoes-at c = omega (arith, c.loop-at-test.true, AllZip-long HasEcho c.args.ops.now c.args.echoes.now c.requires)

pub form_of-requires : goal.form_of-requires
form_of-requires c =
    let op = c.index-ops-at.result in
    subst (λ (o : Op). HasEcho o (slice_index_or c.args.echoes.now c.loop-at.at (echo.Entity level.None))) (sym c.index-ops-at.is) (echo_at c.args.ops.now c.args.echoes.now c.loop-at.at op (echo.Entity level.None) c.requires c.loop-at-test.true)

pub loop-at-preserved : goal.loop-at-preserved
loop-at-preserved c =
    let op = c.index-ops-at.result in
    let is = subst (λ (o : Op). IsFormOf o (slice_index_or c.args.echoes.now c.loop-at.at (echo.Entity level.None)) c.in_ok-form.form) c.index-ops-at.is c.in_ok-form.ensures in
    let more = forms_more c.args.ops.now c.args.echoes.now c.loop-at.forms.items c.loop-at.at op (echo.Entity level.None) c.in_ok-form.form c.loop-at.invariant c.loop-at-test.true
    (omega (arith, c.loop-at-test.true, AllZip-long HasEcho c.args.ops.now c.args.echoes.now c.requires)) is in
    subst (λ (fs : List Form). AreForms (take (c.loop-at.at + 1) c.args.ops.now) (take (c.loop-at.at + 1) c.args.echoes.now) fs) (sym c.in_ok-push.ensures.items) more

pub returns : goal.returns
returns c = forms_all c.args.ops.now c.args.echoes.now c.loop-at.forms.items c.loop-at.at c.loop-at.invariant c.loop-at-test.false
    (omega (arith, c.loop-at-test.false, AllZip-long HasEcho c.args.ops.now c.args.echoes.now c.requires))
