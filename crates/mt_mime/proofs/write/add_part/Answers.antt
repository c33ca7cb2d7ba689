use Rattle.std.proofs.lemmas.Result.{on_ok_weaker}
use Rattle.mt_mime.proofs.ReplyLaws.{three_pieces}
use Rattle.mt_mime.proofs.write.add_part.Goals as goal

pub returns : goal.returns
returns c = on_ok_weaker c.add-2.result
    (λ last. three_pieces c.args.body.now.items c.add.new.body.items c.render_inner.new.into.items c.add-2.new.body.items _ _ _ c.in_ok-add.ensures c.in_ok-render_inner.ensures.ok last)
    c.add-2.ensures
