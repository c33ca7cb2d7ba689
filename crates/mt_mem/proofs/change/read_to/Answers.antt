use Rattle.std.proofs.Common.{drop, ap, subst, ◌∙◌, arith, Ok, Err}
use Rattle.mt_model.specs.Key.{key_cmp}
use Rattle.mt_chain.specs.Rows.{key_at}
use Rattle.mt_chain.specs.Places.{EndsAt}
use Rattle.mt_mem.specs.Entries.{entries}
use Rattle.mt_mem.proofs.PassLaws.{reads_found, reads_gap}
use Rattle.mt_mem.proofs.change.read_to.Goals as goal

pub returns-in-Ok : goal.returns-in-Ok
returns-in-Ok c =
    let key = key_at c.args.pk.now c.args.rk.now in
    reads_found key c.args.pass.now c.skip.new.self c.in-Ok.at c.requires
    (subst (λ ls. EndsAt (λ k. key_cmp k key) (entries ls) (Ok c.in-Ok.at)) c.left.ensures c.in-Ok.ensures)
    (c.skip.ensures.written ∙ c.keep.ensures.written)
    (c.skip.ensures.left ∙ ap (drop 1) c.keep.ensures.left)
    (let more = c.skip.ensures.spare in omega (arith, c.keep.ensures.spare))

pub returns-in-Err : goal.returns-in-Err
returns-in-Err c =
    let key = key_at c.args.pk.now c.args.rk.now in
    reads_gap key c.args.pass.now c.keep-in-Err.new.self c.in-Err.at
    (subst (λ ls. EndsAt (λ k. key_cmp k key) (entries ls) (Err c.in-Err.at)) c.left.ensures c.in-Err.ensures)
    c.keep-in-Err.ensures.written c.keep-in-Err.ensures.left (omega (arith, c.keep-in-Err.ensures.spare))
