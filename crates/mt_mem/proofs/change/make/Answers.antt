use Rattle.std.proofs.Common.{◌≡◌, ap, sym, subst, ◌∙◌}
use Rattle.mt_chain.specs.Rows.{key_at}
use Rattle.mt_mem.specs.Changes.{changed_key, edit_of, ReadsTo, Makes}
use Rattle.mt_mem.proofs.PassLaws.{makes_writing, makes_removal}
use Rattle.mt_mem.proofs.change.make.Goals as goal

pub returns-in-Write : goal.returns-in-Write
returns-in-Write c =
    let pk = c.args.pk.now in
    let row = c.in-Write.row in
    let part : pk ≡ row.0 = sym (ap (λ ch. (edit_of pk ch).0.pk) (sym c.in-Write.is) ∙ c.requires.own) in
    let rk : c.row_key.result.now ≡ row.1.rk = c.row_key.ensures ∙ ap changed_key c.in-Write.is in
    let reads = subst (λ k. ReadsTo k c.args.pass.now c.read_to.new.pass) (λ i. key_at (part i) (rk i)) c.read_to.ensures in
    subst (λ ch. Makes (edit_of pk ch) c.args.pass.now c.put.new.self) (sym c.in-Write.is)
    (makes_writing row c.args.pass.now c.read_to.new.pass c.put.new.self reads c.put.ensures.written c.put.ensures.left c.put.ensures.spare)

pub returns-in-Remove : goal.returns-in-Remove
returns-in-Remove c =
    let pk = c.args.pk.now in
    let rk = c.in-Remove.field-0.now in
    let reads = subst (λ q. ReadsTo (key_at pk q) c.args.pass.now c.read_to.new.pass) (c.row_key.ensures ∙ ap changed_key c.in-Remove.is) c.read_to.ensures in
    subst (λ ch. Makes (edit_of pk ch) c.args.pass.now c.read_to.new.pass) (sym c.in-Remove.is)
    (makes_removal (key_at pk rk) c.args.pass.now c.read_to.new.pass reads)
