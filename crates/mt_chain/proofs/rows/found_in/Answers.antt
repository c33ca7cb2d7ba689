use Rattle.std.proofs.Common.{sym}
use Rattle.mt_chain.specs.Rows.{key_at}
use Rattle.mt_chain.proofs.SearchLaws.{find_at, find_gap}
use Rattle.mt_chain.proofs.rows.found_in.Goals as goal

pub returns-in-Ok : goal.returns-in-Ok
returns-in-Ok c =
    let d = c.index-rows-at.result in
    sym (find_at (key_at c.args.pk.now c.args.rk.now) c.args.rows.now c.in-Ok.at d c.requires c.in-Ok.ensures.0 (c.in-Ok.ensures.1 d))

pub returns-in-Err : goal.returns-in-Err
returns-in-Err c = sym (find_gap (key_at c.args.pk.now c.args.rk.now) c.args.rows.now c.in-Err.field-0 c.in-Err.ensures)
