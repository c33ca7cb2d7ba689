use Rattle.std.proofs.Common.{Some, sym, ap, ◌∙◌, bytes_eq}
use Rattle.std.specs.Cmp.Lexicographic.{nat_list_cmp_total, texts_ties}
use Rattle.mt_chain.specs.declared.row.StoredRow.{StoredRow}
use Rattle.mt_chain.proofs.Searches.{key_found, key_absent}
use Rattle.mt_chain.proofs.row.found_in.Goals as goal

pub returns-in-Ok : goal.returns-in-Ok
returns-in-Ok c =
    let rk = c.args.rk.now in
    ap Some c.index-rows-at.is
    ∙ sym (key_found nat_list_cmp_total (λ (r : StoredRow). r.rk) rk (λ r. bytes_eq rk r.rk) (λ r. texts_ties rk r.rk) c.args.rows.now c.in-Ok.at c.index-rows-at.result c.requires c.in-Ok.ensures)

pub returns-in-Err : goal.returns-in-Err
returns-in-Err c =
    let rk = c.args.rk.now in
    sym (key_absent nat_list_cmp_total (λ (r : StoredRow). r.rk) rk (λ r. bytes_eq rk r.rk) (λ r. texts_ties rk r.rk) c.args.rows.now c.in-Err.field-0 c.in-Err.ensures)
