use Rattle.std.proofs.Common.{rules}
use Rattle.std.proofs.lemmas.Fn.{always_returns_same}
use Rattle.std.specs.Ordering.{nat_cmp}
use Rattle.std.specs.Cmp.Lexicographic.{slice_cmp, nat_list_cmp_total}
use Rattle.mt_chain.specs.declared.row.StoredRow.{StoredRow}
use Rattle.mt_chain.proofs.Searches.{key_searched}
use Rattle.mt_chain.proofs.row.place_of.Goals as goal

pub returns : goal.returns
returns c =
    let found = c.binary_search_by.ensures in
    key_searched nat_list_cmp_total (λ (r : StoredRow). r.rk) c.args.rk.now c.args.rows.now c.binary_search_by.result c.requires found.bound
    (found.position (λ r. slice_cmp nat_cmp r.rk c.args.rk.now) (always_returns_same _ _ _ (λ a r f called. search rules)))
