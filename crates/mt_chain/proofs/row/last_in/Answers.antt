use Rattle.std.proofs.Common.{ap, ◌∙◌, option_map}
use Rattle.mt_chain.specs.declared.row.StoredRow.{StoredRow}
use Rattle.mt_chain.proofs.RangeRows.{last_get}
use Rattle.mt_chain.proofs.row.last_in.Goals as goal

pub returns-in-Some : goal.returns-in-Some
returns-in-Some c = ap (option_map (λ (r : StoredRow). r.rk)) c.in-Some.ensures.value ∙ last_get c.args.rows.now
