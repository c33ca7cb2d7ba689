use Rattle.std.proofs.Common.{List, sym, subst, ap, ◌∙◌, filter}
use Rattle.mt_chain.specs.declared.row.StoredRow.{StoredRow}
use Rattle.mt_chain.specs.Rows.{RisingRows}
use Rattle.mt_clean.specs.Cleanings.{is_data}
use Rattle.mt_clean.proofs.RowLists.{kept_rise}
use Rattle.mt_clean.proofs.rows.data_rows.Goals as goal

pub of-requires : goal.of-requires
of-requires c = subst RisingRows (sym (c.keep_data.ensures ∙ ap (λ (rows : List StoredRow). filter is_data rows) c.into_items-items.ensures.value)) (kept_rise is_data c.args.rows c.into_items-items.ensures.rising)
