use Rattle.std.proofs.Common.{List, sym, subst, ap, ◌∙◌, filter}
use Rattle.mt_chain.specs.declared.row.StoredRow.{StoredRow}
use Rattle.mt_chain.specs.Rows.{RisingRows}
use Rattle.mt_clean.specs.Cleanings.{is_tombstone}
use Rattle.mt_clean.proofs.RowLists.{kept_rise}
use Rattle.mt_clean.proofs.rows.tombs_of.Goals as goal

pub of-requires : goal.of-requires
of-requires c = subst RisingRows (sym (c.keep_tombs.ensures ∙ ap (λ (rows : List StoredRow). filter is_tombstone rows) c.into_items-items.ensures.value)) (kept_rise is_tombstone c.args.rows c.into_items-items.ensures.rising)
