use Rattle.std.proofs.Common.{sym, ap, option_map}
use Rattle.mt_chain.specs.Rows.{key_at, shown}
use Rattle.mt_chain.proofs.SearchLaws.{find_gap}
use Rattle.mt_mem.specs.Entries.{entries}
use Rattle.mt_mem.proofs.EntryLaws.{stored_there, shown_there}
use Rattle.mt_mem.proofs.lookup.row_at.Goals as goal

pub returns-in-Ok-clause-stored : goal.returns-in-Ok-clause-stored
returns-in-Ok-clause-stored c = sym (stored_there c.args.rows.now c.args.pk.now c.args.rk.now c.in-Ok.at c.index-rows-at.result c.requires c.in-Ok.ensures)

pub returns-in-Ok-clause-shown : goal.returns-in-Ok-clause-shown
returns-in-Ok-clause-shown c = sym (shown_there c.args.rows.now c.args.pk.now c.args.rk.now c.in-Ok.at c.index-rows-at.result c.requires c.in-Ok.ensures)

pub returns-in-Err-clause-stored : goal.returns-in-Err-clause-stored
returns-in-Err-clause-stored c = sym (find_gap (key_at c.args.pk.now c.args.rk.now) (entries c.args.rows.now) c.in-Err.field-0 c.in-Err.ensures)

pub returns-in-Err-clause-shown : goal.returns-in-Err-clause-shown
returns-in-Err-clause-shown c = sym (ap (option_map (shown c.args.rk.now)) (find_gap (key_at c.args.pk.now c.args.rk.now) (entries c.args.rows.now) c.in-Err.field-0 c.in-Err.ensures))
