use Rattle.std.proofs.Common.{subst, sym}
use Rattle.mt_mem.specs.Memory.{AreRows}
use Rattle.mt_mem.specs.Entries.{entries}
use Rattle.mt_mem.proofs.TagLaws.{no_rows_yet}
use Rattle.mt_paged.proofs.keeper.PagedKeeper.new.Goals as goal

pub with_rows-requires : goal.with_rows-requires
with_rows-requires c = record { rows = subst (λ rs. AreRows c.args.store 0 (entries rs)) (sym c.new.ensures.items) (no_rows_yet c.args.store 0) }
