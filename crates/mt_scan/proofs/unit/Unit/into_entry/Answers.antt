use Rattle.std.proofs.Common.{refl, sym, ap, option_copied}
use Rattle.mt_scan.specs.Units.{entry_of}
use Rattle.mt_scan.proofs.unit.Unit.into_entry.Goals as goal

pub returns-in-Gap : goal.returns-in-Gap
returns-in-Gap c = (option_copied c.args.filter, refl, sym (ap (entry_of (option_copied c.args.filter)) c.in-Gap.is))
