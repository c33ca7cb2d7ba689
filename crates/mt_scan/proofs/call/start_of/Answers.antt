use Rattle.std.proofs.Common.{ap, ◌∙◌, sym}
use Rattle.mt_scan.specs.Units.{place_of}
use Rattle.mt_scan.proofs.call.start_of.Goals as goal

pub returns-in-Some : goal.returns-in-Some
returns-in-Some c bounds = c.place_of.ensures bounds ∙ ap (place_of bounds) (sym c.in-Some.is)
