use Rattle.std.proofs.Common.{ap, ◌∙◌, sym, subst}
use Rattle.mt_scan.specs.Pages.{is_over, IsPage}
use Rattle.mt_scan.proofs.FitLaws.{begun_is, start_fits, start_goes}
use Rattle.mt_scan.proofs.call.PageCall.new.Goals as goal

pub invariant_of-result : goal.invariant_of-result
invariant_of-result c = subst IsPage (sym (begun_is c.args.filter c.args.bounds c.args.top c.args.token _ _ c.new.ensures.items (c.start_of.ensures c.args.bounds))) (start_fits c.args.filter c.args.bounds c.args.top c.args.token c.requires.bounds c.requires.token)

pub returns-clause-begun : goal.returns-clause-begun
returns-clause-begun c = begun_is c.args.filter c.args.bounds c.args.top c.args.token _ _ c.new.ensures.items (c.start_of.ensures c.args.bounds)

pub returns-clause-goes : goal.returns-clause-goes
returns-clause-goes c = ap is_over (begun_is c.args.filter c.args.bounds c.args.top c.args.token _ _ c.new.ensures.items (c.start_of.ensures c.args.bounds)) ∙ start_goes c.args.filter c.args.bounds c.args.top c.args.token c.requires.top.0
