use Rattle.std.proofs.Common.{◌++◌, List, ap, sym, subst, ◌∙◌}
use Rattle.mt_chain.specs.declared.row.Put.{Put}
use Rattle.mt_chain.specs.Puts.{CanApply}
use Rattle.mt_clean.specs.Cleanings.{deletes_of}
use Rattle.mt_clean.proofs.RowLists.{can_purge}
use Rattle.mt_clean.proofs.asks.purge.Goals as goal

pub returns-clause-can : goal.returns-clause-can
returns-clause-can c = subst CanApply
    (sym (
    c.of.ensures
    ∙ c.in_ok-push_deletes.ensures
    ∙ ap (λ (puts : List Put). puts ++ deletes_of c.as_slice-tombs.result.now) c.in_ok-puts.ensures.items
    ∙ ap deletes_of c.as_slice-tombs.ensures.value
    ))
    (can_purge c.args.tombs.now c.as_slice-tombs.ensures.rising c.requires)
