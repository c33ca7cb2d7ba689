use Rattle.std.proofs.Common.{◌≡◌, ◌++◌, drop, [], get_or, suc}
use Rattle.mt_paged.specs.Pages.{joined}
use Rattle.mt_paged.specs.Walks.{walk}
use Rattle.mt_paged.proofs.answer.walk_from.Given as goal

abbrev pub invariant-loop-at : goal.invariant-loop-at
invariant-loop-at l = walk l.pk l.range l.found.items (joined (drop l.at l.pages.pages)) ≡ walk l.pk l.range [] (drop l.place (get_or l.pages.pages l.first []) ++ joined (drop (suc l.first) l.pages.pages))
