use Rattle.std.proofs.Common.{◌+◌, List, drop, ap, ◌∙◌}
use Rattle.mt_mem.specs.Entries.{Row}
use Rattle.mt_mem.specs.declared.rewrite.Rewrite.TheInside.{Inside}
use Rattle.mt_mem.proofs.RewriteLaws.{replaced_left, next_left}
use Rattle.mt_mem.proofs.rewrite.Rewrite.skip.Goals as goal
use Rattle.mt_mem.proofs.rewrite.Rewrite.skip.Goals.{in-Some, in_default}

-- what is left once the place has moved on
abbrev left_then : Inside → List Row
left_then s = drop (s.read + 1) s.rows.items

pub returns-clause-left : goal.returns-clause-left
returns-clause-left c =
    let s = c.self.inside in
    elim c.match-pop_front.branch [
      | in-Some w ↦ ap left_then w.self-inside-is ∙ replaced_left s.rows.items s.read w.in-Some.first ∙ ap (λ v. drop 1 v.left) c.self.view_is
      | in_default w ↦ ap left_then w.self-inside-is ∙ next_left s.rows.items s.read ∙ ap (λ v. drop 1 v.left) c.self.view_is
    ]
