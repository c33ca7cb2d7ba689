use Rattle.std.proofs.Common.{◌≡◌, drop}
use Rattle.std.specs.List.{list_any}
use Rattle.mt_migrate.specs.Chunks.{wants_put}
use Rattle.mt_migrate.proofs.chunk.is_any_wanting.Given as goal

abbrev pub invariant-loop-row : goal.invariant-loop-row
invariant-loop-row l = list_any (λ r. wants_put l.upto l.rows l.entries r.rk) (drop l.row-index l.keys) ≡ list_any (λ r. wants_put l.upto l.rows l.entries r.rk) l.keys
