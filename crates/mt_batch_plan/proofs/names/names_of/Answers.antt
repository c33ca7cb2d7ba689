use Rattle.std.proofs.Common.{ℕ, ◌≤◌, List, length, sym, subst}
use Rattle.mt_batch_plan.specs.Calls.{AreNames}
use Rattle.mt_batch_plan.proofs.NameLaws.{are_names, few_names}
use Rattle.mt_batch_plan.proofs.names.names_of.Goals as goal

pub returns-clause-names : goal.returns-clause-names
returns-clause-names c =
    subst (AreNames c.args.ops.now) (sym c.of.ensures)
    (are_names c.args.ops.now c.in_ok-names.names.items c.sort.new.names.items c.requires c.in_ok-names.ensures c.sort.ensures.permutation c.sort.ensures.sorted)

pub returns-clause-few : goal.returns-clause-few
returns-clause-few c =
    subst (λ (names : List (List ℕ)). length names ≤ 101) (sym c.of.ensures)
    (few_names c.args.ops.now c.sort.new.names.items c.requires
    (are_names c.args.ops.now c.in_ok-names.names.items c.sort.new.names.items c.requires c.in_ok-names.ensures c.sort.ensures.permutation c.sort.ensures.sorted))
