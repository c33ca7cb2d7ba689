use Rattle.std.proofs.Common.{◌≡◌, ◌∙◌, sym, ap, None}
use Rattle.mt_rules.specs.Batches.{batch_fault}
use Rattle.mt_rules.proofs.PlaceLaws.{is_batch}
use Rattle.mt_rules.proofs.batch.check_batch.Goals as goal

pub invariant_of-result : goal.invariant_of-result
invariant_of-result c =
    let none : batch_fault c.args.ops.items ≡ None = ap batch_fault (sym c.deref.ensures.value) ∙ sym c.in_ok-fault.ensures ∙ c.in-None.is in
    is_batch c.args.ops.items none c.requires
