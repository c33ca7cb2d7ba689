use Rattle.std.proofs.Common.{length, ap, arith}
use Rattle.std.proofs.lemmas.List.{length-append}
use Rattle.mt_history.specs.Stacks.{Stack, joined}
use Rattle.mt_history.proofs.BlockLaws.{joined_length}
use Rattle.mt_history.proofs.blocks.Blocks.len.Goals as goal

-- as many as stand in full blocks and behind them
pub returns : goal.returns
returns c =
    let full = joined_length c.self.inside.full.items c.self.invariant.0 in
    let both = length-append (joined c.self.inside.full.items) c.self.inside.last.items in
    let all = ap (λ (v : Stack). length v.entries) c.self.view_is in
    let one = ap length c.as_slice.ensures.value in
    let two = ap length c.as_slice-2.ensures.value in
    omega (arith, full, both, all, one, two)

pub overflow_mul-result : goal.overflow_mul-result
overflow_mul-result c =
    let full = joined_length c.self.inside.full.items c.self.invariant.0 in
    let both = length-append (joined c.self.inside.full.items) c.self.inside.last.items in
    let all = ap (λ (v : Stack). length v.entries) c.self.view_is in
    let one = ap length c.as_slice.ensures.value in
    let few = c.requires in
    omega (arith, full, both, all, one, few)

pub overflow_add-result : goal.overflow_add-result
overflow_add-result c =
    let full = joined_length c.self.inside.full.items c.self.invariant.0 in
    let both = length-append (joined c.self.inside.full.items) c.self.inside.last.items in
    let all = ap (λ (v : Stack). length v.entries) c.self.view_is in
    let one = ap length c.as_slice.ensures.value in
    let two = ap length c.as_slice-2.ensures.value in
    let few = c.requires in
    omega (arith, full, both, all, one, two, few)
