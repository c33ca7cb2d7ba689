use Rattle.std.proofs.Common.{◌≡◌, ◌^◌, ◌-◌, ◌∙◌, ap, arith, min, sum_by}
use Rattle.mt_chain.specs.Merges.{size_beside}
use Rattle.mt_chain.proofs.MergeLaws.{size_merged}
use Rattle.mt_chain.proofs.cause.merged_size.Goals as goal

pub returns : goal.returns
returns c =
    let own = c.args.own.now in
    let over = c.args.over.now in
    let second : c.total_beside.result ≡ min (2 ^ 64 - 1) (sum_by (size_beside over) own) = c.total_beside.ensures ∙ ap (λ ps. min (2 ^ 64 - 1) (sum_by (size_beside over) ps)) c.as_slice.ensures.value in
    let all = size_merged own over c.requires.0 c.requires.1 in
    omega (arith, c.saturating_add.ensures, c.size-over_size.ensures, second, all)
