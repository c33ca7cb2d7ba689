use Rattle.std.proofs.Common.{◌≡◌, ◌∙◌, ap, arith, count_by}
use Rattle.mt_model.specs.Props.{visible_count}
use Rattle.mt_chain.specs.Merges.{is_seen_beside}
use Rattle.mt_chain.proofs.MergeLaws.{count_merged}
use Rattle.mt_chain.proofs.cause.merged_count.Goals as goal

pub returns-clause-count : goal.returns-clause-count
returns-clause-count c =
    let own = c.args.own.now in
    let over = c.args.over.now in
    let first : c.count_visible-over_count.result ≡ visible_count over = c.count_visible-over_count.ensures ∙ ap visible_count c.as_slice.ensures.value in
    let second : c.count_beside.result ≡ count_by (is_seen_beside over) own = c.count_beside.ensures ∙ ap (count_by (is_seen_beside over)) c.as_slice-2.ensures.value in
    let all = count_merged own over c.as_slice-2.ensures.valid c.as_slice.ensures.valid in
    omega (arith, c.saturating_add.ensures, first, second, all)
