use Rattle.std.proofs.Common.{◌≡◌, ◌<◌, ◌≤◌, length, get_or, subst, arith}
use Rattle.mt_chain.specs.Rows.{Rows}
use Rattle.mt_meta.specs.Steps.{contents_of}
use Rattle.mt_open.specs.Holdings.{pair_in}
use Rattle.mt_open.proofs.LeastLaws.{at_found, least_none, least_some}
use Rattle.mt_open.proofs.first.least_in.Goals as goal

pub fails-requires : goal.fails-requires
fails-requires c =
    let rows = (contents_of (pair_in c.args.stores.now) c.args.side).rows in
    let inside : c.loop-row.row-index < length rows = subst (λ (r : Rows). c.loop-row.row-index < length r) c.rows_on-row-items.ensures.value c.loop-row-test.true in
    let is : c.row-item.result ≡ get_or rows c.loop-row.row-index c.row-item.result =
    subst (λ (r : Rows). c.row-item.result ≡ get_or r c.loop-row.row-index c.row-item.result) c.rows_on-row-items.ensures.value c.row-item.is in
    record {
      repeats = c.requires;
      rising = c.rows_on-row-items.ensures.rising;
      found = at_found rows c.loop-row.row-index c.row-item.result c.rows_on-row-items.ensures.rising inside is;
    }

pub returns-then-branch : goal.returns-then-branch
returns-then-branch c =
    let rows = (contents_of (pair_in c.args.stores.now) c.args.side).rows in
    let inside : c.loop-row.row-index < length rows = subst (λ (r : Rows). c.loop-row.row-index < length r) c.rows_on-row-items.ensures.value c.loop-row-test.true in
    let is : c.row-item.result ≡ get_or rows c.loop-row.row-index c.row-item.result =
    subst (λ (r : Rows). c.row-item.result ≡ get_or r c.loop-row.row-index c.row-item.result) c.rows_on-row-items.ensures.value c.row-item.is in
    least_some (pair_in c.args.stores.now) c.args.rule c.args.side c.loop-row.row-index c.row-item.result c.rows_on-row-items.ensures.rising inside is
    (c.in_ok-fails.ensures.0 c.if-branch.true) c.loop-row.invariant

pub returns : goal.returns
returns c =
    least_none (pair_in c.args.stores.now) c.args.rule c.args.side c.loop-row.row-index
    (subst (λ (r : Rows). length r ≤ c.loop-row.row-index) c.rows_on-row-items.ensures.value (omega (arith, c.loop-row-test.false)))
    c.loop-row.invariant
