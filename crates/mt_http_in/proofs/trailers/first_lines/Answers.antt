use Rattle.std.proofs.Common.{◌≡◌, ◌+◌, ◌-◌, ◌++◌, cond, get_or, take, drop, sym, ap, ◌∙◌, arith}
use Rattle.mt_http_in.specs.Trailers.{is_feed, first_lines}
use Rattle.mt_http_in.proofs.TrailerLaws.{lines_step, feed_is, other_is}
use Rattle.mt_http_in.proofs.trailers.first_lines.Goals as goal
use Rattle.mt_http_in.proofs.trailers.first_lines.Goals.{then-bytes-at-eq10, else-bytes-at-eq10}

pub lines-preserved : goal.lines-preserved
lines-preserved c =
    let left : c.if-bytes-at-eq10.left ≡ c.lines.left - cond (is_feed (get_or c.args.bytes.now c.lines.at 0)) 1 0 =
    elim c.if-bytes-at-eq10.branch [
      | then-bytes-at-eq10 w ↦ w.left-is ∙ feed_is c.lines.left (get_or c.args.bytes.now c.lines.at 0) w.if-bytes-at-eq10.true
      | else-bytes-at-eq10 w ↦ w.left-is ∙ other_is c.lines.left (get_or c.args.bytes.now c.lines.at 0) w.if-bytes-at-eq10.false
    ] in
    record {
      within = omega (arith, c.lines-test.true);
      same = lines_step c.args.most c.lines.at c.lines.left c.args.bytes.now c.lines-test.true c.if-left-gt0.true c.lines.invariant.same
          ∙ ap (λ k. take (c.lines.at + 1) c.args.bytes.now ++ first_lines k (drop (c.lines.at + 1) c.args.bytes.now)) (sym left);
    }
