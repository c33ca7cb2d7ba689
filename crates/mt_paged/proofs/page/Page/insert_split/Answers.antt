use Rattle.std.proofs.Common.{arith}
use Rattle.mt_paged.proofs.PageLaws.{put_first, put_second}
use Rattle.mt_paged.proofs.page.Page.insert_split.Goals as goal

pub returns-then-at-half-clause-all : goal.returns-then-at-half-clause-all
returns-then-at-half-clause-all c =
    let full = c.requires.full in
    let within = c.cut_for-half.ensures.within.1 in
    rw (c.insert.ensures, c.split.ensures.left, c.split.ensures.right) (put_first c.args.self.now c.cut_for-half.result c.args.at c.args.row (let l = c.if-at-half.true in omega arith) (omega arith))

pub returns-else-at-half-clause-all : goal.returns-else-at-half-clause-all
returns-else-at-half-clause-all c =
    let full = c.requires.full in
    let within = c.cut_for-half.ensures.within.1 in
    rw (c.insert-else-at-half.ensures, c.split.ensures.left, c.split.ensures.right) (put_second c.args.self.now c.cut_for-half.result c.args.at c.args.row c.if-at-half.false (omega arith))
