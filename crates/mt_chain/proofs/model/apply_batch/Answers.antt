use Rattle.std.proofs.Common.{◌∙◌, ap, length}
use Rattle.mt_chain.specs.Table.{table_of}
use Rattle.mt_chain.specs.Model.{with_rows_left}
use Rattle.mt_chain.proofs.ModelLaws.{length-rows_left, left_applied}
use Rattle.mt_chain.proofs.model.apply_batch.Goals as goal

pub leave_all-requires : goal.leave_all-requires
leave_all-requires c =
    ap length c.in_ok-left.ensures.1
    ∙ length-rows_left c.args.ops.now c.args.tags.now (table_of c.args.rows) c.requires.tags

pub returns : goal.returns
returns c =
    let rows = c.args.rows in
    let ops = c.args.ops.now in
    let given = c.args.tags.now in
    record {
      allowed = c.in_ok-left.ensures.0;
      rows = λ key. c.in_ok-leave_all.ensures key ∙ ap (λ ls. with_rows_left ops ls (table_of rows) key) c.in_ok-left.ensures.1 ∙ left_applied ops given (table_of rows) key;
      tags = c.in_ok-tags.ensures;
    }
