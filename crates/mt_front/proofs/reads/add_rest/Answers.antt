use Rattle.mt_front.proofs.ReadLaws.{added_at}
use Rattle.mt_front.proofs.reads.add_rest.Goals as goal

pub loop-row-preserved : goal.loop-row-preserved
loop-row-preserved c =
    let text = c.in_ok-add_row.ensures in
    added_at c.args.show.now c.args.body.now.items c.args.rows.now c.loop-row.row-index c.loop-row.body.items c.add.new.body.items c.add_row.new.body.items c.row-item.result text.0
    c.loop-row-test.true c.row-item.is c.loop-row.invariant c.in_ok-add.ensures text.1 text.2
