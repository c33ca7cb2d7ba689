use Rattle.mt_front.proofs.ReadLaws.{listed}
use Rattle.mt_front.proofs.reads.add_rows.Goals as goal

pub returns-in_ok-add_row-in-len1-up : goal.returns-in_ok-add_row-in-len1-up
returns-in_ok-add_row-in-len1-up c =
    let text = c.in_ok-add_row-in-len1-up.ensures in
    listed c.args.show.now c.args.body.now.items c.add_row.new.body.items c.add_rest.new.body.items c.args.rows.now c.row-item.result text.0 c.add_rest.result
    c.in-len1-up.len_at_least c.row-item.is text.1 text.2 c.add_rest.ensures
