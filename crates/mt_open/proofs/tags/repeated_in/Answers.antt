use Rattle.std.proofs.Common.{◌≡◌, ◌<◌, length, get_or, subst, rules}
use Rattle.mt_chain.specs.Rows.{Rows}
use Rattle.mt_open.proofs.RepeatLaws.{counted_more, counted_same}
use Rattle.mt_open.proofs.tags.repeated_in.Goals.{then-tag-number+in_ok-note, else-tag-number}
use Rattle.mt_open.proofs.tags.repeated_in.Goals as goal

pub loop-row-preserved : goal.loop-row-preserved
loop-row-preserved c =
    let rows = c.args.store.now.contents.rows in
    let inside : c.loop-row.row-index < length rows = subst (λ (r : Rows). c.loop-row.row-index < length r) c.rows-row-items.ensures.value c.loop-row-test.true in
    let is : c.row-item.result ≡ get_or rows c.loop-row.row-index c.row-item.result =
    subst (λ (r : Rows). c.row-item.result ≡ get_or r c.loop-row.row-index c.row-item.result) c.rows-row-items.ensures.value c.row-item.is in
    elim c.if-tag-number.branch [
      | then-tag-number+in_ok-note w ↦ rw (w.seen-is, w.repeated-is) (
          counted_more c.args.store.now.number rows c.loop-row.row-index c.row-item.result c.loop-row.seen c.loop-row.repeated w.note.new.seen w.note.new.repeated
          inside is (search rules) w.in_ok-note.ensures.seen w.in_ok-note.ensures.repeated c.loop-row.invariant)
      | else-tag-number w ↦ rw (w.seen-is, w.repeated-is) (
          counted_same c.args.store.now.number rows c.loop-row.row-index c.row-item.result c.loop-row.seen c.loop-row.repeated
          inside is (search rules) c.loop-row.invariant)
    ]
