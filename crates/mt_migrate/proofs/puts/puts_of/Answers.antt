use Rattle.std.proofs.Common.{◌∷◌, ◌++◌, [], List, ap, sym, subst, ◌∙◌}
use Rattle.mt_chain.specs.declared.row.StoredRow.{StoredRow}
use Rattle.mt_chain.specs.TwoLists.{rows_past}
use Rattle.mt_migrate.specs.Chunks.{put_at, with_put}
use Rattle.mt_migrate.proofs.Merging.{Merged, merge_start, merge_more, pushed}
use Rattle.mt_migrate.proofs.puts.puts_of.Goals as goal

pub loop-rk-init : goal.loop-rk-init
loop-rk-init c =
    let upto = c.args.upto.now in
    let rows = c.args.rows.now in
    let entries = c.args.entries.now in (
      [],
      c.in_ok-push.ensures.items ∙ ap (λ ps. ps ++ c.args.first ∷ []) c.new-puts.ensures.items,
      subst (λ (old : List StoredRow). Merged upto rows entries [] old c.as_slice-new.result.now) (sym c.as_slice-old.ensures.value)
          (subst (λ (new : List StoredRow). Merged upto rows entries [] rows new) (sym c.as_slice-new.ensures.value)
          (merge_start upto rows entries c.as_slice-old.ensures.rising c.as_slice-new.ensures.rising)),
    )

pub loop-rk-preserved : goal.loop-rk-preserved
loop-rk-preserved c =
    let upto = c.args.upto.now in
    let rows = c.args.rows.now in
    let entries = c.args.entries.now in
    let m = c.in-Some.rk.now in
    let puts = c.loop-rk.invariant.0 in
    let more = with_put puts (put_at upto rows entries m) in (
      more,
      c.in_ok-push_put.ensures.puts ∙ ap (λ ps. with_put ps (put_at upto rows entries m)) c.loop-rk.invariant.1 ∙ pushed c.args.first puts (put_at upto rows entries m),
      subst (λ (old : List StoredRow). Merged upto rows entries more old c.rows_past-new.result.now) (sym c.rows_past-old.ensures)
          (subst (λ (new : List StoredRow). Merged upto rows entries more (rows_past m c.loop-rk.old.now) new) (sym c.rows_past-new.ensures)
          (merge_more upto rows entries puts c.loop-rk.old.now c.loop-rk.new.now m c.loop-rk.invariant.2 (sym c.in-Some.ensures) c.in_ok-push_put.ensures.tag)),
    )
