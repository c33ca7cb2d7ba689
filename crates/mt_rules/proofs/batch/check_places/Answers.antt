use Rattle.std.proofs.Common.{◌≡◌, ◌∙◌, sym, ap, true, false, Some, take}
use Rattle.mt_chain.specs.Effect.{op_key}
use Rattle.mt_chain.proofs.KeyLaws.{text_true}
use Rattle.mt_rules.specs.declared.batch.BatchFault.TheVariants.{Twice}
use Rattle.mt_rules.specs.Batches.{place_fault}
use Rattle.mt_rules.proofs.PlaceLaws.{has_row, seen_step, of_step, left_step, here_step, twice_place, no_place, not_true, not_false}
use Rattle.mt_rules.proofs.batch.check_places.Goals as goal

pub returns-in-Ok-false : goal.returns-in-Ok-false
returns-in-Ok-false c =
    let at = c.loop-at.at in
    let pk = c.args.pk.now in
    let ops = c.args.ops.now in
    let op = c.index-ops-at.result in
    let named : c.as_str.result.now ≡ (op_key op).rk = c.as_str.ensures ∙ ap (λ k. k.rk) c.key-key.ensures in
    let same : (op_key op).pk ≡ pk = sym (ap (λ k. k.pk) c.key-key.ensures) ∙ text_true c.key-key.result.now.pk pk (not_false _ (sym c.if-ne.ensures)) in
    let seen : has_row (op_key op).rk (take at ops) ≡ true =
    ap (λ r. has_row r (take at ops)) (sym named) ∙ sym (c.loop-at.invariant.seen c.as_str.result) ∙ not_false _ (sym c.in-Ok-false.ensures.added ∙ c.in-Ok-false.field-0-test) in
    let twice : place_fault pk (take at ops) at op ≡ Some (Twice at) = twice_place pk (take at ops) at op same c.loop-at.invariant.one seen in
    sym (sym c.loop-at.invariant.left ∙ here_step pk ops at op (Twice at) c.loop-at-test.true c.index-ops-at.is twice)

pub loop-at-preserved : goal.loop-at-preserved
loop-at-preserved c =
    let at = c.loop-at.at in
    let pk = c.args.pk.now in
    let ops = c.args.ops.now in
    let op = c.index-ops-at.result in
    let same : (op_key op).pk ≡ pk = sym (ap (λ k. k.pk) c.key-key.ensures) ∙ text_true c.key-key.result.now.pk pk (not_false _ (sym c.if-ne.ensures)) in
    let named : c.as_str.result.now ≡ (op_key op).rk = c.as_str.ensures ∙ ap (λ k. k.rk) c.key-key.ensures in
    let seen : has_row (op_key op).rk (take at ops) ≡ false =
    ap (λ r. has_row r (take at ops)) (sym named) ∙ sym (c.loop-at.invariant.seen c.as_str.result) ∙ not_true _ (sym c.in-Ok-true.ensures.added ∙ c.in-Ok-true.field-0-test) in
    record {
      left = left_step pk ops at op c.loop-at-test.true c.index-ops-at.is (no_place pk (take at ops) at op same c.loop-at.invariant.one seen) ∙ c.loop-at.invariant.left;
      seen = λ n. seen_step ops at op c.as_str.result.now n.now _ _ c.loop-at-test.true c.index-ops-at.is named (c.in-Ok-true.ensures.updates.0 n) (c.loop-at.invariant.seen n);
      one = of_step pk ops at op c.loop-at-test.true c.index-ops-at.is c.loop-at.invariant.one same;
    }
