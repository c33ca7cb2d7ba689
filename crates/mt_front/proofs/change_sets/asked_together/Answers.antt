use Rattle.std.proofs.Common.{◌≡◌, ◌+◌, [], ◌∷◌, ◌++◌, take, inr, refl, sym, subst, arith, rules}
use Rattle.mt_front.proofs.ChangeSetLaws.{Gathered, gathered_more, first_refused, set_gathered}
use Rattle.mt_front.proofs.change_sets.asked_together.Goals as goal

pub returns-in-Refused : goal.returns-in-Refused
returns-in-Refused c =
    let bad = first_refused c.args.table.now c.args.parts.now c.loop-index.index c.index-parts-index.result c.loop-index.ops.items c.loop-index.echoes.items c.in-Refused.refusal
    c.loop-index-test.true c.index-parts-index.is c.loop-index.invariant (rw c.in-Refused.is at c.in_ok-op.ensures.asks) in
    inr (record { index = c.loop-index.index; refusal = c.in-Refused.refusal }, bad, refl)

pub loop-index-preserved : goal.loop-index-preserved
loop-index-preserved c =
    let ops_are : c.push.new.self.items ≡ c.loop-index.ops.items ++ c.in-Write.op ∷ [] = search rules in
    let echoes_are : c.push-in-Write.new.self.items ≡ c.loop-index.echoes.items ++ c.in-Write.echo ∷ [] = search rules in
    let more = gathered_more c.args.table.now c.args.parts.now c.loop-index.index c.index-parts-index.result c.loop-index.ops.items c.loop-index.echoes.items c.in-Write.op c.in-Write.echo
    c.loop-index-test.true c.index-parts-index.is c.loop-index.invariant (rw c.in-Write.is at c.in_ok-op.ensures.asks) (rw c.in-Write.is at c.in_ok-op.ensures.may) in
    subst (λ ops. Gathered c.args.table.now (take (c.loop-index.index + 1) c.args.parts.now) ops c.push-in-Write.new.self.items) (sym ops_are)
    (subst (λ echoes. Gathered c.args.table.now (take (c.loop-index.index + 1) c.args.parts.now) (c.loop-index.ops.items ++ c.in-Write.op ∷ []) echoes) (sym echoes_are) more)

pub returns : goal.returns
returns c = set_gathered c.args.table.now c.args.parts.now c.loop-index.index c.loop-index.ops.items c.loop-index.echoes.items c.write_together.result (omega arith) c.loop-index.invariant c.write_together.ensures
