use Rattle.std.proofs.Common.{◌≡◌, ap, ◌∙◌, cond, subst, sym, false}
use Rattle.mt_mem.specs.Memory.{counted, failed, Judges, is_failing, is_at_end}
use Rattle.mt_mem.proofs.MemoryLaws.{applies_judged}
use Rattle.mt_paged.proofs.keeper.PagedKeeperKeeper.apply.Goals as goal
use Rattle.mt_paged.proofs.keeper.PagedKeeperKeeper.apply.Goals.{then-is_failing, else-is_failing}

pub returns-clause-keeper : goal.returns-clause-keeper
returns-clause-keeper c =
    let m = c.args.self.now.memory in
    let after : c.count_call.new.self.memory ≡ counted m = c.count_call.ensures.after ∙ ap (λ b. cond b (failed m) (counted m)) c.if-fails.false in
    let both : (is_failing m ≡ false) × (is_at_end m c.args.puts.now ≡ false) = elim c.if-is_failing.branch [
      | then-is_failing w ↦ (let is = sym w.fails-is ∙ c.if-fails.false in absurd cc)
      | else-is_failing w ↦ (sym c.is_failing.ensures ∙ w.if-is_failing.false, sym w.is_at_end-fails.ensures ∙ sym w.fails-is ∙ c.if-fails.false)
    ] in
    applies_judged m c.args.pk.now c.args.puts.now c.judge.result c.judge.new.self.memory both.0 both.1 c.count_call.ensures.memory c.count_call.ensures.grew.0
    (subst (λ n. Judges n c.args.pk.now c.args.puts.now c.judge.result c.judge.new.self.memory) after c.judge.ensures)

pub judge-requires-clause-can : goal.judge-requires-clause-can
judge-requires-clause-can c = c.requires
