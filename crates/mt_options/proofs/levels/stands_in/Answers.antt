use Rattle.std.proofs.Common.{sym, ◌∙◌}
use Rattle.mt_options.proofs.LevelLaws.{stands_here}
use Rattle.mt_options.proofs.levels.stands_in.Goals as goal

pub returns-then-begins_with : goal.returns-then-begins_with
returns-then-begins_with c = sym (stands_here c.args.word.now c.places.rest.now (sym c.begins_with.ensures ∙ c.if-begins_with.true)) ∙ c.places.invariant
