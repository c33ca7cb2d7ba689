use Rattle.std.proofs.Common.{◌++◌, ◌∷◌, [], ap, sym, subst, ◌∙◌}
use Rattle.mt_chain.specs.Puts.{CanApply}
use Rattle.mt_chain.proofs.PutLaws.{can_apply_one}
use Rattle.mt_keeper_tests.proofs.build.one.Goals as goal

pub returns : goal.returns
returns c = subst CanApply (sym (c.of.ensures ∙ c.in_ok-push.ensures.items ∙ ap (λ ps. ps ++ c.args.put ∷ []) c.new-puts.ensures.items)) (can_apply_one c.args.put)
