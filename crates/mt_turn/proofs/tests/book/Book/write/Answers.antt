use Rattle.std.proofs.Common.{refl}
use Rattle.std.specs.Result.{is_ok}
use Rattle.mt_turn.proofs.Theorems.{gives_same, gives_at_most_one}
use Rattle.mt_turn.proofs.tests.book.Book.write.Goals as goal

pub returns-then-made-clause-may : goal.returns-then-made-clause-may
returns-then-made-clause-may c = gives_at_most_one _ _ c.args.caller _ _ (is_ok c.push.result) _ refl c.push.ensures.items

pub returns-else-made-clause-may : goal.returns-else-made-clause-may
returns-else-made-clause-may c = gives_same _ _ c.args.caller _
