use Rattle.std.proofs.Common.{rules}
use Rattle.mt_turn.proofs.TurnLaws.{opens}
use Rattle.mt_turn.proofs.turnstile.Turnstile.new.Goals as goal

pub new-requires : goal.new-requires
new-requires g c = let j = g.W.Journaled in opens j.window j.base_after j.fixed j.caller_of j.holds j.tells j.apart c.of-about.result.value _ _ (search rules) (search rules) (search rules)
