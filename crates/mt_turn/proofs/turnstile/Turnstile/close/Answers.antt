use Rattle.std.proofs.Common.{rules}
use Rattle.mt_turn.proofs.MeetLaws.{closes}
use Rattle.mt_turn.proofs.turnstile.Turnstile.close.Goals as goal

pub returns-then-word-eq0 : goal.returns-then-word-eq0
returns-then-word-eq0 g c = let j = g.W.Journaled in record { found = closes j.window j.base_after j.fixed j.caller_of j.holds j.tells j.apart c.args.self.table.shared.key.value _ _ c.args.pass.seat.id c.args.pass.seat.me.0 c.word-word.result c.take-value.result (search rules) (search rules) c.close_with-closed.ensures.values.2 (search rules) (search rules) (search rules) }
