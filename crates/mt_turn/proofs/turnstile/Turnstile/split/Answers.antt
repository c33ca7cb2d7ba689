use Rattle.std.proofs.Common.{rules}
use Rattle.mt_turn.proofs.MeetLaws.{numbers}
use Rattle.mt_turn.proofs.turnstile.Turnstile.split.Goals as goal

pub split_seat-seat-requires : goal.split_seat-seat-requires
split_seat-seat-requires g c = let j = g.W.Journaled in (search rules, search rules, numbers j.window j.base_after j.fixed j.caller_of j.holds j.tells j.apart _ _ _ (search rules) (search rules))
