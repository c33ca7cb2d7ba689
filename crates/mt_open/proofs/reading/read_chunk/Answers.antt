use Rattle.std.proofs.Common.{subst, sym}
use Rattle.mt_chain.specs.StoreCall.{CanQuery}
use Rattle.mt_open.proofs.ReadingLaws.{can_ask}
use Rattle.mt_open.proofs.reading.read_chunk.Goals as goal

pub ask-requires : goal.ask-requires
ask-requires g c = subst CanQuery (sym c.in_ok-query.ensures) (can_ask c.args.pk.now c.args.from)
