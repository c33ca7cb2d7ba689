use Rattle.mt_front.proofs.TalkLaws.{On}
use Rattle.mt_front.proofs.connection.converse.Given as goal

abbrev pub invariant-requests : goal.invariant-requests
invariant-requests g l = On 0 l.fn.table (g.S.Source.input l.fn.source) (g.T.Sink.output l.fn.sink) l.fn.world l.requests
    l.reader (g.S.Source.input l.source) (g.T.Sink.output l.sink) l.world l.machines
