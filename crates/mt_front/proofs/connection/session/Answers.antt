use Rattle.std.proofs.Common.{subst}
use Rattle.mt_io.specs.Ends.{Sends}
use Rattle.mt_front.proofs.TalkLaws.{told_want}
use Rattle.mt_front.proofs.connection.session.Goals as goal

pub returns-in-Err-NoMemory : goal.returns-in-Err-NoMemory
returns-in-Err-NoMemory g c =
    told_want 0 c.args.table.now c.args.world.now (g.S.Source.input c.args.source.now) (g.T.Sink.output c.args.sink.now) (g.T.Sink.output c.converse.new.sink) (g.T.Sink.output c.send.new.sink) c.send.result
    c.converse.new.world (g.S.Source.input c.converse.new.source) (rw c.in-Err-NoMemory.field-0-is at c.in-Err-NoMemory.ensures)
    (subst (λ b. Sends (g.T.Sink.output c.converse.new.sink) b c.send.result (g.T.Sink.output c.send.new.sink)) c.no_memory.ensures c.send.ensures)
