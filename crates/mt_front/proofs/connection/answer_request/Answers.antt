use Rattle.mt_front.specs.Asks.{request_of}
use Rattle.mt_front.proofs.PageLaws.{request_may}
use Rattle.mt_front.proofs.connection.answer_request.Goals as goal

pub answer-requires : goal.answer-requires
answer-requires g c = record { may = request_may c.args.table.now (request_of c.args.request) c.in-Ok.asks c.in-Ok.ensures; held = c.requires }
