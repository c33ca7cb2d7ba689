use Rattle.mt_front.proofs.BodyKeyLaws.{read_keys}
use Rattle.mt_front.proofs.changes.insert_by.Goals as goal

pub insert_of-requires-clause-keys : goal.insert_of-requires-clause-keys
insert_of-requires-clause-keys c = read_keys c.args.bytes.now c.in-Ok.body c.in-Ok.ensures.read
