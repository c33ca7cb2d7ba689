use Rattle.std.proofs.Common.{ap, ◌∙◌, option_map}
use Rattle.mt_model.specs.declared.entity.Entity.{Entity}
use Rattle.mt_scan.proofs.ChunkLaws.{last_get}
use Rattle.mt_scan.proofs.chunk.last_of.Goals as goal

pub returns-in-Some : goal.returns-in-Some
returns-in-Some c = ap (option_map (λ (e : Entity). e.key.rk)) c.in-Some.ensures.value ∙ last_get c.args.rows.now
