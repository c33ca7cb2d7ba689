use Rattle.std.proofs.Common.{arith}
use Rattle.mt_model.specs.Tag.{tag_text}
use Rattle.mt_json.proofs.TagLaws.{at_most}
use Rattle.mt_json.proofs.draft.Draft.room.Goals as goal

pub returns-clause-enough : goal.returns-clause-enough
returns-clause-enough c = λ tag is.
    let d = c.args.self.now in
    omega (arith, d.valid.sized (tag_text tag), at_most d.level tag is)
