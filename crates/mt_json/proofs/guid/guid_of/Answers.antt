use Rattle.std.proofs.Common.{◌≡◌, ◌∙◌, true, false}
use Rattle.uuid.specs.Text.{parsed_hyphenated}
use Rattle.mt_json.proofs.GuidLaws.{none_unless, parsed_36}
use Rattle.mt_json.proofs.guid.guid_of.Goals as goal

pub returns-in-Err : goal.returns-in-Err
returns-in-Err c =
    none_unless (parsed_hyphenated c.args.text.now)
    (λ u e. let broken : false ≡ true = c.in-Err.ensures.ok.1 (u, parsed_36 c.args.text.now c.if-text-ne36.false ∙ e) in cc)
