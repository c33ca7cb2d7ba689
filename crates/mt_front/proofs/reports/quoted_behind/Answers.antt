use Rattle.std.proofs.Common.{◌≡◌, ◌∙◌, List, [], ◌∷◌, ◌++◌, ap}
use Rattle.json.specs.Token.{string}
use Rattle.json.specs.Print.{print}
use Rattle.mt_front.proofs.ReportLaws.{printed_alone}
use Rattle.mt_front.proofs.reports.quoted_behind.Goals as goal

pub returns : goal.returns
returns c =
    c.into_inner.ensures.items
    ∙ ap (λ before. before ++ print c.string.new.self.tokens) (c.in_ok-string.ensures.room.0 ∙ c.new-writer.ensures.before)
    ∙ ap (λ tokens. c.args.text.items ++ print tokens) (c.in_ok-string.ensures.ok ∙ ap (λ tokens. tokens ++ string c.args.sentence.now ∷ []) c.new-writer.ensures.tokens)
    ∙ ap (λ z. c.args.text.items ++ z) (printed_alone c.args.sentence.now)
