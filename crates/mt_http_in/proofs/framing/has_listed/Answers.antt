use Rattle.std.proofs.Common.{sym, ap, ◌∙◌}
use Rattle.mt_http_in.specs.Fields.{has_word}
use Rattle.mt_http_in.proofs.PieceLaws.{word_here, word_later, word_only}
use Rattle.mt_http_in.proofs.framing.has_listed.Goals as goal

pub returns-then-is_word : goal.returns-then-is_word
returns-then-is_word c =
    word_here c.args.word.now c.args.value.now c.words.rest.now c.trimmed.result.now c.in-Some.at c.words.invariant (sym c.comma_at.ensures.value ∙ c.in-Some.is) c.trimmed.ensures (sym c.is_word.ensures ∙ c.if-is_word.true)

pub words-preserved : goal.words-preserved
words-preserved c =
    word_later c.args.word.now c.args.value.now c.words.rest.now c.trimmed.result.now c.in-Some.at c.words.invariant (sym c.comma_at.ensures.value ∙ c.in-Some.is) c.trimmed.ensures (sym c.is_word.ensures ∙ c.if-is_word.false) ∙ ap (has_word c.args.word.now) (sym c.after_comma-rest.ensures)

pub returns-in-None : goal.returns-in-None
returns-in-None c =
    c.is_word-in-None.ensures ∙ word_only c.args.word.now c.args.value.now c.words.rest.now c.trimmed-in-None.result.now c.words.invariant (sym c.comma_at.ensures.value ∙ c.in-None.is) c.trimmed-in-None.ensures
