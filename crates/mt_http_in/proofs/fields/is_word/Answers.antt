use Rattle.mt_http_in.proofs.WordLaws.{word_is}
use Rattle.mt_http_in.proofs.fields.is_word.Goals as goal

pub returns : goal.returns
returns c = word_is c.args.a.now c.args.b.now c.eq_ignore_ascii_case.result c.eq_ignore_ascii_case.ensures.test
