use Rattle.std.proofs.Common.{refl}
use Rattle.std.specs.Option.{unwrap_or}
use Rattle.std.proofs.lemmas.Result.{err_from_is_err_and}
use Rattle.mt_words.specs.Words.{common_of}
use Rattle.mt_words.specs.Readings.{given_of}
use Rattle.mt_words.proofs.words.read_drill.Goals as goal

pub returns-in_err-common : goal.returns-in_err-common
returns-in_err-common c =
    let p = err_from_is_err_and c.from_residual.result c.from_residual.ensures.1 in
    rw (p.1, p.2) (c.in-Some-number.number, unwrap_or c.in-Some.settings.events 1000, common_of (given_of c.in-Some.settings), record { given = given_of c.in-Some.settings; options = c.in-Some.ensures.options; numbered = c.in-Some-number.is; events_are = refl; common_is = refl })
