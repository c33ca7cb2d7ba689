use Rattle.mt_http_in.proofs.TrailerLaws.{lines_before_crlf}
use Rattle.mt_http_in.proofs.trailers.lines_len.Goals as goal

pub returns-then-section-len-eq13 : goal.returns-then-section-len-eq13
returns-then-section-len-eq13 c fields last e = lines_before_crlf c.args.section.now fields last e c.if-len-lt2.false c.if-section-len-eq13.true
