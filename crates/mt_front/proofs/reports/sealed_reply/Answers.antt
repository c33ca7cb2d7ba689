use Rattle.std.proofs.Common.{◌≡◌, [], rules}
use Rattle.mt_front.proofs.ReportLaws.{sealed_made}
use Rattle.mt_front.proofs.reports.sealed_reply.Goals as goal

pub returns : goal.returns
returns c =
    let none : c.of-fields.result ≡ [] = search rules in
    sealed_made c.of-fields.result c.in_ok-body.body c.args.close none c.in_ok-body.ensures
