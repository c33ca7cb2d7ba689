use Rattle.mt_mime.proofs.ReplyLaws.{whole_fits}
use Rattle.mt_mime.proofs.drafting.room_for.Goals as goal

pub returns : goal.returns
returns c = whole_fits c.args.forms.now c.in-Some.parts c.in-Some-checked_add.size c.in-Some.ensures c.in-Some-checked_add.ensures.0 c.in-Some-checked_add.ensures.1
