use Rattle.std.proofs.lemmas.List.{take_rest}
use Rattle.mt_mime.proofs.HeaderLaws.{peels}
use Rattle.mt_mime.proofs.headers.peel_fields.Goals as goal

pub returns : goal.returns
returns c = peels c.args.text.now c.find_fields.new.room c.in-Some.len c.in-Some.count _ c.in-Some.ensures.fields (take_rest c.args.text.now c.in-Some.len) c.value_named-content_type.ensures
