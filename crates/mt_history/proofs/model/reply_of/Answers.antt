use Rattle.mt_history.proofs.ListingLaws.{no_keys}
use Rattle.mt_history.proofs.model.reply_of.Goals as goal

pub of-requires-in-Gap : goal.of-requires-in-Gap
of-requires-in-Gap c = no_keys c.new.result.items c.new.ensures.items
