use Rattle.std.proofs.Common.{option_map, option_copied}
use Rattle.mt_mem.specs.Entries.{entry}
use Rattle.mt_paged.specs.Fronts.{is_in_front}
use Rattle.mt_paged.proofs.PastLaws.{first_past_spot}
use Rattle.mt_paged.proofs.lookup.first_past.Goals as goal

pub returns : goal.returns
returns c =
    first_past_spot (is_in_front c.args.front) c.args.pages.now.pages c.spot-at.result.0 c.spot-at.result.1 (option_map entry (option_copied c.first_from.result)) c.spot-at.ensures.spot c.first_from.ensures
