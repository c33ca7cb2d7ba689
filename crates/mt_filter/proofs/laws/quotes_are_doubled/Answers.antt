use Rattle.mt_filter.proofs.Doubling.{text_of_doubled}
use Rattle.mt_filter.proofs.laws.quotes_are_doubled.Goals as goal

pub returns : goal.returns
returns c = text_of_doubled
