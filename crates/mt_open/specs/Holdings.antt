-- Two stores that were read whole.
use Rattle.mt_meta.specs.Logical.{Pair, pair_of}
use Rattle.mt_open.specs.declared.holdings.Holdings.{Holdings}

-- two stores, the old one and the new one
abbrev pub pair_in : Holdings → Pair
pair_in h = pair_of h.old.number h.new.number h.old.contents h.new.contents
