-- Lists of rows whose keys rise.
use Rattle.std.proofs.Common.{◌≡◌, List, [], sym, subst}
use Rattle.std.specs.List.Sorted.{IsStrictlySortedBy}
use Rattle.mt_model.specs.declared.entity.Entity.{Entity}
use Rattle.mt_model.specs.Entities.{RisingKeys}

none_rise : RisingKeys []
unfolding IsStrictlySortedBy
none_rise = tt

pub rows_empty : (es : List Entity) → es ≡ [] → RisingKeys es
rows_empty es e = subst RisingKeys (sym e) none_rise
