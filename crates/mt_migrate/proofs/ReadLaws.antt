-- A list of no properties has one order.
use Rattle.std.proofs.Common.{◌≡◌, List, []}
use Rattle.std.specs.List.Sorted.{IsPermutation}
use Rattle.std.proofs.lemmas.List.{nil_from_length}
use Rattle.std.proofs.lemmas.List.Sorted.{length_permutation}
use Rattle.mt_model.specs.declared.value.Prop.{Prop}

pub none_ordered : (ps : List Prop) → IsPermutation [] ps → ps ≡ []
none_ordered ps all = nil_from_length ps (length_permutation [] ps all)
