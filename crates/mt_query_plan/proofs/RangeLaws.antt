-- What a filter matches lies in the range that it leaves.
use Rattle.std.proofs.Common.{◌≡◌, ℕ, true, ◌&&◌, List, [], ◌∷◌, refl, ap, ◌∙◌, Option, Some, None}
use Rattle.std.specs.Prelude.{IfSome}
use Rattle.std.specs.List.Sorted.{IsStrictlySortedBy}
use Rattle.mt_model.specs.declared.key.Key.{Key}
use Rattle.mt_model.specs.declared.value.Prop.{Prop}
use Rattle.mt_filter.specs.declared.filter.Filter.{Filter}
use Rattle.mt_filter.specs.Tree.{tree_of}
use Rattle.mt_chain.specs.Rows.{RisingRows, is_from, is_upto, is_within}
use Rattle.mt_match.specs.Bounds.{IsAtMost}
use Rattle.mt_match.proofs.Conjuncts.{lies_within}
use Rattle.mt_match.proofs.Ends.{bounds_of, narrowest}
use Rattle.mt_history.specs.Replies.{is_matched}
use Rattle.mt_query_plan.specs.Ranges.{from_low, row_low, row_high, range_of}

pub none_rise : RisingRows []
unfolding IsStrictlySortedBy
none_rise = tt

from_is : (low rk : List ℕ) → IsAtMost low rk → is_from (from_low low) rk ≡ true
from_is [] rk h = refl
from_is (byte ∷ bytes) rk h = h

upto_is : (high : Option (List ℕ)) (rk : List ℕ) → IfSome high (λ end. IsAtMost rk end) → is_upto high rk ≡ true
upto_is None rk h = refl
upto_is (Some end) rk h = h

pub matched_within : (test : Option Filter) (key : Key) (props : List Prop) → is_matched test key props ≡ true → is_within (range_of test) key.rk ≡ true
matched_within None key props h = refl
matched_within (Some filter) key props h =
    let within = lies_within (tree_of filter) (bounds_of (tree_of filter)) (narrowest (tree_of filter)) key props h in
    ap (λ b. b && is_upto (row_high (Some filter)) key.rk) (from_is (row_low (Some filter)) key.rk within.rk_low)
    ∙ upto_is (row_high (Some filter)) key.rk within.rk_high
