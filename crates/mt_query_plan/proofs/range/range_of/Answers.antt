use Rattle.std.proofs.Common.{ℕ, List, Option, None, ap, sym, ◌∙◌}
use Rattle.mt_chain.specs.declared.query.RkFrom.{RkFrom}
use Rattle.mt_chain.specs.declared.query.Range.{Range}
use Rattle.mt_query_plan.specs.Ranges.{from_low, range_of}
use Rattle.mt_match.proofs.Ends.{low_is, high_is}
use Rattle.mt_query_plan.proofs.range.range_of.Goals as goal

abbrev unlimited : RkFrom → Option (List ℕ) → Range
unlimited from upto = record { from = from; upto = upto; limit = None }

pub returns-in_ok-bounds-in-Some : goal.returns-in_ok-bounds-in-Some
returns-in_ok-bounds-in-Some c =
    let bounds = c.in_ok-bounds-in-Some.bounds in
    let narrowest = c.in_ok-bounds-in-Some.ensures.narrowest in
    ap (λ from. unlimited from bounds.rk_high) (c.from_low.ensures ∙ ap from_low (low_is bounds.rk_low _ narrowest.rk_low))
    ∙ ap (unlimited _) (high_is bounds.rk_high _ narrowest.rk_high)
    ∙ ap range_of (sym c.in-Some.is)
