use Rattle.std.proofs.Common.{rules}
use Rattle.std.proofs.lemmas.Fn.{always_returns_same}
use Rattle.std.specs.Ordering.{nat_cmp}
use Rattle.std.specs.Cmp.Lexicographic.{slice_cmp}
use Rattle.mt_model.proofs.Places.{searched}
use Rattle.mt_model.proofs.props.search.Goals as goal

pub returns : goal.returns
returns c =
    let facts = c.binary_search_by.ensures in
    let by_name = facts.position (λ p. slice_cmp nat_cmp p.name c.args.name.now) (always_returns_same _ _ _ (λ a r next called. search rules)) in
    searched c.args.name.now c.args.props.now c.requires _ facts.bound by_name
