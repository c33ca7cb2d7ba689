use Rattle.std.proofs.Common.{rules}
use Rattle.std.proofs.lemmas.Fn.{always_returns_same}
use Rattle.mt_model.specs.Key.{key_cmp}
use Rattle.mt_chain.specs.Rows.{key_at}
use Rattle.mt_chain.proofs.OrderLaws.{key_rises}
use Rattle.mt_chain.proofs.SearchLaws.{search_ends}
use Rattle.mt_chain.proofs.rows.place_in.Goals as goal

pub returns : goal.returns
returns c =
    let key = key_at c.args.pk.now c.args.rk.now in
    let found = c.binary_search_by.ensures in
    search_ends (λ k. key_cmp k key) (key_rises key) c.args.rows.now c.binary_search_by.result c.requires found.bound
    (found.position (λ e. key_cmp e.0 key) (always_returns_same _ _ _ (λ a r f called. search rules)))
