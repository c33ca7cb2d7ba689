use Rattle.std.proofs.Common.{rules}
use Rattle.std.proofs.lemmas.Fn.{always_returns_same}
use Rattle.mt_model.specs.Key.{key_cmp}
use Rattle.mt_chain.specs.Rows.{key_at}
use Rattle.mt_chain.proofs.OrderLaws.{key_rises}
use Rattle.mt_mem.specs.Entries.{entry}
use Rattle.mt_mem.proofs.EntryLaws.{search_entries}
use Rattle.mt_mem.proofs.lookup.place_of.Goals as goal

pub returns : goal.returns
returns c =
    let key = key_at c.args.pk.now c.args.rk.now in
    let found = c.binary_search_by.ensures in
    search_entries (λ k. key_cmp k key) (key_rises key) c.args.rows.now c.binary_search_by.result c.requires found.bound
    (found.position (λ r. key_cmp (entry r).0 key) (always_returns_same _ _ _ (λ a r f called. search rules)))
