use Rattle.std.proofs.Common.{◌∙◌, sym, ap, subst, refl}
use Rattle.mt_chain.specs.Rows.{are_rising}
use Rattle.mt_chain.specs.Table.{table_of, rows_of, IsListing}
use Rattle.mt_history.specs.Replies.{in_range, selected, picked}
use Rattle.mt_history.proofs.ListingLaws.{keys_rise, picked_is}
use Rattle.mt_history.proofs.model.rows_reply.Goals as goal

pub of-requires : goal.of-requires
of-requires c =
    let region = in_range c.args.pk.now c.args.from.now c.args.upto.now in
    let listing = picked_is region c.args.filter.now c.args.rows.now c.as_slice.ensures.rising in
    keys_rise c.in_ok-found.found.items (ap (λ es. are_rising (rows_of es)) (c.in_ok-found.ensures ∙ ap (picked region c.args.filter.now) c.as_slice.ensures.value) ∙ listing.rising)

pub returns : goal.returns
returns c =
    let region = in_range c.args.pk.now c.args.from.now c.args.upto.now in
    let table = selected region c.args.filter.now (table_of c.args.rows.now) in (
      c.of.result,
      refl,
      subst (λ es. IsListing es table) (sym (c.of.ensures ∙ c.in_ok-found.ensures ∙ ap (picked region c.args.filter.now) c.as_slice.ensures.value))
          (picked_is region c.args.filter.now c.args.rows.now c.as_slice.ensures.rising),
    )
