use Rattle.std.proofs.Common.{filter, sym, ap, ◌∙◌}
use Rattle.mt_model.specs.Props.{is_visible}
use Rattle.mt_filter.specs.Tree.{tree_of}
use Rattle.mt_chain.specs.Rows.{key_at}
use Rattle.mt_match.proofs.Seen.{same_matches}
use Rattle.mt_history.specs.Replies.{is_matched}
use Rattle.mt_meta.proofs.MarkLaws.{visible_twice}
use Rattle.mt_query_plan.proofs.answer.is_matched.Goals as goal

pub returns-in-Some : goal.returns-in-Some
returns-in-Some c =
    let key = key_at c.args.pk.now c.args.rk.now in
    let props = c.args.props.now in
    c.matches_row.ensures
    ∙ same_matches (tree_of c.in-Some.filter) key props (filter is_visible props) (sym (visible_twice props))
    ∙ ap (λ test. is_matched test key (filter is_visible props)) (sym c.in-Some.is)
