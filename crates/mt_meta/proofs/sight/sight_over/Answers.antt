use Rattle.std.proofs.Common.{◌∙◌, ap, sym, option_copied, option_map}
use Rattle.mt_meta.specs.Steps.{as_row}
use Rattle.mt_meta.proofs.ByMarkers.{choice_shows, tag_shows}
use Rattle.mt_meta.proofs.sight.sight_over.Goals as goal

pub returns-in-Nothing : goal.returns-in-Nothing
returns-in-Nothing c = ap (option_map as_row) (choice_shows c.args.phase (option_copied c.args.row) (option_copied c.args.entry) _ (sym c.in-Nothing.ensures))

pub returns-in-OldRow : goal.returns-in-OldRow
returns-in-OldRow c =
    c.with_tag.ensures ∙ tag_shows as_row (option_copied c.args.row) c.in-OldRow.tag
    ∙ ap (option_map as_row) (choice_shows c.args.phase (option_copied c.args.row) (option_copied c.args.entry) _ (sym c.in-OldRow.ensures))

pub returns-in-NewRow : goal.returns-in-NewRow
returns-in-NewRow c =
    c.with_tag-in-NewRow.ensures ∙ tag_shows as_row (option_copied c.args.entry) c.in-NewRow.tag
    ∙ ap (option_map as_row) (choice_shows c.args.phase (option_copied c.args.row) (option_copied c.args.entry) _ (sym c.in-NewRow.ensures))
