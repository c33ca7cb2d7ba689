-- Which of two stores' rows clients see while the partition is in the new store's care.
use Rattle.std.specs.Prelude.{Option, Some, None}
use Rattle.mt_model.specs.declared.tag.Tag.{Tag}
use Rattle.mt_chain.specs.declared.row.StoredRow.{StoredRow}
use Rattle.mt_meta.specs.declared.marker.NewPhase.{NewPhase}
use Rattle.mt_meta.specs.declared.marker.NewPhase.TheVariants.{Filling, UseNew}
use Rattle.mt_meta.specs.declared.mark.Mark.{Mark}
use Rattle.mt_meta.specs.declared.mark.Mark.TheVariants.{Live, Copy, Tomb}
use Rattle.mt_meta.specs.declared.showing.Choice.{Choice}
use Rattle.mt_meta.specs.declared.showing.Choice.TheVariants.{Nothing, OldRow, NewRow}
use Rattle.mt_meta.specs.Marks.{mark_of, seen_tag}

-- old's row with the tag that clients see, where it has one
abbrev pub old_with : Option Tag → Choice
old_with None = Nothing
old_with (Some tag) = OldRow tag

abbrev pub old_choice : Option StoredRow → Choice
old_choice None = Nothing
old_choice (Some row) = old_with (seen_tag row.props row.tag)

-- while new fills: a live row hides old's, a tombstone too, and a copy shows it through
abbrev pub filling_choice : Option Mark → Tag → Choice → Choice
filling_choice (Some Live) own old = NewRow own
filling_choice (Some (Copy kept)) own old = old
filling_choice (Some Tomb) own old = Nothing
filling_choice None own old = Nothing

-- once new is used alone: a live row with its own tag, a copy with the one that it kept
abbrev pub new_choice : Option Mark → Tag → Choice
new_choice (Some Live) own = NewRow own
new_choice (Some (Copy kept)) own = NewRow kept
new_choice (Some Tomb) own = Nothing
new_choice None own = Nothing

-- the row that clients see, and its tag
abbrev pub overlay : NewPhase → Option StoredRow → Option StoredRow → Choice
overlay Filling old None = old_choice old
overlay Filling old (Some row) = filling_choice (mark_of row.props) row.tag (old_choice old)
overlay UseNew old None = Nothing
overlay UseNew old (Some row) = new_choice (mark_of row.props) row.tag
