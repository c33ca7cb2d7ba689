-- What holds of streams of pages, however other actors' turns fall between their units.
use Rattle.std.specs.Prelude.{◌≡◌, ℕ, true, List, Option, Some, None}
use Rattle.std.specs.List.{AllByRecursion}
use Rattle.mt_model.specs.declared.key.Key.{Key}
use Rattle.mt_model.specs.Entities.{RisingKeys}
use Rattle.mt_filter.specs.declared.filter.Filter.{Filter}
use Rattle.mt_match.specs.declared.bounds.Bounds.{Bounds}
use Rattle.mt_match.specs.Bounds.{IsWithin}
use Rattle.mt_chain.specs.declared.row.Stored.{Stored}
use Rattle.mt_chain.specs.Table.{table_of, rows_of as as_rows}
use Rattle.mt_history.specs.Replies.{is_matched}
use Rattle.mt_scan.specs.declared.unit.Token.{Token}
use Rattle.mt_scan.specs.Pages.{AreBounds}
use Rattle.mt_scan.specs.Streams.{Step, count_in, IsStable, AreThere, rows_of, IsStream, all_steps}
use Rattle.mt_scan.proofs.StreamLaws.{each_key_once, keys_rise_through, rows_stood, row_comes}

-- in a stream from the start that is read to its end, each key within the bounds lies in exactly one unit
pub a_key_lies_in_one_unit : (filter : Option Filter) (bounds : Bounds) (pages : List (ℕ × List Step)) (key : Key) → IsStream filter bounds None pages None → IsWithin bounds key → count_in key (all_steps pages) ≡ 1
a_key_lies_in_one_unit filter bounds pages key s within = each_key_once filter bounds pages key s within

-- keys rise strictly through a stream, from any token and read to its end or not; so no row comes twice
pub keys_rise_in_a_stream : (filter : Option Filter) (bounds : Bounds) (token last : Option Token) (pages : List (ℕ × List Step)) → AreBounds filter bounds → IsStream filter bounds token pages last → RisingKeys (rows_of (all_steps pages))
keys_rise_in_a_stream filter bounds token last pages are s = keys_rise_through filter bounds token last pages are s

-- a row that is delivered stood in the table at its unit
pub a_row_stood_at_its_unit : (filter : Option Filter) (bounds : Bounds) (token last : Option Token) (pages : List (ℕ × List Step)) → IsStream filter bounds token pages last → AllByRecursion AreThere (all_steps pages)
a_row_stood_at_its_unit filter bounds token last pages s = rows_stood filter bounds token last pages s

-- a row that the filter matches, and that is the same at each unit of a stream read to its end, comes
pub a_row_that_stays_comes : (filter : Option Filter) (bounds : Bounds) (pages : List (ℕ × List Step)) (key : Key) (row : Stored) → AreBounds filter bounds → IsStream filter bounds None pages None → is_matched filter key row.props ≡ true → IsStable key row (all_steps pages)
    → table_of (as_rows (rows_of (all_steps pages))) key ≡ Some row
a_row_that_stays_comes filter bounds pages key row are s matched stable = row_comes filter bounds pages key row are s matched stable
