-- A unit that is done comes next, and its entry weighs no more than what its turn needs.
use Rattle.std.proofs.Common.{◌≡◌, ℕ, ◌+◌, ◌≤◌, Bool, true, false, cond, ◌&&◌, nat_lt, List, [], ◌∷◌, ◌++◌, length, Option, Some, None, refl, sym, ap, subst, ◌∙◌, arith, inl, inr}
use Rattle.std.specs.Prelude.{not, is_some, option_map, IfSome}
use Rattle.std.specs.List.{AllByRecursion, filter_map}
use Rattle.std.specs.Ordering.{nat_cmp, is_le}
use Rattle.std.specs.Cmp.Lexicographic.{slice_cmp}
use Rattle.std.proofs.lemmas.Bool.Decides.{nat_tests}
use Rattle.mt_model.specs.declared.entity.Entity.{Entity}
use Rattle.mt_model.specs.declared.key.Key.{Key}
use Rattle.mt_model.specs.declared.key.KeyFault.{KeyFault}
use Rattle.mt_model.specs.declared.key.KeyFault.TheVariants.{KeyTooLong, KeyChar}
use Rattle.mt_model.specs.declared.key.KeyPart.{KeyPart}
use Rattle.mt_model.specs.declared.key.KeyPart.TheVariants.{Partition, Row}
use Rattle.mt_model.specs.declared.value.Prop.{Prop}
use Rattle.mt_model.specs.declared.value.Value.{Value}
use Rattle.mt_model.specs.declared.value.Value.TheVariants as value
use Rattle.mt_model.specs.Char.{is_forbidden, first_passing_in}
use Rattle.mt_model.specs.Key.{part_fault}
use Rattle.mt_model.specs.Value.{value_size}
use Rattle.mt_filter.specs.declared.filter.Field.{Field}
use Rattle.mt_filter.specs.declared.filter.Field.TheVariants.{PartitionKey, RowKey, Property}
use Rattle.mt_filter.specs.declared.filter.Filter.{Filter}
use Rattle.mt_filter.specs.Tree.{Tree, test, not as negation, and, or, tree_of}
use Rattle.mt_match.specs.declared.bounds.Bounds.{Bounds}
use Rattle.mt_match.specs.Partition.{conjuncts}
use Rattle.mt_match.specs.Bounds.{key_text, bounds_below, low_text, low_texts, IsNarrowest, greatest}
use Rattle.mt_match.specs.Match.{matches}
use Rattle.mt_match.proofs.Ends.{low_is}
use Rattle.mt_chain.specs.declared.row.Stored.{Stored}
use Rattle.mt_chain.specs.declared.query.Found.{Found}
use Rattle.mt_chain.specs.declared.query.PkFrom.{PkFrom}
use Rattle.mt_chain.specs.declared.query.PkFrom.TheVariants as part
use Rattle.mt_chain.specs.declared.ask.StoreReply.{StoreReply}
use Rattle.mt_chain.specs.Asks.{FitsAsk}
use Rattle.mt_chain.specs.Rows.{is_from, is_past}
use Rattle.mt_chain.specs.Table.{Table}
use Rattle.mt_history.specs.declared.entry.What.{What}
use Rattle.mt_history.specs.declared.model.Reply.TheVariants as reply
use Rattle.mt_history.specs.Weight.{weight, filter_size, tree_size, field_size, text_size, row_from_size, from_size, need_of_page}
use Rattle.mt_history.specs.Replies.{Replies, kept_if, is_matched, selected, in_range}
use Rattle.mt_meta.specs.declared.marker.NewPhase.{NewPhase}
use Rattle.mt_scan.specs.declared.unit.Unit.{Unit as PageUnit}
use Rattle.mt_scan.specs.declared.unit.Unit.TheVariants.{Scan, Gap}
use Rattle.mt_scan.specs.declared.unit.Place.{Place}
use Rattle.mt_scan.specs.declared.unit.Place.TheVariants as at
use Rattle.mt_scan.specs.declared.saw.Half.{Half}
use Rattle.mt_scan.specs.Units.{IsSameFilter, entry_of, from_row, IsNext, Delivers}
use Rattle.mt_scan.specs.Chunks.{is_row_key, is_partition_key, is_fair_next, Chunk}
use Rattle.mt_scan.specs.Pages.{Page, AreBounds, range_at, asks, Lead, again, on, chunk, gap, lead_of, MakesAt, Makes, MayBe, IsKeyed, IsPage}
use Rattle.mt_scan.proofs.RowLaws.{MayBeGood, chunk_end}
use Rattle.mt_scan.proofs.FitLaws.{LeadFits, fit_of, fair_may, past_row}

-- ---- keys are short

keyed_short : (keyed : KeyPart) (bs : List ℕ) → not (is_some (part_fault keyed bs)) ≡ true → length bs ≤ 1024
keyed_short keyed bs h = by (nat_lt 1024 (length bs)) (option_map (KeyChar keyed) (first_passing_in is_forbidden bs)) refl h where
  by : (b : Bool) (o : Option KeyFault) → nat_lt 1024 (length bs) ≡ b → not (is_some (cond b (Some (KeyTooLong keyed)) o)) ≡ true → length bs ≤ 1024
  by true o e h = absurd (let x = h in cc)
  by false o e h = (let le : length bs ≤ 1024 = grind (arith, nat_tests) in le)

row_short : (o : Option (List ℕ)) → MayBe is_row_key o → text_size o ≤ 1024
row_short None h = omega arith
row_short (Some rk) h = keyed_short Row rk h

part_short : (o : Option (List ℕ)) → MayBe is_partition_key o → text_size o ≤ 1024
part_short None h = omega arith
part_short (Some pk) h = keyed_short Partition pk h

from_short : (row : Option (List ℕ)) → MayBe is_row_key row → row_from_size (from_row row) ≤ 1024
from_short None h = omega arith
from_short (Some rk) h = keyed_short Row rk h

-- ---- the lower bound of partition keys is a text of the filter

key_short : (field : Field) (literal : Value) (x : List ℕ) → key_text Partition field literal ≡ Some x → length x ≤ value_size literal
key_short PartitionKey (value.Str text) x e = (let same : text ≡ x = cc in let n : length text ≡ length x = ap length same in omega (arith, n))
key_short PartitionKey (value.Binary bytes) x e = absurd cc
key_short PartitionKey (value.Bool b) x e = absurd cc
key_short PartitionKey (value.Int32 n) x e = absurd cc
key_short PartitionKey (value.Int64 n) x e = absurd cc
key_short PartitionKey (value.Guid g) x e = absurd cc
key_short PartitionKey (value.Moment t) x e = absurd cc
key_short RowKey literal x e = absurd cc
key_short (Property name) literal x e = absurd cc

low_short : (u : Tree) (x : List ℕ) → low_text Partition u ≡ Some x → length x ≤ tree_size u
low_short (test field compare literal) x e = by (bounds_below compare) e where
  by : (b : Bool) → cond b (key_text Partition field literal) None ≡ Some x → length x ≤ 16 + field_size field + value_size literal
  by true e = (let h = key_short field literal x e in omega (arith, h))
  by false e = absurd cc
low_short (negation t) x e = absurd cc
low_short (and t u) x e = absurd cc
low_short (or t u) x e = absurd cc

-- the conjunct gives no longer text
abbrev IsShort : ℕ → Tree → Type 0
IsShort n u = (x : List ℕ) → low_text Partition u ≡ Some x → length x ≤ n

each_append : (P : Tree → Type 0) (xs ys : List Tree) → AllByRecursion P xs → AllByRecursion P ys → AllByRecursion P (xs ++ ys)
each_append P [] ys h k = k
each_append P (x ∷ xs) ys h k = (h.0, each_append P xs ys h.1 k)

conjuncts_short : (n : ℕ) (t : Tree) → tree_size t ≤ n → AllByRecursion (IsShort n) (conjuncts t)
conjuncts_short n (and t u) le = each_append (IsShort n) (conjuncts t) (conjuncts u) (conjuncts_short n t (omega (arith, le))) (conjuncts_short n u (omega (arith, le)))
conjuncts_short n (test field compare literal) le = ((λ x e. (let h = low_short (test field compare literal) x e in omega (arith, h, le))), tt)
conjuncts_short n (negation t) le = ((λ x e. absurd cc), tt)
conjuncts_short n (or t u) le = ((λ x e. absurd cc), tt)

greatest_short : (n : ℕ) (us : List Tree) → AllByRecursion (IsShort n) us → length (greatest (filter_map (low_text Partition) us)) ≤ n
greatest_short n [] h = omega arith
greatest_short n (u ∷ us) h = by (low_text Partition u) refl (greatest_short n us h.1) where
  or_greater : (text : List ℕ) (b : Bool) → length (greatest (filter_map (low_text Partition) us)) ≤ n → length text ≤ n → length (cond b (greatest (filter_map (low_text Partition) us)) text) ≤ n
  or_greater text true rest le = rest
  or_greater text false rest le = le

  by : (o : Option (List ℕ)) → low_text Partition u ≡ o → length (greatest (filter_map (low_text Partition) us)) ≤ n → length (greatest (filter_map (low_text Partition) (u ∷ us))) ≤ n
  by None e rest = rw e rest
  by (Some text) e rest = rw e (or_greater text (is_le (slice_cmp nat_cmp text (greatest (filter_map (low_text Partition) us)))) rest (h.0 text e))

low_bound : (filter : Option Filter) (bounds : Bounds) → AreBounds filter bounds → length bounds.pk_low ≤ filter_size filter
low_bound None bounds are = (let n : length bounds.pk_low ≡ 0 = ap (λ (b : Bounds). length b.pk_low) are in omega (arith, n))
low_bound (Some filter) bounds are =
    let n : length bounds.pk_low ≡ length (greatest (low_texts Partition (tree_of filter))) = ap length (low_is bounds.pk_low (low_texts Partition (tree_of filter)) are.pk_low) in
    let le = greatest_short (tree_size (tree_of filter)) (conjuncts (tree_of filter)) (conjuncts_short (tree_size (tree_of filter)) (tree_of filter) (omega arith)) in
    omega (arith, n, le)

-- where a gap begins, it is that or a key
gap_short : (filter : Option Filter) (bounds : Bounds) (from : PkFrom) → AreBounds filter bounds → IsKeyed bounds (at.Parts from) → from_size from ≤ 1024 + filter_size filter
gap_short filter bounds (part.From pk) are keyed = elim keyed as (λ _. length pk ≤ 1024 + filter_size filter) [
  | inl key ↦ (let le = keyed_short Partition pk key in omega (arith, le))
  | inr low ↦ (let n : length pk ≡ length bounds.pk_low = ap length low in let le = low_bound filter bounds are in omega (arith, n, le))
]
gap_short filter bounds (part.After pk) are keyed = (let le = keyed_short Partition pk keyed in omega (arith, le))

-- ---- the unit

-- what is shown of a unit that is done at a place
record IsDone (filter : Option Filter) (place : Place) (unit : PageUnit) : Type 0 where
  pub next : IsNext place unit
  pub light : weight (entry_of filter unit) ≤ need_of_page filter

scan_done : (filter : Option Filter) (bounds : Bounds) (pk : List ℕ) (row upto : Option (List ℕ)) → IsKeyed bounds (at.Rows pk row) → MayBeGood (range_at bounds row) upto → IsDone filter (at.Rows pk row) (Scan pk (from_row row) upto)
scan_done filter bounds pk row upto keyed good = record { next = (refl, refl, past upto good); light = light } where
  past : (o : Option (List ℕ)) → MayBeGood (range_at bounds row) o → IfSome o (λ end. is_from (from_row row) end ≡ true)
  past None h = tt
  past (Some rk) h = past_row bounds.rk_low bounds.rk_high row rk h.0

  key : (o : Option (List ℕ)) → MayBeGood (range_at bounds row) o → MayBe is_row_key o
  key None h = tt
  key (Some rk) h = h.1

  light : weight (entry_of filter (Scan pk (from_row row) upto)) ≤ need_of_page filter
  light = (let a = keyed_short Partition pk keyed.0 in let b = from_short row keyed.1 in let c = row_short upto (key upto good) in omega (arith, a, b, c))

gap_done : (filter : Option Filter) (bounds : Bounds) (from : PkFrom) (next : Option (List ℕ)) → AreBounds filter bounds → IsKeyed bounds (at.Parts from) → MayBe (is_past from) next → is_fair_next next ≡ true → IsDone filter (at.Parts from) (Gap from next)
gap_done filter bounds from next are keyed past fair = record { next = (refl, some next past); light = light } where
  some : (o : Option (List ℕ)) → MayBe (is_past from) o → IfSome o (λ pk. is_past from pk ≡ true)
  some None h = tt
  some (Some pk) h = h

  light : weight (entry_of filter (Gap from next)) ≤ need_of_page filter
  light = (let a = gap_short filter bounds from are keyed in let b = part_short next (fair_may next fair) in omega (arith, a, b))

done_at : (page : Page) (place : Place) (lead : Lead) (unit : PageUnit) (rows : List Entity) → AreBounds page.filter page.bounds → IsKeyed page.bounds place → LeadFits page.bounds place lead → MakesAt place page.filter page.room lead unit rows → IsDone page.filter place unit
done_at page (at.Rows pk row) (chunk phase old new) unit rows are keyed fit h =
    let c : Chunk = record { rows = rows; upto = h.0 } in
    subst (IsDone page.filter (at.Rows pk row)) (sym h.1) (scan_done page.filter page.bounds pk row h.0 keyed (chunk_end pk (range_at page.bounds row) page.filter phase page.room old new fit.0 fit.1 c h.2))
done_at page (at.Rows pk row) again unit rows are keyed fit h = absurd h
done_at page (at.Rows pk row) (on half) unit rows are keyed fit h = absurd h
done_at page (at.Rows pk row) (gap next) unit rows are keyed fit h = absurd h
done_at page (at.Parts from) (gap next) unit rows are keyed fit h = subst (IsDone page.filter (at.Parts from)) (sym h.0) (gap_done page.filter page.bounds from next are keyed fit.0 fit.1)
done_at page (at.Parts from) again unit rows are keyed fit h = absurd h
done_at page (at.Parts from) (on half) unit rows are keyed fit h = absurd h
done_at page (at.Parts from) (chunk phase old new) unit rows are keyed fit h = absurd h
done_at page at.End lead unit rows are keyed fit h = absurd h

module _ (page : Page) (fits : IsPage page) (answer : StoreReply) (fit : FitsAsk (asks page).ask answer) (unit : PageUnit) (rows : List Entity) (makes : Makes page (lead_of page.place page.half answer) unit rows) where
  is_done : IsDone page.filter page.place unit
  is_done = done_at page page.place (lead_of page.place page.half answer) unit rows fits.bounds fits.keyed (fit_of page fits answer fit) makes

  -- whatever the stores reply, the unit comes next at the place
  pub unit_next : IsNext page.place unit
  unit_next = is_done.next

  -- and its entry weighs at most the need of its turn
  pub unit_light : weight (entry_of page.filter unit) ≤ need_of_page page.filter
  unit_light = is_done.light

-- ---- equal filters

same_size : (a b : Option Filter) → IsSameFilter a b → filter_size a ≡ filter_size b
same_size None None h = refl
same_size None (Some g) h = absurd cc
same_size (Some f) None h = absurd cc
same_size (Some f) (Some g) h = (let same : tree_of f ≡ tree_of g = cc in ap tree_size same)

-- an entry weighs the same
pub same_weight : (a b : Option Filter) (unit : PageUnit) → IsSameFilter a b → weight (entry_of a unit) ≡ weight (entry_of b unit)
same_weight a b (Scan pk from upto) h = ap (λ n. 64 + (length pk + row_from_size from + text_size upto) + n) (same_size a b h)
same_weight a b (Gap from to) h = refl

same_matched : (a b : Option Filter) (key : Key) (props : List Prop) → IsSameFilter a b → is_matched a key props ≡ is_matched b key props
same_matched None None key props h = refl
same_matched None (Some g) key props h = absurd cc
same_matched (Some f) None key props h = absurd cc
same_matched (Some f) (Some g) key props h = (let same : tree_of f ≡ tree_of g = cc in ap (λ t. matches t key props) same)

same_selected : (a b : Option Filter) (region : Key → Bool) (table : Table) (key : Key) → IsSameFilter a b → selected region a table key ≡ selected region b table key
same_selected a b region table key h = ap (λ o. cond (region key) o None) (by (table key)) where
  by : (o : Option Stored) → kept_if (λ row. is_matched a key row.props) o ≡ kept_if (λ row. is_matched b key row.props) o
  by None = refl
  by (Some row) = ap (λ t. cond t (Some row) None) (same_matched a b key row.props h)

-- and is answered the same
pub same_replies : (a b : Option Filter) (unit : PageUnit) (table : Table) (rows : List Entity) → IsSameFilter a b → Replies (entry_of a unit) table (reply.Rows rows) → Replies (entry_of b unit) table (reply.Rows rows)
same_replies a b (Scan pk from upto) table rows h r = (r.0, r.1, record { rising = r.2.rising; rows = λ key. r.2.rows key ∙ same_selected a b (in_range pk from upto) table key h })
same_replies a b (Gap from to) table rows h r = r
