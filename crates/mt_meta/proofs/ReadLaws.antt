-- What a read of a store says of the pair, then and later.
use Rattle.std.proofs.Common.{◌≡◌, ◌≢◌, ℕ, ◌≤◌, Bool, true, false, cond, ◌||◌, List, [], ◌∷◌, ◌++◌, refl, sym, ap, ◌∙◌, subst, arith, bytes_eq, Some, None, Option}
use Rattle.std.specs.Prelude.{option_map, IfSome}
use Rattle.std.specs.Ordering.{is_lt}
use Rattle.std.specs.List.{cons_option}
use Rattle.std.specs.List.Sorted.{IsStrictlySortedBy}
use Rattle.mt_model.specs.declared.tag.Tag.{Tag}
use Rattle.mt_model.specs.declared.value.Prop.{Prop}
use Rattle.mt_chain.specs.declared.ask.Side.{Side}
use Rattle.mt_chain.specs.declared.ask.Side.TheVariants.{Old, New}
use Rattle.mt_chain.specs.declared.query.PkFrom.TheVariants as start
use Rattle.mt_chain.specs.declared.query.Range.{Range}
use Rattle.mt_chain.specs.declared.row.Stored.{Stored}
use Rattle.mt_chain.specs.declared.row.StoredRow.{StoredRow}
use Rattle.mt_chain.specs.Rows.{Rows, row_at, row_in, shown, named_rows, is_within, rows_within}
use Rattle.mt_chain.specs.StoreCall.{Contents, CanQuery}
use Rattle.mt_chain.proofs.KeyLaws.{text_true}
use Rattle.mt_chain.proofs.PutLaws.{same_if}
use Rattle.mt_chain.proofs.TextOrder.{le_itself, below_next, only_key}
use Rattle.mt_chain.proofs.RangeRows.{in_whole}
use Rattle.mt_meta.specs.Markers.{marker_key}
use Rattle.mt_meta.specs.Logical.{Pair, old_at, old_state_at, new_state_at}
use Rattle.mt_meta.specs.Sound.{AreTags, IsSound}
use Rattle.mt_meta.specs.Modes.{Mode, Empty, AtOld, Prepared, Copying, Overlaid, Settled, NewOnly, Broken, mode}
use Rattle.mt_meta.specs.declared.fact.Keys.{Keys}
use Rattle.mt_meta.specs.declared.fact.Fact.TheVariants as fact
use Rattle.mt_meta.specs.Facts.{Holds, KnowsRow, KnowsTurned, KnowsClosed, InKeys, is_in, is_prefer_new, is_marked, is_filling}
use Rattle.mt_meta.specs.Steps.{AllHold, row_facts, contents_of, number_of}
use Rattle.mt_meta.specs.ReadRows.{kept_row, kept_in}
use Rattle.mt_meta.proofs.ModeLaws.{IsWhole, old_in, new_in, whole, says}
use Rattle.mt_meta.proofs.Growth.{no_rows}
use Rattle.mt_meta.proofs.StorePuts.{the_row}

-- ---- what may be asked

pub can_read : (pk : List ℕ) (range : Option Range) → IfSome range (λ r. IfSome r.limit (λ n. 1 ≤ n)) → CanQuery (record { pk = pk; named = marker_key ∷ []; range = range })
unfolding IsStrictlySortedBy
can_read pk range limit = record { few = omega arith; rising = (tt, tt); limit = limit }

-- ---- the rows that were read

-- the row of a key among the named rows is the store's, where the key is named
row_in_named : (rows : Rows) (pk : List ℕ) (names : List (List ℕ)) (rk : List ℕ) → row_in (named_rows rows pk names) rk ≡ cond (is_in rk names) (option_map (shown rk) (row_at rows pk rk)) None
row_in_named rows pk [] rk = refl
row_in_named rows pk (n ∷ names) rk = go (row_at rows pk n) refl (bytes_eq rk n) refl (row_in_named rows pk names rk) where
  go : (o : Option Stored) → row_at rows pk n ≡ o → (b : Bool) → bytes_eq rk n ≡ b → row_in (named_rows rows pk names) rk ≡ cond (is_in rk names) (option_map (shown rk) (row_at rows pk rk)) None
      → row_in (cons_option (option_map (shown n) o) (named_rows rows pk names)) rk ≡ cond (b || is_in rk names) (option_map (shown rk) (row_at rows pk rk)) None
  go None is true e rest =
      let none : row_at rows pk rk ≡ None = ap (row_at rows pk) (text_true rk n e) ∙ is in
      rest ∙ ap (λ o. cond (is_in rk names) (option_map (shown rk) o) None) none ∙ sym (same_if (is_in rk names) None) ∙ ap (option_map (shown rk)) (sym none)
  go None is false e rest = rest
  go (Some s) is true e rest =
      let same = text_true rk n e in
      ap (λ b. cond b (Some (shown n s)) (row_in (named_rows rows pk names) rk)) e
      ∙ ap (λ k. Some (shown k s)) (sym same)
      ∙ ap (option_map (shown rk)) (sym (ap (row_at rows pk) same ∙ is))
  go (Some s) is false e rest = ap (λ b. cond b (Some (shown n s)) (row_in (named_rows rows pk names) rk)) e ∙ rest

pub read_at : (rows : Rows) (pk : List ℕ) (names : List (List ℕ)) (rk : List ℕ) → is_in rk names ≡ true → row_in (named_rows rows pk names) rk ≡ option_map (shown rk) (row_at rows pk rk)
read_at rows pk names rk named = row_in_named rows pk names rk ∙ ap (λ b. cond b (option_map (shown rk) (row_at rows pk rk)) None) named

-- the marker that was named
pub marker_read : (rows : Rows) (pk : List ℕ) → row_in (named_rows rows pk (marker_key ∷ [])) marker_key ≡ option_map (shown marker_key) (row_at rows pk marker_key)
marker_read rows pk = read_at rows pk (marker_key ∷ []) marker_key refl

-- a row that was read, as the store keeps it
pub kept_shown : (rk : List ℕ) (o : Option Stored) → option_map kept_row (option_map (shown rk) o) ≡ o
kept_shown rk None = refl
kept_shown rk (Some s) = refl

pub kept_at : (rows : Rows) (pk : List ℕ) (names : List (List ℕ)) (rk : List ℕ) → is_in rk names ≡ true → kept_in (named_rows rows pk names) rk ≡ row_at rows pk rk
kept_at rows pk names rk named = ap (option_map kept_row) (read_at rows pk names rk named) ∙ kept_shown rk (row_at rows pk rk)

pub kept_within : (rows : Rows) (pk : List ℕ) (range : Range) (rk : List ℕ) → is_within range rk ≡ true → option_map kept_row (row_in (rows_within rows pk range) rk) ≡ row_at rows pk rk
kept_within rows pk range rk h = ap (option_map kept_row) (in_whole rows pk range rk h) ∙ kept_shown rk (row_at rows pk rk)

-- ---- what is known of them

row_holds : (side : Side) (p : Pair) (retired : Bool) (pk rk : List ℕ) (props : List Prop) (tag : Tag) → KnowsRow (contents_of p side) pk rk props tag → Holds p retired (fact.Row side pk rk props tag)
row_holds Old p retired pk rk props tag h = h
row_holds New p retired pk rk props tag h = h

knows_row : (side : Side) (p : Pair) (retired : Bool) (pk rk : List ℕ) (props : List Prop) (tag : Tag) → Holds p retired (fact.Row side pk rk props tag) → KnowsRow (contents_of p side) pk rk props tag
knows_row Old p retired pk rk props tag h = h
knows_row New p retired pk rk props tag h = h

-- a row that is there is known by its tag
pub row_known : (store : ℕ) (c : Contents) (pk rk : List ℕ) (s : Stored) → AreTags store c → row_at c.rows pk rk ≡ Some s → KnowsRow c pk rk s.props s.tag
row_known store c pk rk s tags is = record {
  past = (tags.range pk rk s is).1;
  same = λ r at e. ap (λ (x : Stored). x.props) (sym (the_row s r (sym is ∙ at)));
}

-- a read of a store
pub named_known : (side : Side) (p : Pair) (retired : Bool) (pk : List ℕ) (names : List (List ℕ)) → AreTags (number_of p side) (contents_of p side) → AllHold p retired (row_facts side pk (named_rows (contents_of p side).rows pk names))
named_known side p retired pk [] tags = tt
named_known side p retired pk (n ∷ names) tags = go (row_at (contents_of p side).rows pk n) refl (named_known side p retired pk names tags) where
  go : (o : Option Stored) → row_at (contents_of p side).rows pk n ≡ o → AllHold p retired (row_facts side pk (named_rows (contents_of p side).rows pk names))
      → AllHold p retired (row_facts side pk (cons_option (option_map (shown n) o) (named_rows (contents_of p side).rows pk names)))
  go None is rest = rest
  go (Some s) is rest = (row_holds side p retired pk n s.props s.tag (row_known (number_of p side) (contents_of p side) pk n s tags is), rest)

pub known_in : (side : Side) (p : Pair) (retired : Bool) (pk : List ℕ) (rows : List StoredRow) → AllHold p retired (row_facts side pk rows) → (rk : List ℕ) (r : StoredRow) → row_in rows rk ≡ Some r → KnowsRow (contents_of p side) pk rk r.props r.tag
known_in side p retired pk [] h rk r is = absurd cc
known_in side p retired pk (x ∷ rows) h rk r is =
    elim (bytes_eq rk x.rk) as (λ b. bytes_eq rk x.rk ≡ b → cond b (Some x) (row_in rows rk) ≡ Some r → KnowsRow (contents_of p side) pk rk r.props r.tag) [
      | true ↦ λ e is. (let same : x ≡ r = cc in
          subst (λ (y : StoredRow). KnowsRow (contents_of p side) pk rk y.props y.tag) same (subst (λ k. KnowsRow (contents_of p side) pk k x.props x.tag) (sym (text_true rk x.rk e)) (knows_row side p retired pk x.rk x.props x.tag h.0)))
      | false ↦ λ e is. known_in side p retired pk rows h.1 rk r is
    ] refl is

-- what is known of the row that was read at a key
abbrev pub KnowsRead : Contents → List ℕ → List ℕ → Option Stored → Type 0
KnowsRead c pk rk None = Unit {0}
KnowsRead c pk rk (Some s) = KnowsRow c pk rk s.props s.tag

pub known_read : (side : Side) (p : Pair) (retired : Bool) (pk : List ℕ) (rows : List StoredRow) → AllHold p retired (row_facts side pk rows) → (rk : List ℕ) → KnowsRead (contents_of p side) pk rk (kept_in rows rk)
known_read side p retired pk rows h rk = go (row_in rows rk) refl where
  go : (o : Option StoredRow) → row_in rows rk ≡ o → KnowsRead (contents_of p side) pk rk (option_map kept_row o)
  go None is = tt
  go (Some r) is = known_in side p retired pk rows h rk r is

-- ---- old was turned

turned_marked : (m : Mode) → IsWhole m → is_prefer_new (old_in m) ≡ true → is_marked (new_in m) ≡ true
turned_marked Empty w h = absurd cc
turned_marked AtOld w h = absurd cc
turned_marked Prepared w h = absurd cc
turned_marked Copying w h = absurd cc
turned_marked Overlaid w h = refl
turned_marked Settled w h = refl
turned_marked NewOnly w h = absurd cc
turned_marked Broken w h = absurd w

-- where old is turned, new has its marker
pub marked_new : (p : Pair) (pk : List ℕ) → IsSound p → is_prefer_new (old_state_at p pk) ≡ true → is_marked (new_state_at p pk) ≡ true
marked_new p pk s h = ap is_marked (says p s pk).new ∙ turned_marked (mode p pk) (whole p s pk) (ap is_prefer_new (sym (says p s pk).old) ∙ h)

-- a read of old that shows it turned, with its rows at these keys
pub turned_known : (p : Pair) (pk : List ℕ) (part : Keys) (rows : List StoredRow) → IsSound p → is_prefer_new (old_state_at p pk) ≡ true
    → ((rk : List ℕ) → InKeys part rk → option_map (shown rk) (old_at p pk rk) ≡ row_in rows rk) → KnowsTurned p pk part rows
turned_known p pk part rows s h read = record {
  marked = marked_new p pk s h;
  turned = λ fills. h;
  rows = λ fills rk other within. read rk within;
}

-- while new fills, old has the rows that were read
pub turned_row : (p : Pair) (pk rk : List ℕ) (part : Keys) (rows : List StoredRow) → KnowsTurned p pk part rows → is_filling (new_state_at p pk) ≡ true
    → rk ≢ marker_key → InKeys part rk → old_at p pk rk ≡ kept_in rows rk
turned_row p pk rk part rows turned fills other within = sym (kept_shown rk (old_at p pk rk)) ∙ ap (option_map kept_row) (turned.rows fills rk other within)

-- ---- old was sealed

-- a read of a sealed old that shows no marker
pub closed_read : (p : Pair) (pk : List ℕ) → IsSound p → p.old.sealed ≡ true → old_at p pk marker_key ≡ None → KnowsClosed p (start.From pk) (Some (pk ++ (0 ∷ [])))
closed_read p pk s sealed none = record {
  sealed = sealed;
  empty = λ k from below rk. ap (λ x. old_at p x rk) (only_key pk k from below) ∙ no_rows p s pk none rk;
}

-- old has nothing of the partition
pub closed_none : (p : Pair) (pk rk : List ℕ) → KnowsClosed p (start.From pk) (Some (pk ++ (0 ∷ []))) → old_at p pk rk ≡ None
closed_none p pk rk closed = closed.empty pk (le_itself pk) (ap is_lt (below_next pk)) rk
