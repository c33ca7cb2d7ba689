-- Streams of pages: each key lies in one unit, keys rise, and a row that stays is delivered.
use Rattle.std.proofs.Common.{◌≡◌, ℕ, ◌+◌, Bool, true, false, not, ◌&&◌, ◌||◌, cond, List, [], ◌∷◌, ◌++◌, map, Option, Some, None, refl, sym, ap, subst, ◌∙◌, arith, if◌then◌else◌, Less, Equal, Greater, Ordering}
use Rattle.std.specs.List.{AllByRecursion}
use Rattle.std.specs.List.Sorted.{IsStrictlySortedBy}
use Rattle.std.specs.Ordering.{eq_by_cmp, ordering_reverse}
use Rattle.mt_model.specs.declared.key.Key.{Key}
use Rattle.mt_model.specs.declared.entity.Entity.{Entity}
use Rattle.mt_model.specs.Key.{key_cmp}
use Rattle.mt_model.specs.Entities.{RisingKeys}
use Rattle.mt_filter.specs.declared.filter.Filter.{Filter}
use Rattle.mt_filter.specs.Tree.{tree_of}
use Rattle.mt_match.specs.declared.bounds.Bounds.{Bounds}
use Rattle.mt_match.specs.Bounds.{IsWithin}
use Rattle.mt_match.proofs.Texts.{empty_at_most}
use Rattle.mt_match.proofs.Conjuncts.{lies_within}
use Rattle.mt_chain.specs.declared.row.Stored.{Stored}
use Rattle.mt_chain.specs.Table.{Table, IsListing, table_of, rows_of as as_rows}
use Rattle.mt_chain.proofs.KeyLaws.{key_total, key_ties}
use Rattle.mt_history.specs.Replies.{in_range, selected, kept_if, is_matched}
use Rattle.mt_history.specs.declared.model.Reply.TheVariants as reply
use Rattle.mt_history.proofs.ListingLaws.{keys_rise}
use Rattle.mt_scan.specs.declared.unit.Unit.{Unit as PageUnit}
use Rattle.mt_scan.specs.declared.unit.Unit.TheVariants.{Scan, Gap}
use Rattle.mt_scan.specs.declared.unit.Place.{Place}
use Rattle.mt_scan.specs.declared.unit.Token.{Token}
use Rattle.mt_scan.specs.Units.{Delivers, place_of, token_of, after_unit}
use Rattle.mt_scan.specs.Pages.{AreBounds, begun, is_behind}
use Rattle.mt_scan.specs.Streams.{Step, in_unit, count_in, IsStable, AreThere, Runs, rows_of, page_after, IsStream, all_steps}
use Rattle.mt_scan.proofs.RowLaws.{each_there}
use Rattle.mt_scan.proofs.FitLaws.{all_map, all_append, rise_append}
use Rattle.mt_scan.proofs.PlaceLaws.{Downward, Cut, downward, unit_cut, token_behind_is, end_behind, start_before}

-- what the filter matches lies within its bounds
matched_within : (filter : Option Filter) (bounds : Bounds) (key : Key) (row : Stored) → AreBounds filter bounds → is_matched filter key row.props ≡ true → IsWithin bounds key
matched_within None bounds key row are h = subst (λ (b : Bounds). IsWithin b key) (sym are) (record { pk_low = empty_at_most key.pk; pk_high = tt; rk_low = empty_at_most key.rk; rk_high = tt })
matched_within (Some filter) bounds key row are h = lies_within (tree_of filter) bounds are key row.props h

-- ---- what a unit delivers

-- a row of a listing: its key lies in the unit, the filter matches it, and it stands in the table
record IsRow (filter : Option Filter) (unit : PageUnit) (table : Table) (e : Entity) : Type 0 where
  pub inside : in_unit unit e.key ≡ true
  pub matched : is_matched filter e.key e.props ≡ true
  pub there : table e.key ≡ Some (record { props = e.props; tag = e.tag })

chosen : (inside : Bool) (test : Stored → Bool) (o : Option Stored) (s : Stored) → cond inside (kept_if test o) None ≡ Some s → (inside ≡ true) × (test s ≡ true) × (o ≡ Some s)
chosen false test o s h = absurd (let x = h in cc)
chosen true test None s h = absurd (let x = h in cc)
chosen true test (Some row) s h = by (test row) refl h where
  by : (t : Bool) → test row ≡ t → cond t (Some row) None ≡ Some s → (true ≡ true) × (test s ≡ true) × (Some row ≡ Some s)
  by false e h = absurd (let x = h in cc)
  by true e h = (let same : row ≡ s = cc in (refl, subst (λ x. test x ≡ true) same e, h))

unit_rows : (filter : Option Filter) (unit : PageUnit) (table : Table) (rows : List Entity) → Delivers filter unit table rows → RisingKeys rows × AllByRecursion (IsRow filter unit table) rows
unit_rows filter (Gap from to) table rows d = none rows (rows_none d.1) where
  rows_none : reply.Rows rows ≡ reply.Rows [] → rows ≡ []
  rows_none e = cc

  none : (rows : List Entity) → rows ≡ [] → RisingKeys rows × AllByRecursion (IsRow filter (Gap from to) table) rows
  none [] e = (keys_rise [] refl, tt)
  none (x ∷ xs) e = absurd (let y = e in cc)
unit_rows filter (Scan pk from upto) table rows d = (keys_rise rows listing.rising, all_map _ _ rows of (each_there rows listing.rising)) where
  same : d.1.0 ≡ rows
  same = (let e : reply.Rows rows ≡ reply.Rows d.1.0 = d.1.1 in cc)

  listing : IsListing rows (selected (in_range pk from upto) filter table)
  listing = subst (λ es. IsListing es (selected (in_range pk from upto) filter table)) same d.1.2

  of : (e : Entity) → table_of (as_rows rows) e.key ≡ Some (record { props = e.props; tag = e.tag }) → IsRow filter (Scan pk from upto) table e
  of e h =
      let c = chosen (in_range pk from upto e.key) (λ row. is_matched filter e.key row.props) (table e.key) (record { props = e.props; tag = e.tag }) (sym (listing.rows e.key) ∙ h) in
      record { inside = c.0; matched = c.1; there = c.2 }

-- each row that a unit delivers stands in its table
pub there_at : (filter : Option Filter) (s : Step) → Delivers filter s.unit s.table s.rows → AreThere s
there_at filter s d = all_map _ _ s.rows (λ e h. h.there) (unit_rows filter s.unit s.table s.rows d).1

-- ---- the keys to come along units

-- each unit parts the keys that are not behind, and delivers its table's rows
abbrev Chain : Bounds → Option Filter → (Key → Bool) → List Step → (Key → Bool) → Type 0
Chain bounds filter a [] z = (key : Key) → a key ≡ z key
Chain bounds filter a (s ∷ steps) z = (m : Key → Bool) × Downward m × Cut bounds a s.unit m × Delivers filter s.unit s.table s.rows × Chain bounds filter m steps z

run_chain : (bounds : Bounds) (filter : Option Filter) (place to : Place) (steps : List Step) → Runs bounds filter place steps to → Chain bounds filter (is_behind place) steps (is_behind to)
run_chain bounds filter place to [] r = λ key. ap (λ x. is_behind x key) (sym r)
run_chain bounds filter place to (s ∷ steps) r = (is_behind (after_unit bounds s.unit), downward (after_unit bounds s.unit), unit_cut bounds place s.unit r.0, r.1, run_chain bounds filter (after_unit bounds s.unit) to steps r.2)

chain_front : (bounds : Bounds) (filter : Option Filter) (a m z : Key → Bool) (steps : List Step) → ((key : Key) → a key ≡ m key) → Chain bounds filter m steps z → Chain bounds filter a steps z
chain_front bounds filter a m z [] e l = λ key. e key ∙ l key
chain_front bounds filter a m z (s ∷ steps) e l = (l.0, l.1, record { parts = λ key within. ap not (e key) ∙ l.2.parts key within; apart = l.2.apart }, l.3, l.4)

chain_append : (bounds : Bounds) (filter : Option Filter) (a m z : Key → Bool) (xs ys : List Step) → Chain bounds filter a xs m → Chain bounds filter m ys z → Chain bounds filter a (xs ++ ys) z
chain_append bounds filter a m z [] ys l r = chain_front bounds filter a m z ys l r
chain_append bounds filter a m z (s ∷ xs) ys l r = (l.0, l.1, l.2, l.3, chain_append bounds filter l.0 m z xs ys l.4 r)

-- the units of a stream, and the place behind them
stream_chain : (filter : Option Filter) (bounds : Bounds) (token last : Option Token) (pages : List (ℕ × List Step)) → IsStream filter bounds token pages last
    → (to : Place) × (token_of to ≡ last) × Chain bounds filter (is_behind (place_of bounds token)) (all_steps pages) (is_behind to)
stream_chain filter bounds token last [] s = absurd s
stream_chain filter bounds token last (p ∷ []) s =
    let to = (page_after (begun filter bounds p.0 token) p.1).place in
    (to, s.1, chain_append bounds filter (is_behind (place_of bounds token)) (is_behind to) (is_behind to) p.1 [] (run_chain bounds filter (place_of bounds token) to p.1 s.0.runs) (λ key. refl))
stream_chain filter bounds token last (p ∷ next ∷ pages) s =
    let to = (page_after (begun filter bounds p.0 token) p.1).place in
    let t = s.1.0 in
    let rest = stream_chain filter bounds (Some t) last (next ∷ pages) s.1.2 in
    let front = chain_front bounds filter (is_behind to) (is_behind (place_of bounds (Some t))) (is_behind rest.0) (all_steps (next ∷ pages)) (token_behind_is bounds to t s.1.1) rest.2 in
    (rest.0, rest.1, chain_append bounds filter (is_behind (place_of bounds token)) (is_behind to) (is_behind rest.0) p.1 (all_steps (next ∷ pages)) (run_chain bounds filter (place_of bounds token) to p.1 s.0.runs) front)

-- ---- each key in one unit

abbrev one_if : Bool → ℕ
one_if b = if b then 1 else 0

parted : (u m : Bool) → (u ≡ true → m ≡ true) → one_if (u || not m) ≡ one_if u + one_if (not m)
parted true m h = rw (h refl) refl
parted false true h = refl
parted false false h = refl

count_chain : (bounds : Bounds) (filter : Option Filter) (a z : Key → Bool) (steps : List Step) (key : Key) → IsWithin bounds key → Chain bounds filter a steps z → one_if (not (a key)) ≡ count_in key steps + one_if (not (z key))
count_chain bounds filter a z [] key within l = (let e : one_if (not (a key)) ≡ one_if (not (z key)) = ap (λ b. one_if (not b)) (l key) in omega (arith, e))
count_chain bounds filter a z (s ∷ steps) key within l =
    let rest = count_chain bounds filter l.0 z steps key within l.4 in
    let here : one_if (not (a key)) ≡ one_if (in_unit s.unit key) + one_if (not (l.0 key)) = ap one_if (l.2.parts key within) ∙ parted (in_unit s.unit key) (l.0 key) (l.2.apart key within) in
    omega (arith, rest, here)

pub each_key_once : (filter : Option Filter) (bounds : Bounds) (pages : List (ℕ × List Step)) (key : Key) → IsStream filter bounds None pages None → IsWithin bounds key → count_in key (all_steps pages) ≡ 1
each_key_once filter bounds pages key s within =
    let l = stream_chain filter bounds None None pages s in
    let c = count_chain bounds filter (is_behind (place_of bounds None)) (is_behind l.0) (all_steps pages) key within l.2 in
    let first : one_if (not (is_behind (place_of bounds None) key)) ≡ 1 = ap (λ b. one_if (not b)) (start_before bounds key within) in
    let last : one_if (not (is_behind l.0 key)) ≡ 0 = ap (λ b. one_if (not b)) (end_behind l.0 l.1 key) in
    omega (arith, c, first, last)

-- ---- keys rise

-- a key that is behind is less than one that is not
behind_less : (m : Key → Bool) (x y : Key) → Downward m → m x ≡ true → m y ≡ false → key_cmp x y ≡ Less
behind_less m x y down hx hy = go (key_cmp x y) refl where
  go : (o : Ordering) → key_cmp x y ≡ o → key_cmp x y ≡ Less
  go Less e = e
  go Equal e = absurd (let z : true ≡ false = sym hx ∙ ap m (key_ties x y e) ∙ hy in cc)
  go Greater e = (let less : key_cmp y x ≡ Less = key_total.antisymm y x ∙ ap ordering_reverse e in absurd (let z : true ≡ false = sym (down y x less hx) ∙ hy in cc))

-- the row is to come, and lies within the bounds
record ToCome (bounds : Bounds) (a : Key → Bool) (e : Entity) : Type 0 where
  pub come : a e.key ≡ false
  pub within : IsWithin bounds e.key

not_false : (x : Bool) → not x ≡ true → x ≡ false
not_false true h = absurd (let z = h in cc)
not_false false h = refl

not_true : (x : Bool) → x ≡ false → not x ≡ true
not_true true h = absurd (let z = h in cc)
not_true false h = refl

or_true : (x y : Bool) → y ≡ true → (x || y) ≡ true
or_true true y h = refl
or_true false y h = h

rows_chain : (bounds : Bounds) (filter : Option Filter) (a z : Key → Bool) (steps : List Step) → AreBounds filter bounds → Chain bounds filter a steps z → RisingKeys (rows_of steps) × AllByRecursion (ToCome bounds a) (rows_of steps)
rows_chain bounds filter a z [] are l = (keys_rise [] refl, tt)
rows_chain bounds filter a z (s ∷ steps) are l =
    let rest = rows_chain bounds filter l.0 z steps are l.4 in
    let here = unit_rows filter s.unit s.table s.rows l.3 in (
      rise_append s.rows (rows_of steps) here.0 rest.0
          (all_map _ _ s.rows (λ e h. all_map _ _ (rows_of steps) (λ f c. behind_less l.0 e.key f.key l.1 (l.2.apart e.key (within_of e h) h.inside) c.come) rest.1) here.1),
      all_append (ToCome bounds a) s.rows (rows_of steps)
          (all_map _ _ s.rows (λ e h. record { come = not_false (a e.key) (l.2.parts e.key (within_of e h) ∙ ap (λ t. t || not (l.0 e.key)) h.inside); within = within_of e h }) here.1)
          (all_map _ _ (rows_of steps) (λ f c. record { come = not_false (a f.key) (l.2.parts f.key c.within ∙ or_true (in_unit s.unit f.key) (not (l.0 f.key)) (not_true (l.0 f.key) c.come)); within = c.within }) rest.1),
    ) where
      within_of : (e : Entity) → IsRow filter s.unit s.table e → IsWithin bounds e.key
      within_of e h = matched_within filter bounds e.key (record { props = e.props; tag = e.tag }) are h.matched

pub keys_rise_through : (filter : Option Filter) (bounds : Bounds) (token last : Option Token) (pages : List (ℕ × List Step)) → AreBounds filter bounds → IsStream filter bounds token pages last → RisingKeys (rows_of (all_steps pages))
keys_rise_through filter bounds token last pages are s = (let l = stream_chain filter bounds token last pages s in (rows_chain bounds filter (is_behind (place_of bounds token)) (is_behind l.0) (all_steps pages) are l.2).0)

-- ---- rows stood in their tables

there_chain : (bounds : Bounds) (filter : Option Filter) (a z : Key → Bool) (steps : List Step) → Chain bounds filter a steps z → AllByRecursion AreThere steps
there_chain bounds filter a z [] l = tt
there_chain bounds filter a z (s ∷ steps) l = (there_at filter s l.3, there_chain bounds filter l.0 z steps l.4)

pub rows_stood : (filter : Option Filter) (bounds : Bounds) (token last : Option Token) (pages : List (ℕ × List Step)) → IsStream filter bounds token pages last → AllByRecursion AreThere (all_steps pages)
rows_stood filter bounds token last pages s = (let l = stream_chain filter bounds token last pages s in there_chain bounds filter (is_behind (place_of bounds token)) (is_behind l.0) (all_steps pages) l.2)

-- ---- a row that stays

abbrev first_some : Option Stored → Option Stored → Option Stored
first_some None y = y
first_some (Some x) y = Some x

at_append : (xs ys : List Entity) (key : Key) → table_of (as_rows (xs ++ ys)) key ≡ first_some (table_of (as_rows xs) key) (table_of (as_rows ys) key)
at_append [] ys key = refl
at_append (x ∷ xs) ys key = by (eq_by_cmp key_cmp key x.key) (at_append xs ys key) where
  by : (t : Bool) → table_of (as_rows (xs ++ ys)) key ≡ first_some (table_of (as_rows xs) key) (table_of (as_rows ys) key) → cond t (Some (record { props = x.props; tag = x.tag })) (table_of (as_rows (xs ++ ys)) key) ≡ first_some (cond t (Some (record { props = x.props; tag = x.tag })) (table_of (as_rows xs) key)) (table_of (as_rows ys) key)
  by true rest = refl
  by false rest = rest

unit_at : (filter : Option Filter) (unit : PageUnit) (table : Table) (rows : List Entity) (key : Key) (row : Stored) → Delivers filter unit table rows → table key ≡ Some row → is_matched filter key row.props ≡ true
    → table_of (as_rows rows) key ≡ cond (in_unit unit key) (Some row) None
unit_at filter (Scan pk from upto) table rows key row d t p =
    let same : d.1.0 ≡ rows = (let e : reply.Rows rows ≡ reply.Rows d.1.0 = d.1.1 in cc) in
    let listing = subst (λ es. IsListing es (selected (in_range pk from upto) filter table)) same d.1.2 in
    listing.rows key ∙ ap (λ o. cond (in_range pk from upto key) (kept_if (λ r. is_matched filter key r.props) o) None) t ∙ ap (λ b. cond (in_range pk from upto key) (cond b (Some row) None) None) p
unit_at filter (Gap from to) table rows key row d t p =
    let none : rows ≡ [] = (let e : reply.Rows rows ≡ reply.Rows [] = d.1 in cc) in
    ap (λ es. table_of (as_rows es) key) none ∙ by (in_unit (Gap from to) key) refl where
      by : (b : Bool) → in_unit (Gap from to) key ≡ b → None ≡ cond b (Some row) None
      by true e = absurd (let z : Some row ≡ None = sym t ∙ d.0 key e in cc)
      by false e = refl

stay_chain : (bounds : Bounds) (filter : Option Filter) (a z : Key → Bool) (steps : List Step) (key : Key) (row : Stored) → IsWithin bounds key → is_matched filter key row.props ≡ true → IsStable key row steps → Chain bounds filter a steps z
    → a key ≡ false → z key ≡ true → table_of (as_rows (rows_of steps)) key ≡ Some row
stay_chain bounds filter a z [] key row within p st l h e = absurd (let x : true ≡ false = sym e ∙ sym (l key) ∙ h in cc)
stay_chain bounds filter a z (s ∷ steps) key row within p st l h e =
    at_append s.rows (rows_of steps) key
    ∙ ap (λ o. first_some o (table_of (as_rows (rows_of steps)) key)) (unit_at filter s.unit s.table s.rows key row l.3 st.0 p)
    ∙ by (in_unit s.unit key) refl (λ come. stay_chain bounds filter l.0 z steps key row within p st.1 l.4 come e) where
      by : (b : Bool) → in_unit s.unit key ≡ b → (l.0 key ≡ false → table_of (as_rows (rows_of steps)) key ≡ Some row) → first_some (cond b (Some row) None) (table_of (as_rows (rows_of steps)) key) ≡ Some row
      by true w rest = refl
      by false w rest =
          let come : not (l.0 key) ≡ true = ap (λ c. c || not (l.0 key)) (sym w) ∙ sym (l.2.parts key within) ∙ ap not h in
          rest (not_false (l.0 key) come)

pub row_comes : (filter : Option Filter) (bounds : Bounds) (pages : List (ℕ × List Step)) (key : Key) (row : Stored) → AreBounds filter bounds → IsStream filter bounds None pages None → is_matched filter key row.props ≡ true → IsStable key row (all_steps pages)
    → table_of (as_rows (rows_of (all_steps pages))) key ≡ Some row
row_comes filter bounds pages key row are s p st =
    let within = matched_within filter bounds key row are p in
    let l = stream_chain filter bounds None None pages s in
    stay_chain bounds filter (is_behind (place_of bounds None)) (is_behind l.0) (all_steps pages) key row within p st l.2 (start_before bounds key within) (end_behind l.0 l.1 key)
