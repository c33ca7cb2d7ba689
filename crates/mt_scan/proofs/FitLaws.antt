-- What a page keeps whatever the stores reply.
use Rattle.std.proofs.Common.{◌≡◌, ℕ, ◌≤◌, Bool, true, false, cond, not, ◌||◌, ◌==◌, nat_le, List, [], ◌∷◌, ◌++◌, length, map, Option, Some, None, refl, sym, ap, subst, ◌∙◌, arith, inl, inr, Less, Equal, Greater, Ordering, append-nil}
use Rattle.std.specs.Prelude.{IfSome, IsTrue}
use Rattle.std.proofs.lemmas.Bool.{and_parts}
use Rattle.std.proofs.lemmas.Bool.Decides.{nat_tests}
use Rattle.std.specs.List.{All, AllByRecursion}
use Rattle.std.proofs.lemmas.List.Elements.{All-head, All-tail}
use Rattle.std.specs.List.Sorted.{IsStrictlySortedBy}
use Rattle.std.specs.Ordering.{nat_cmp, is_eq, is_lt, is_le, ordering_then, ordering_reverse}
use Rattle.std.specs.Cmp.{tied_itself}
use Rattle.std.specs.Cmp.Lexicographic.{slice_cmp, nat_list_cmp_total, texts_ties}
use Rattle.mt_model.specs.declared.key.Key.{Key}
use Rattle.mt_model.specs.declared.entity.Entity.{Entity}
use Rattle.mt_model.specs.Key.{key_cmp}
use Rattle.mt_model.specs.Entities.{RisingKeys}
use Rattle.mt_filter.specs.declared.filter.Filter.{Filter}
use Rattle.mt_match.specs.declared.bounds.Bounds.{Bounds}
use Rattle.mt_chain.specs.declared.row.StoredRow.{StoredRow}
use Rattle.mt_chain.specs.declared.query.Found.{Found}
use Rattle.mt_chain.specs.declared.query.Next.{Next}
use Rattle.mt_chain.specs.declared.query.Range.{Range}
use Rattle.mt_chain.specs.declared.query.PkFrom.{PkFrom}
use Rattle.mt_chain.specs.declared.query.PkFrom.TheVariants as part
use Rattle.mt_chain.specs.declared.query.RkFrom.TheVariants as start
use Rattle.mt_chain.specs.declared.ask.StoreReply.{StoreReply}
use Rattle.mt_chain.specs.declared.ask.StoreReply.TheVariants as reply
use Rattle.mt_chain.specs.Rows.{key_at, is_from, is_upto, is_within, is_past}
use Rattle.mt_chain.specs.Asks.{FitsAsk}
use Rattle.mt_chain.proofs.KeyLaws.{key_total, key_ties, text_true}
use Rattle.mt_chain.proofs.OrderLaws.{lt_less}
use Rattle.mt_chain.proofs.TextOrder.{text_cmp, le_itself}
use Rattle.mt_history.proofs.ListingLaws.{keys_rise}
use Rattle.mt_meta.specs.declared.marker.Phase.{Phase}
use Rattle.mt_meta.specs.declared.marker.Phase.TheVariants.{UseOld, PreferOld, PreferNew}
use Rattle.mt_meta.specs.declared.marker.NewPhase.{NewPhase}
use Rattle.mt_meta.specs.declared.marker.NewPhase.TheVariants.{Filling, UseNew}
use Rattle.mt_scan.specs.declared.unit.Unit.{Unit as PageUnit}
use Rattle.mt_scan.specs.declared.unit.Unit.TheVariants.{Gap}
use Rattle.mt_scan.specs.declared.unit.Place.{Place}
use Rattle.mt_scan.specs.declared.unit.Place.TheVariants as at
use Rattle.mt_scan.specs.declared.unit.Token.{Token}
use Rattle.mt_scan.specs.declared.unit.Token.TheVariants as token
use Rattle.mt_scan.specs.declared.saw.Half.{Half}
use Rattle.mt_scan.specs.declared.saw.Half.TheVariants.{First, Turned, Closed, Named}
use Rattle.mt_scan.specs.declared.call.Seen.TheVariants as came
use Rattle.mt_scan.specs.Units.{place_of, from_row, after_scan, after_gap}
use Rattle.mt_scan.specs.Chunks.{asked_from, asked_range, is_partition_key, is_fair, is_fair_next, lesser, Chunk}
use Rattle.mt_scan.specs.Pages.{Page, AreBounds, IsKeyedToken, begun, is_end, is_over, side_of, range_at, asks_at, asks, Lead, again, on, chunk, gap, saw_old, saw_turned, saw_closed, saw_rows, saw_next, old_marker, new_marker, read_lead, next_lead, lead_of, with_half, after, IsScan, MakesAt, Makes, Sees, is_behind, MayBe, IsKeyed, AreIn, IsHalf, IsPage}
use Rattle.mt_scan.proofs.RowLaws.{Usable, MayBeGood, IsOf, of_chunk, chunk_end}

-- ---- at the start

start_keyed : (bounds : Bounds) (token : Option Token) → IfSome token IsKeyedToken → IsKeyed bounds (place_of bounds token)
start_keyed bounds None h = inr refl
start_keyed bounds (Some (token.Row key)) h = h
start_keyed bounds (Some (token.Part (part.From pk))) h = inl h
start_keyed bounds (Some (token.Part (part.After pk))) h = h

pub start_fits : (filter : Option Filter) (bounds : Bounds) (top : ℕ) (token : Option Token) → AreBounds filter bounds → IfSome token IsKeyedToken → IsPage (begun filter bounds top token)
start_fits filter bounds top token are keyed = record { bounds = are; rising = keys_rise [] refl; behind = tt; keyed = start_keyed bounds token keyed; half = tt }

no_end : (bounds : Bounds) (token : Option Token) → is_end (place_of bounds token) ≡ false
no_end bounds None = refl
no_end bounds (Some (token.Row key)) = refl
no_end bounds (Some (token.Part from)) = refl

pub start_goes : (filter : Option Filter) (bounds : Bounds) (top : ℕ) (token : Option Token) → 1 ≤ top → is_over (begun filter bounds top token) ≡ false
start_goes filter bounds top token some =
    let none : (top == 0) ≡ false = grind (arith, nat_tests) in
    ap (λ b. b || (top == 0 || nat_le 256 0)) (no_end bounds token) ∙ ap (λ b. b || nat_le 256 0) none

abbrev pub page_at : Option Filter → Bounds → ℕ → List Entity → Place → Page
page_at filter bounds top rows place = record { filter = filter; bounds = bounds; room = top; rows = rows; units = 0; place = place; half = First }

pub begun_is : (filter : Option Filter) (bounds : Bounds) (top : ℕ) (token : Option Token) (rows : List Entity) (place : Place) → rows ≡ [] → place ≡ place_of bounds token → page_at filter bounds top rows place ≡ begun filter bounds top token
begun_is filter bounds top token rows place none is = ap (λ (es : List Entity). page_at filter bounds top es place) none ∙ ap (page_at filter bounds top []) is

-- ---- where a reply leads

-- what a reply leads to is of the kind that was asked for, and may be used
abbrev pub LeadFits : Bounds → Place → Lead → Type 0
LeadFits bounds place again = Unit {0}
LeadFits bounds place (on half) = IsHalf bounds place half
LeadFits bounds (at.Rows pk row) (chunk phase old new) = Usable (range_at bounds row) old × Usable (range_at bounds row) new
LeadFits bounds (at.Parts from) (gap next) = MayBe (is_past from) next × (is_fair_next next ≡ true)
LeadFits bounds place lead = ⊥

module _ (bounds : Bounds) (pk : List ℕ) (row : Option (List ℕ)) where
  abbrev range : Range
  range = range_at bounds row

  old_fits : (found : Found) → Usable range (Some found) → (marker : Option (Option Phase)) (sealed : Bool) → LeadFits bounds (at.Rows pk row) (saw_old found marker sealed)
  old_fits found h (Some (Some UseOld)) sealed = (h, tt)
  old_fits found h (Some (Some PreferOld)) sealed = (h, tt)
  old_fits found h (Some (Some PreferNew)) sealed = h
  old_fits found h (Some None) sealed = tt
  old_fits found h None false = (tt, tt)
  old_fits found h None true = tt

  turned_fits : (old found : Found) → Usable range (Some old) → Usable range (Some found) → (marker : Option (Option NewPhase)) → LeadFits bounds (at.Rows pk row) (saw_turned old found marker)
  turned_fits old found g h (Some (Some Filling)) = (g, h)
  turned_fits old found g h (Some (Some UseNew)) = (tt, h)
  turned_fits old found g h (Some None) = tt
  turned_fits old found g h None = tt

  closed_fits : (found : Found) → Usable range (Some found) → (marker : Option (Option NewPhase)) → LeadFits bounds (at.Rows pk row) (saw_closed found marker)
  closed_fits found h (Some (Some Filling)) = tt
  closed_fits found h (Some (Some UseNew)) = (tt, h)
  closed_fits found h (Some None) = tt
  closed_fits found h None = (tt, tt)

  rows_fit : (half : Half) (found : Found) → IsHalf bounds (at.Rows pk row) half → Usable range (Some found) → LeadFits bounds (at.Rows pk row) (saw_rows half found)
  rows_fit First found g h = old_fits found h (old_marker found) found.sealed
  rows_fit (Turned old) found g h = turned_fits old found g h (new_marker found)
  rows_fit Closed found g h = closed_fits found h (new_marker found)
  rows_fit (Named next) found g h = tt

  all_in : (rows : List StoredRow) → All (λ r. IsTrue (is_within range r.rk)) rows → AreIn range rows
  all_in [] h = tt
  all_in (r ∷ rows) h = (All-head (λ x. IsTrue (is_within range x.rk)) r rows h, all_in rows (All-tail (λ x. IsTrue (is_within range x.rk)) r rows h))

  found_fits : (half : Half) (found : Found) → IsHalf bounds (at.Rows pk row) half → AreIn range found.rows → LeadFits bounds (at.Rows pk row) (read_lead (is_fair found) half found)
  found_fits half found g h = by (is_fair found) refl where
    by : (b : Bool) → is_fair found ≡ b → LeadFits bounds (at.Rows pk row) (read_lead b half found)
    by true e = rows_fit half found g (h, e)
    by false e = tt

lesser_may : (test : List ℕ → Bool) (a b : Option (List ℕ)) → MayBe test a → MayBe test b → MayBe test (lesser a b)
lesser_may test None b h k = k
lesser_may test (Some a) None h k = h
lesser_may test (Some a) (Some b) h k = go (is_le (slice_cmp nat_cmp a b)) where
  go : (t : Bool) → MayBe test (cond t (Some a) (Some b))
  go true = h
  go false = k

pub fair_may : (o : Option (List ℕ)) → is_fair_next o ≡ true → MayBe is_partition_key o
fair_may None h = tt
fair_may (Some pk) h = h

may_fair : (o : Option (List ℕ)) → MayBe is_partition_key o → is_fair_next o ≡ true
may_fair None h = refl
may_fair (Some pk) h = h

next_fits : (bounds : Bounds) (from : PkFrom) (half : Half) (next : Next) → IsHalf bounds (at.Parts from) half → MayBe (is_past from) next.pk → LeadFits bounds (at.Parts from) (next_lead (is_fair_next next.pk) half next)
next_fits bounds from half next g h = by (is_fair_next next.pk) refl where
  first : (sealed : Bool) → is_fair_next next.pk ≡ true → LeadFits bounds (at.Parts from) (saw_next First next.pk sealed)
  first false e = (h, e)
  first true e = (h, e)

  fair : (half : Half) → IsHalf bounds (at.Parts from) half → is_fair_next next.pk ≡ true → LeadFits bounds (at.Parts from) (saw_next half next.pk next.sealed)
  fair First g e = first next.sealed e
  fair (Named old) g e = (lesser_may (is_past from) old next.pk g.0 h, may_fair (lesser old next.pk) (lesser_may is_partition_key old next.pk (fair_may old g.1) (fair_may next.pk e)))
  fair (Turned old) g e = absurd g
  fair Closed g e = absurd g

  by : (b : Bool) → is_fair_next next.pk ≡ b → LeadFits bounds (at.Parts from) (next_lead b half next)
  by true e = fair half g e
  by false e = tt

may_past : (from : PkFrom) (o : Option (List ℕ)) → IfSome o (λ pk. IsTrue (is_past from pk)) → MayBe (is_past from) o
may_past from None h = tt
may_past from (Some pk) h = h

pub lead_fits : (bounds : Bounds) (place : Place) (half : Half) (answer : StoreReply) → IsHalf bounds place half → FitsAsk (asks_at bounds place (side_of half)).ask answer → LeadFits bounds place (lead_of place half answer)
lead_fits bounds (at.Rows pk row) half (reply.Found found) g h = found_fits bounds pk row half found g (all_in bounds pk row found.rows h.rows.0)
lead_fits bounds (at.Rows pk row) half answer g h = absurd h
lead_fits bounds (at.Parts from) half (reply.Next next) g h = next_fits bounds from half next g (may_past from next.pk h)
lead_fits bounds (at.Parts from) half answer g h = absurd h
lead_fits bounds at.End half answer g h = tt

-- ---- keys in order

pub less_le : (a b c : List ℕ) → text_cmp a b ≡ Less → is_le (text_cmp b c) ≡ true → text_cmp a c ≡ Less
less_le a b c less le = go (text_cmp b c) refl le where
  go : (o : Ordering) → text_cmp b c ≡ o → is_le o ≡ true → text_cmp a c ≡ Less
  go Less e h = nat_list_cmp_total.trans a b c less e
  go Equal e h = subst (λ k. text_cmp a k ≡ Less) (text_true b c (texts_ties b c ∙ ap is_eq e)) less
  go Greater e h = absurd (let x = h in cc)

le_less_key : (a b c : Key) → is_le (key_cmp a b) ≡ true → key_cmp b c ≡ Less → key_cmp a c ≡ Less
le_less_key a b c le less = go (key_cmp a b) refl le where
  go : (o : Ordering) → key_cmp a b ≡ o → is_le o ≡ true → key_cmp a c ≡ Less
  go Less e h = key_total.trans a b c e less
  go Equal e h = subst (λ k. key_cmp k c ≡ Less) (sym (key_ties a b e)) less
  go Greater e h = absurd (let x = h in cc)

same_part : (pk rk : List ℕ) (b : Key) → pk ≡ b.pk → text_cmp rk b.rk ≡ Less → key_cmp (key_at pk rk) b ≡ Less
same_part pk rk b same less = ap (λ o. ordering_then o (text_cmp rk b.rk)) (ap (text_cmp pk) (sym same) ∙ tied_itself nat_list_cmp_total pk) ∙ less

-- a key behind a place in a partition is below each that lies past it there
below_ahead : (pk : List ℕ) (row : Option (List ℕ)) (a b : Key) → is_behind (at.Rows pk row) a ≡ true → pk ≡ b.pk → is_from (from_row row) b.rk ≡ true → key_cmp a b ≡ Less
below_ahead pk None a b behind same from = ap (λ o. ordering_then o (text_cmp a.rk b.rk)) (ap (text_cmp a.pk) (sym same) ∙ lt_less _ behind)
below_ahead pk (Some rk) a b behind same from = le_less_key a (key_at pk rk) b behind (same_part pk rk b same (lt_less _ from))

-- the part of a key that is not above is at most the other's
le_part : (a : Key) (pk rk : List ℕ) → is_le (key_cmp a (key_at pk rk)) ≡ true → is_le (text_cmp a.pk pk) ≡ true
le_part a pk rk le = go (text_cmp a.pk pk) refl le where
  go : (o : Ordering) → text_cmp a.pk pk ≡ o → is_le (ordering_then o (text_cmp a.rk rk)) ≡ true → is_le o ≡ true
  go Less e h = refl
  go Equal e h = refl
  go Greater e h = h

lt_le : (o : Ordering) → is_lt o ≡ true → is_le o ≡ true
lt_le Less h = refl
lt_le Equal h = absurd (let x = h in cc)
lt_le Greater h = absurd (let x = h in cc)

not_past : (pk x : List ℕ) → is_le (text_cmp x pk) ≡ true → not (is_lt (text_cmp pk x)) ≡ true
not_past pk x le = ap not (go (text_cmp x pk) refl le) where
  go : (o : Ordering) → text_cmp x pk ≡ o → is_le o ≡ true → is_lt (text_cmp pk x) ≡ false
  go Less e h = ap is_lt (nat_list_cmp_total.antisymm pk x ∙ ap ordering_reverse e)
  go Equal e h = ap is_lt (nat_list_cmp_total.antisymm pk x ∙ ap ordering_reverse e)
  go Greater e h = absurd (let x = h in cc)

behind_part : (pk : List ℕ) (row : Option (List ℕ)) (a : Key) → is_behind (at.Rows pk row) a ≡ true → is_le (text_cmp a.pk pk) ≡ true
behind_part pk None a h = lt_le _ h
behind_part pk (Some rk) a h = le_part a pk rk h

-- what lies before a place lies before each partition at or past it
past_below : (from : PkFrom) (x pk : List ℕ) → not (is_past from x) ≡ true → is_past from pk ≡ true → is_lt (text_cmp x pk) ≡ true
past_below (part.From low) x pk before past = ap is_lt (go (text_cmp low x) refl before) where
  go : (o : Ordering) → text_cmp low x ≡ o → not (is_le o) ≡ true → text_cmp x pk ≡ Less
  go Less e h = absurd (let x = h in cc)
  go Equal e h = absurd (let x = h in cc)
  go Greater e h = less_le x low pk (nat_list_cmp_total.antisymm x low ∙ ap ordering_reverse e) past
past_below (part.After low) x pk before past = ap is_lt (go (text_cmp low x) refl before) where
  go : (o : Ordering) → text_cmp low x ≡ o → not (is_lt o) ≡ true → text_cmp x pk ≡ Less
  go Less e h = absurd (let x = h in cc)
  go Equal e h = subst (λ k. text_cmp k pk ≡ Less) (text_true low x (texts_ties low x ∙ ap is_eq e)) (lt_less _ past)
  go Greater e h = nat_list_cmp_total.trans x low pk (nat_list_cmp_total.antisymm x low ∙ ap ordering_reverse e) (lt_less _ past)

-- ---- the rows of a page, and more behind them

pub all_map : (P Q : Entity → Type 0) (es : List Entity) → ((e : Entity) → P e → Q e) → AllByRecursion P es → AllByRecursion Q es
all_map P Q [] f h = tt
all_map P Q (e ∷ es) f h = (f e h.0, all_map P Q es f h.1)

pub all_append : (P : Entity → Type 0) (es fs : List Entity) → AllByRecursion P es → AllByRecursion P fs → AllByRecursion P (es ++ fs)
all_append P [] fs h k = k
all_append P (e ∷ es) fs h k = (h.0, all_append P es fs h.1 k)

below_append : (x : Key) (es fs : List Entity) → AllByRecursion (λ y. key_cmp x y ≡ Less) (map (λ e. e.key) es) → AllByRecursion (λ (f : Entity). key_cmp x f.key ≡ Less) fs → AllByRecursion (λ y. key_cmp x y ≡ Less) (map (λ e. e.key) (es ++ fs))
below_append x [] [] h k = tt
below_append x [] (f ∷ fs) h k = (k.0, below_append x [] fs tt k.1)
below_append x (e ∷ es) fs h k = (h.0, below_append x es fs h.1 k)

pub rise_append : (es fs : List Entity) → RisingKeys es → RisingKeys fs → AllByRecursion (λ (e : Entity). AllByRecursion (λ (f : Entity). key_cmp e.key f.key ≡ Less) fs) es → RisingKeys (es ++ fs)
unfolding IsStrictlySortedBy
rise_append [] fs h k below = k
rise_append (e ∷ es) fs h k below = (below_append e.key es fs h.0 below.0, rise_append es fs h.1 k below.1)

-- ---- a unit more

pub past_row : (low : List ℕ) (high : Option (List ℕ)) (row : Option (List ℕ)) (rk : List ℕ) → is_within (asked_range low high (from_row row)) rk ≡ true → is_from (from_row row) rk ≡ true
past_row low high row rk within = by low row (and_parts _ (is_upto high rk) within).0 where
  by : (low : List ℕ) (row : Option (List ℕ)) → is_from (asked_from low (from_row row)) rk ≡ true → is_from (from_row row) rk ≡ true
  by [] row h = h
  by (b ∷ bs) None h = refl
  by (b ∷ bs) (Some last) h = go (is_lt (text_cmp last (b ∷ bs))) refl h where
    go : (t : Bool) → is_lt (text_cmp last (b ∷ bs)) ≡ t → is_from (cond t (start.From (b ∷ bs)) (start.After last)) rk ≡ true → is_lt (text_cmp last rk) ≡ true
    go true e h = ap is_lt (less_le last (b ∷ bs) rk (lt_less _ e) h)
    go false e h = h

scan_behind : (pk : List ℕ) (row upto : Option (List ℕ)) (bounds : Bounds) (a : Key) → MayBeGood (range_at bounds row) upto → is_behind (at.Rows pk row) a ≡ true → is_behind (after_scan pk upto) a ≡ true
scan_behind pk row None bounds a good h = not_past pk a.pk (behind_part pk row a h)
scan_behind pk row (Some rk) bounds a good h = ap is_le (below_ahead pk row a (key_at pk rk) h refl (past_row bounds.rk_low bounds.rk_high row rk good.0))

of_behind : (pk : List ℕ) (limits : Range) (upto : Option (List ℕ)) (b : Key) → IsOf pk limits upto b → is_behind (after_scan pk upto) b ≡ true
of_behind pk limits None b h = subst (λ x. not (is_lt (text_cmp pk x)) ≡ true) h.0 (not_past pk pk (le_itself pk))
of_behind pk limits (Some rk) b h = subst (λ x. is_le (ordering_then (text_cmp x pk) (text_cmp b.rk rk)) ≡ true) h.0 (ap (λ o. is_le (ordering_then o (text_cmp b.rk rk))) (tied_itself nat_list_cmp_total pk) ∙ h.1)

gap_behind : (bounds : Bounds) (from : PkFrom) (next : Option (List ℕ)) (a : Key) → MayBe (is_past from) next → is_behind (at.Parts from) a ≡ true → is_behind (after_gap bounds next) a ≡ true
gap_behind bounds from None a may h = refl
gap_behind bounds from (Some pk) a may h = go (is_upto bounds.pk_high pk) where
  go : (t : Bool) → is_behind (cond t (at.Rows pk None) at.End) a ≡ true
  go true = past_below from a.pk pk h may
  go false = refl

scan_keyed : (bounds : Bounds) (pk : List ℕ) (limits : Range) (upto : Option (List ℕ)) → is_partition_key pk ≡ true → MayBeGood limits upto → IsKeyed bounds (after_scan pk upto)
scan_keyed bounds pk limits None h good = h
scan_keyed bounds pk limits (Some rk) h good = (h, good.1)

gap_keyed : (bounds : Bounds) (next : Option (List ℕ)) → is_fair_next next ≡ true → IsKeyed bounds (after_gap bounds next)
gap_keyed bounds None h = tt
gap_keyed bounds (Some pk) h = go (is_upto bounds.pk_high pk) where
  go : (t : Bool) → IsKeyed bounds (cond t (at.Rows pk None) at.End)
  go true = (h, tt)
  go false = tt

scan_half : (bounds : Bounds) (pk : List ℕ) (upto : Option (List ℕ)) → IsHalf bounds (after_scan pk upto) First
scan_half bounds pk None = tt
scan_half bounds pk (Some rk) = tt

module _ (page : Page) (fits : IsPage page) where
  scan_fits : (pk : List ℕ) (row : Option (List ℕ)) (phase : NewPhase) (old new : Option Found) (unit : PageUnit) (rows : List Entity) → page.place ≡ at.Rows pk row → Usable (range_at page.bounds row) old → Usable (range_at page.bounds row) new
      → IsScan pk (from_row row) page.filter phase page.room old new unit rows → IsPage (after page unit rows)
  scan_fits pk row phase old new unit rows there a b h =
      let range = range_at page.bounds row in
      let c : Chunk = record { rows = rows; upto = h.0 } in
      let of_rows = of_chunk pk range page.filter phase page.room old new a b c h.2 in
      let good = chunk_end pk range page.filter phase page.room old new a b c h.2 in
      let behind = subst (λ place. AllByRecursion (λ (e : Entity). is_behind place e.key ≡ true) page.rows) there fits.behind in
      let keyed = subst (IsKeyed page.bounds) there fits.keyed in
      subst (λ u. IsPage (after page u rows)) (sym h.1) (record {
        bounds = fits.bounds;
        rising = rise_append page.rows rows fits.rising (keys_rise rows h.2.rows.listing.rising)
            (all_map _ _ page.rows (λ e was. all_map _ _ rows (λ f is. below_ahead pk row e.key f.key was is.0 (past_row page.bounds.rk_low page.bounds.rk_high row f.key.rk is.2.0)) of_rows) behind);
        behind = all_append (λ e. is_behind (after_scan pk h.0) e.key ≡ true) page.rows rows
            (all_map _ _ page.rows (λ e was. scan_behind pk row h.0 page.bounds e.key good was) behind)
            (all_map _ _ rows (λ f is. of_behind pk range h.0 f.key is) of_rows);
        keyed = scan_keyed page.bounds pk range h.0 keyed.0 good;
        half = scan_half page.bounds pk h.0;
      })

  gap_fits : (from : PkFrom) (next : Option (List ℕ)) (unit : PageUnit) (rows : List Entity) → page.place ≡ at.Parts from → MayBe (is_past from) next → is_fair_next next ≡ true → unit ≡ Gap from next → rows ≡ [] → IsPage (after page unit rows)
  gap_fits from next unit rows there may fair is none =
      let behind = subst (λ place. AllByRecursion (λ (e : Entity). is_behind place e.key ≡ true) page.rows) there fits.behind in
      subst (λ u. IsPage (after page u rows)) (sym is) (subst (λ es. IsPage (after page (Gap from next) es)) (sym none) (record {
        bounds = fits.bounds;
        rising = subst RisingKeys (sym (append-nil page.rows)) fits.rising;
        behind = subst (AllByRecursion (λ (e : Entity). is_behind (after_gap page.bounds next) e.key ≡ true)) (sym (append-nil page.rows)) (all_map _ _ page.rows (λ e was. gap_behind page.bounds from next e.key may was) behind);
        keyed = gap_keyed page.bounds next fair;
        half = gap_half next;
      })) where
        gap_half : (next : Option (List ℕ)) → IsHalf page.bounds (after_gap page.bounds next) First
        gap_half None = tt
        gap_half (Some pk) = go (is_upto page.bounds.pk_high pk) where
          go : (t : Bool) → IsHalf page.bounds (cond t (at.Rows pk None) at.End) First
          go true = tt
          go false = tt

  done_at : (place : Place) (lead : Lead) (unit : PageUnit) (rows : List Entity) → page.place ≡ place → LeadFits page.bounds place lead → MakesAt place page.filter page.room lead unit rows → IsPage (after page unit rows)
  done_at (at.Rows pk row) (chunk phase old new) unit rows there fit h = scan_fits pk row phase old new unit rows there fit.0 fit.1 h
  done_at (at.Rows pk row) again unit rows there fit h = absurd h
  done_at (at.Rows pk row) (on half) unit rows there fit h = absurd h
  done_at (at.Rows pk row) (gap next) unit rows there fit h = absurd h
  done_at (at.Parts from) (gap next) unit rows there fit h = gap_fits from next unit rows there fit.0 fit.1 h.0 h.1
  done_at (at.Parts from) again unit rows there fit h = absurd h
  done_at (at.Parts from) (on half) unit rows there fit h = absurd h
  done_at (at.Parts from) (chunk phase old new) unit rows there fit h = absurd h
  done_at at.End lead unit rows there fit h = absurd h

  pub fit_of : (answer : StoreReply) → FitsAsk (asks page).ask answer → LeadFits page.bounds page.place (lead_of page.place page.half answer)
  fit_of answer h = lead_fits page.bounds page.place page.half answer fits.half h

  pub done_fits : (answer : StoreReply) → FitsAsk (asks page).ask answer → (unit : PageUnit) (rows : List Entity) → Makes page (lead_of page.place page.half answer) unit rows → IsPage (after page unit rows)
  done_fits answer h unit rows makes = done_at page.place (lead_of page.place page.half answer) unit rows refl (fit_of answer h) makes

  half_fits : (lead : Lead) (half : Half) → LeadFits page.bounds page.place lead → Sees page lead (came.On half) → IsPage (with_half page half)
  half_fits again half fit h = absurd h
  half_fits (on there) half fit h = record { bounds = fits.bounds; rising = fits.rising; behind = fits.behind; keyed = fits.keyed; half = subst (IsHalf page.bounds page.place) (sym h) fit }
  half_fits (chunk phase old new) half fit h = absurd h
  half_fits (gap next) half fit h = absurd h

  pub on_fits : (answer : StoreReply) → FitsAsk (asks page).ask answer → (half : Half) → Sees page (lead_of page.place page.half answer) (came.On half) → IsPage (with_half page half)
  on_fits answer h half sees = half_fits (lead_of page.place page.half answer) half (fit_of answer h) sees

few_at : (place : Place) (filter : Option Filter) (room : ℕ) (lead : Lead) (unit : PageUnit) (rows : List Entity) → MakesAt place filter room lead unit rows → length rows ≤ room
few_at (at.Rows pk row) filter room (chunk phase old new) unit rows h = h.2.rows.few
few_at (at.Rows pk row) filter room again unit rows h = absurd h
few_at (at.Rows pk row) filter room (on half) unit rows h = absurd h
few_at (at.Rows pk row) filter room (gap next) unit rows h = absurd h
few_at (at.Parts from) filter room (gap next) unit rows h = (let e = ap length h.1 in omega (arith, e))
few_at (at.Parts from) filter room again unit rows h = absurd h
few_at (at.Parts from) filter room (on half) unit rows h = absurd h
few_at (at.Parts from) filter room (chunk phase old new) unit rows h = absurd h
few_at at.End filter room lead unit rows h = absurd h

pub few_rows : (page : Page) (lead : Lead) (unit : PageUnit) (rows : List Entity) → Makes page lead unit rows → length rows ≤ page.room
few_rows page lead unit rows h = few_at page.place page.filter page.room lead unit rows h
