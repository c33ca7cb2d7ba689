-- Each step of a page is a step of an actor.
use Rattle.std.proofs.Common.{◌≡◌, ℕ, ◌<◌, ◌≤◌, Bool, true, false, cond, ◌||◌, ◌==◌, nat_le, List, [], ◌∷◌, Option, Some, None, refl, sym, ap, subst, ◌∙◌, arith, inl, Ok, Less, Equal, Greater, Ordering}
use Rattle.std.specs.Prelude.{IfSome, option_map}
use Rattle.std.proofs.lemmas.Bool.{and_parts}
use Rattle.std.proofs.lemmas.Bool.Decides.{nat_tests}
use Rattle.std.specs.Ordering.{nat_cmp, is_lt, is_le, ordering_reverse}
use Rattle.std.specs.Cmp.Lexicographic.{slice_cmp, nat_list_cmp_total}
use Rattle.mt_filter.specs.declared.filter.Filter.{Filter}
use Rattle.mt_match.specs.declared.bounds.Bounds.{Bounds}
use Rattle.mt_model.specs.declared.entity.Entity.{Entity}
use Rattle.mt_chain.specs.declared.query.Found.{Found}
use Rattle.mt_chain.specs.declared.query.Next.{Next}
use Rattle.mt_chain.specs.declared.query.PkFrom.{PkFrom}
use Rattle.mt_chain.specs.declared.ask.StoreAsk.{StoreAsk}
use Rattle.mt_chain.specs.declared.ask.StoreReply.{StoreReply}
use Rattle.mt_chain.specs.declared.ask.StoreReply.TheVariants as reply
use Rattle.mt_chain.specs.Rows.{Rows, has_partition, is_from, is_past}
use Rattle.mt_chain.specs.StoreCall.{Contents, IsContents, IsFound, IsNext as IsNextPartition}
use Rattle.mt_chain.specs.Asks.{FitsAsk}
use Rattle.mt_chain.proofs.OrderLaws.{lt_less}
use Rattle.mt_chain.proofs.RowLaws.{no_partition}
use Rattle.mt_chain.proofs.TextOrder.{not_le}
use Rattle.mt_history.specs.Legal.{IsGap, is_short_of}
use Rattle.mt_meta.specs.declared.marker.NewPhase.{NewPhase}
use Rattle.mt_meta.specs.declared.fact.Fact.{Fact}
use Rattle.mt_meta.specs.Markers.{marker_key}
use Rattle.mt_meta.specs.Logical.{Pair, logical}
use Rattle.mt_meta.specs.Sound.{IsSound}
use Rattle.mt_meta.specs.Facts.{AllPlain, Grows, KnowsClosed, IsBelow}
use Rattle.mt_meta.specs.Steps.{AllHold, as_row, logical_table, with_old, with_new, PairMeans}
use Rattle.mt_meta.proofs.Growth.{grows_self}
use Rattle.mt_meta.proofs.Actors.{plain_apart}
use Rattle.mt_meta.proofs.ByMarkers.{shows_none, shows_nothing}
use Rattle.mt_scan.specs.declared.unit.Unit.{Unit as PageUnit}
use Rattle.mt_scan.specs.declared.unit.Unit.TheVariants.{Scan, Gap}
use Rattle.mt_scan.specs.declared.unit.Place.{Place}
use Rattle.mt_scan.specs.declared.unit.Place.TheVariants as at
use Rattle.mt_scan.specs.declared.unit.PageProgress.{PageProgress}
use Rattle.mt_scan.specs.declared.unit.PageProgress.TheVariants as said
use Rattle.mt_scan.specs.declared.saw.Half.{Half}
use Rattle.mt_scan.specs.declared.saw.Half.TheVariants.{First, Turned, Closed, Named}
use Rattle.mt_scan.specs.Units.{from_row, IsNext, Delivers}
use Rattle.mt_scan.specs.Chunks.{is_fair, is_fair_next, lesser, Chunk}
use Rattle.mt_scan.specs.Pages.{Page, is_end, is_over, side_of, range_at, asks, asks_at, Lead, again, on, chunk, gap, saw_rows, saw_first, read_lead, next_lead, lead_of, with_half, after, IsScan, MakesAt, Comes, Absorbs, MayBe, IsPage, half_facts, page_facts}
use Rattle.mt_scan.specs.PageSteps.{contents_on, calls_left, DoesUnit, Does, PageStep}
use Rattle.mt_scan.proofs.RowLaws.{MayBeGood, chunk_end}
use Rattle.mt_scan.proofs.FitLaws.{LeadFits, fit_of, past_row, less_le}
use Rattle.mt_scan.proofs.ScanLaws.{Agrees, scan_rows}
use Rattle.mt_scan.proofs.PageLaw.{IsLed, first_led, then_turned, then_closed}
use Rattle.mt_scan.proofs.FairLaws.{read_fair, next_fair}

-- ---- gaps

past_end : (next : Option (List ℕ)) (from : PkFrom) (rows : Rows) (pk : List ℕ) → IsNextPartition from next rows → is_past from pk ≡ true → is_short_of next pk ≡ true → has_partition rows pk ≡ false
past_end None from rows pk is past short = is pk past
past_end (Some end) from rows pk is past short = go (has_partition rows pk) refl where
  go : (b : Bool) → has_partition rows pk ≡ b → b ≡ false
  go false e = refl
  go true e = absurd (apart (slice_cmp nat_cmp pk end) refl short) where
    apart : (o : Ordering) → slice_cmp nat_cmp pk end ≡ o → is_lt o ≡ true → ⊥
    apart Less is_less h = (let le = is.2 pk past e in let x : false ≡ true = sym (ap is_le (nat_list_cmp_total.antisymm end pk ∙ ap ordering_reverse is_less)) ∙ le in cc)
    apart Equal is_less h = cc
    apart Greater is_less h = cc

below_short : (next : Option (List ℕ)) (pk : List ℕ) → IsBelow pk next → is_short_of next pk ≡ true
below_short None pk h = refl
below_short (Some end) pk h = h

short_below : (next : Option (List ℕ)) (pk : List ℕ) → is_short_of next pk ≡ true → IsBelow pk next
short_below None pk h = tt
short_below (Some end) pk h = h

short_both : (a b : Option (List ℕ)) (pk : List ℕ) → is_short_of (lesser a b) pk ≡ true → (is_short_of a pk ≡ true) × (is_short_of b pk ≡ true)
short_both None b pk h = (refl, h)
short_both (Some a) None pk h = (h, refl)
short_both (Some a) (Some b) pk h = go (is_le (slice_cmp nat_cmp a b)) refl h where
  go : (t : Bool) → is_le (slice_cmp nat_cmp a b) ≡ t → is_short_of (cond t (Some a) (Some b)) pk ≡ true → (is_lt (slice_cmp nat_cmp pk a) ≡ true) × (is_lt (slice_cmp nat_cmp pk b) ≡ true)
  go true e h = (h, ap is_lt (less_le pk a b (lt_less _ h) e))
  go false e h = (ap is_lt (nat_list_cmp_total.trans pk b a (lt_less _ h) (not_le a b e)), h)

module _ (from : PkFrom) (p : Pair) (retired : Bool) (sound : IsSound p) where
  -- what holds where the next partition leads there
  abbrev GapLed : ℕ → Lead → Type 0
  GapLed left again = ⊥
  GapLed left (on (Named next)) = KnowsClosed p from next × (1 < left)
  GapLed left (on half) = ⊥
  GapLed left (chunk phase old new) = ⊥
  GapLed left (gap next) = IsGap from next (logical_table p)

  none_seen : (next : Option (List ℕ)) → ((pk : List ℕ) → is_past from pk ≡ true → is_short_of next pk ≡ true → (rk : List ℕ) → logical p pk rk ≡ None) → IsGap from next (logical_table p)
  none_seen next none key within = (let parts = and_parts (is_past from key.pk) (is_short_of next key.pk) within in ap (option_map as_row) (none key.pk parts.0 parts.1 key.rk))

  old_gap : (next : Option (List ℕ)) (sealed : Bool) → IsNextPartition from next p.old.rows → sealed ≡ p.old.sealed → GapLed 2 (saw_first next sealed)
  old_gap next false is same = none_seen next (λ pk past short rk. shows_none p pk rk sound (no_partition p.old.rows pk marker_key (past_end next from p.old.rows pk is past short)) (sym same))
  old_gap next true is same = (record { sealed = sym same; empty = λ pk past below rk. no_partition p.old.rows pk rk (past_end next from p.old.rows pk is past (below_short next pk below)) }, omega arith)

  new_gap : (old next : Option (List ℕ)) → KnowsClosed p from old → IsNextPartition from next p.new.rows → GapLed 1 (gap (lesser old next))
  new_gap old next closed is = none_seen (lesser old next) (λ pk past short rk. (
      let parts = short_both old next pk short in
      shows_nothing p pk rk sound (closed.empty pk past (short_below old pk parts.0) marker_key) (no_partition p.new.rows pk marker_key (past_end next from p.new.rows pk is past parts.1))))

-- ---- where the page then is

-- no unit is done where the page goes on
no_unit : (filter : Option Filter) (room : ℕ) (half : Half) (unit : PageUnit) (rows : List Entity) (place : Place) → MakesAt place filter room (on half) unit rows → ⊥
no_unit filter room half unit rows (at.Rows pk row) h = h
no_unit filter room half unit rows (at.Parts from) h = h
no_unit filter room half unit rows at.End h = h

-- what a step is shown to be, whatever else its actor knows
record Stepped (page to : Page) (retired : Bool) (answer : PageProgress) (p q : Pair) : Type 0 where
  pub sound : IsSound q
  pub grows : (own : List Fact) → Grows own p q
  pub knows : AllHold q retired (page_facts to)
  pub does : Does page answer to p q

module _ (page : Page) (fits : IsPage page) (going : is_over page ≡ false) (p : Pair) (retired : Bool) (sound : IsSound p) where
  no_facts : (place : Place) → AllHold p retired (half_facts page.bounds place First)
  no_facts (at.Rows pk row) = tt
  no_facts (at.Parts from) = tt
  no_facts at.End = tt

  goes_on : (to : Page) (half : Half) → to ≡ with_half page half → AllHold p retired (half_facts page.bounds page.place half) → calls_left half < calls_left page.half → Stepped page to retired said.More p p
  goes_on to half is knows fewer = record { sound = sound; grows = λ own. grows_self own p sound; knows = subst (λ (t : Page). AllHold p retired (page_facts t)) (sym is) knows; does = (refl, (half, is, fewer)) }

  unit_does : (unit : PageUnit) (rows : List Entity) (to : Page) → to ≡ after page unit rows → IsNext page.place unit → Delivers page.filter unit (logical_table p) rows → DoesUnit page unit to p
  unit_does unit rows to is next delivers = (next, (rows, delivers, is))

  done : (unit : PageUnit) (rows : List Entity) (to : Page) → to ≡ after page unit rows → IsNext page.place unit → Delivers page.filter unit (logical_table p) rows → Stepped page to retired (said.Unit unit) p p × Stepped page to retired (said.Last unit) p p
  done unit rows to is next delivers =
      let knows = subst (λ (t : Page). AllHold p retired (page_facts t)) (sym is) (no_facts (after page unit rows).place) in
      let does = unit_does unit rows to is next delivers in (
        record { sound = sound; grows = λ own. grows_self own p sound; knows = knows; does = (refl, does) },
        record { sound = sound; grows = λ own. grows_self own p sound; knows = knows; does = (refl, does) },
      )

  some_room : 1 ≤ page.room
  some_room = by (is_end page.place) (page.room == 0) refl going where
    by : (e z : Bool) → (page.room == 0) ≡ z → (e || (z || nat_le 256 page.units)) ≡ false → 1 ≤ page.room
    by true z ez h = absurd (let x = h in cc)
    by false true ez h = absurd (let x = h in cc)
    by false false ez h = grind (arith, nat_tests)

  -- a chunk
  module _ (pk : List ℕ) (row : Option (List ℕ)) (there : page.place ≡ at.Rows pk row) where
    scan_next : (upto : Option (List ℕ)) → MayBeGood (range_at page.bounds row) upto → IfSome upto (λ end. is_from (from_row row) end ≡ true)
    scan_next None good = tt
    scan_next (Some rk) good = past_row page.bounds.rk_low page.bounds.rk_high row rk good.0

    scan_done : (phase : NewPhase) (old new : Option Found) (unit : PageUnit) (rows : List Entity) → LeadFits page.bounds (at.Rows pk row) (chunk phase old new) → Agrees p pk (range_at page.bounds row) phase old new
        → IsScan pk (from_row row) page.filter phase page.room old new unit rows → IsNext page.place unit × Delivers page.filter unit (logical_table p) rows
    scan_done phase old new unit rows fit agrees h =
        let c : Chunk = record { rows = rows; upto = h.0 } in
        let good = chunk_end pk (range_at page.bounds row) page.filter phase page.room old new fit.0 fit.1 c h.2 in
        let listing = scan_rows page.bounds pk row page.filter page.room phase old new p fits.bounds fit.0 fit.1 agrees some_room c h.2 in
        subst (λ (u : PageUnit). IsNext page.place u × Delivers page.filter u (logical_table p) rows) (sym h.1)
        (subst (λ (place : Place). IsNext place (Scan pk (from_row row) h.0) × Delivers page.filter (Scan pk (from_row row) h.0) (logical_table p) rows) (sym there)
        ((refl, refl, scan_next h.0 good), (tt, (rows, refl, listing))))

    rows_step : (lead : Lead) (answer : PageProgress) (to : Page) → IsLed page.bounds pk row p retired sound (calls_left page.half) lead → LeadFits page.bounds (at.Rows pk row) lead → Comes page lead answer to → Stepped page to retired answer p p
    rows_step again answer to led fit comes = absurd led
    rows_step (gap next) answer to led fit comes = absurd led
    rows_step (on half) said.More to led fit comes = goes_on to half comes (subst (λ (place : Place). AllHold p retired (half_facts page.bounds place half)) (sym there) led.0) led.1
    rows_step (on half) (said.Unit unit) to led fit comes = absurd (no_unit page.filter page.room _ unit comes.0 page.place comes.1)
    rows_step (on half) (said.Last unit) to led fit comes = absurd (no_unit page.filter page.room _ unit comes.0 page.place comes.1)
    rows_step (chunk phase old new) said.More to led fit comes = absurd comes
    rows_step (chunk phase old new) (said.Unit unit) to led fit comes = (
        let made = scan_done phase old new unit comes.0 fit led (subst (λ (place : Place). MakesAt place page.filter page.room (chunk phase old new) unit comes.0) there comes.1) in
        (done unit comes.0 to comes.2 made.0 made.1).0)
    rows_step (chunk phase old new) (said.Last unit) to led fit comes = (
        let made = scan_done phase old new unit comes.0 fit led (subst (λ (place : Place). MakesAt place page.filter page.room (chunk phase old new) unit comes.0) there comes.1) in
        (done unit comes.0 to comes.2 made.0 made.1).1)

  -- a gap
  module _ (from : PkFrom) (there : page.place ≡ at.Parts from) where
    gap_done : (next : Option (List ℕ)) (unit : PageUnit) (rows : List Entity) → LeadFits page.bounds (at.Parts from) (gap next) → IsGap from next (logical_table p) → (unit ≡ Gap from next) × (rows ≡ []) → IsNext page.place unit × Delivers page.filter unit (logical_table p) rows
    gap_done next unit rows fit is h =
        subst (λ (u : PageUnit). IsNext page.place u × Delivers page.filter u (logical_table p) rows) (sym h.0)
        (subst (λ (es : List Entity). IsNext page.place (Gap from next) × Delivers page.filter (Gap from next) (logical_table p) es) (sym h.1)
        (subst (λ (place : Place). IsNext place (Gap from next) × Delivers page.filter (Gap from next) (logical_table p) []) (sym there)
        ((refl, past next fit.0), (is, refl)))) where
          past : (o : Option (List ℕ)) → MayBe (is_past from) o → IfSome o (λ pk. is_past from pk ≡ true)
          past None h = tt
          past (Some pk) h = h

    gap_step : (lead : Lead) (answer : PageProgress) (to : Page) → GapLed from p retired sound (calls_left page.half) lead → LeadFits page.bounds (at.Parts from) lead → Comes page lead answer to → Stepped page to retired answer p p
    gap_step again answer to led fit comes = absurd led
    gap_step (chunk phase old new) answer to led fit comes = absurd led
    gap_step (on First) answer to led fit comes = absurd led
    gap_step (on (Turned old)) answer to led fit comes = absurd led
    gap_step (on Closed) answer to led fit comes = absurd led
    gap_step (on (Named next)) said.More to led fit comes = goes_on to (Named next) comes (subst (λ (place : Place). AllHold p retired (half_facts page.bounds place (Named next))) (sym there) (led.0, tt)) led.1
    gap_step (on (Named next)) (said.Unit unit) to led fit comes = absurd (no_unit page.filter page.room _ unit comes.0 page.place comes.1)
    gap_step (on (Named next)) (said.Last unit) to led fit comes = absurd (no_unit page.filter page.room _ unit comes.0 page.place comes.1)
    gap_step (gap next) said.More to led fit comes = absurd comes
    gap_step (gap next) (said.Unit unit) to led fit comes = (
        let made = gap_done next unit comes.0 fit led (subst (λ (place : Place). MakesAt place page.filter page.room (gap next) unit comes.0) there comes.1) in
        (done unit comes.0 to comes.2 made.0 made.1).0)
    gap_step (gap next) (said.Last unit) to led fit comes = (
        let made = gap_done next unit comes.0 fit led (subst (λ (place : Place). MakesAt place page.filter page.room (gap next) unit comes.0) there comes.1) in
        (done unit comes.0 to comes.2 made.0 made.1).1)

  -- ---- replies

  abbrev Finds : List ℕ → Option (List ℕ) → Found → Contents → Type 0
  Finds pk row found c = IsFound (record { pk = pk; named = marker_key ∷ []; range = Some (range_at page.bounds row) }) found c

  old_read : (pk : List ℕ) (row : Option (List ℕ)) (found : Found) → IsContents p.old → Finds pk row found p.old → IsLed page.bounds pk row p retired sound 2 (read_lead (is_fair found) First found)
  old_read pk row found rises is = subst (λ b. IsLed page.bounds pk row p retired sound 2 (read_lead b First found)) (sym (read_fair _ _ p.old pk (range_at page.bounds row) found sound.forms.0 rises is.rows is.more))
      (first_led page.bounds pk row p retired sound found rises is)

  new_read : (pk : List ℕ) (row : Option (List ℕ)) (half : Half) (found : Found) → IsContents p.new → IsLed page.bounds pk row p retired sound 1 (saw_rows half found) → Finds pk row found p.new → IsLed page.bounds pk row p retired sound 1 (read_lead (is_fair found) half found)
  new_read pk row half found rises led is = subst (λ b. IsLed page.bounds pk row p retired sound 1 (read_lead b half found)) (sym (read_fair _ _ p.new pk (range_at page.bounds row) found sound.forms.1 rises is.rows is.more)) led

  old_next : (from : PkFrom) (next : Next) → IsNextPartition from next.pk p.old.rows → next.sealed ≡ p.old.sealed → GapLed from p retired sound 2 (next_lead (is_fair_next next.pk) First next)
  old_next from next is same = subst (λ b. GapLed from p retired sound 2 (next_lead b First next)) (sym (next_fair _ _ p.old from next.pk sound.forms.0 sound.markers.0 is)) (old_gap from p retired sound next.pk next.sealed is same)

  new_next : (from : PkFrom) (old : Option (List ℕ)) (next : Next) → KnowsClosed p from old → IsNextPartition from next.pk p.new.rows → GapLed from p retired sound 1 (next_lead (is_fair_next next.pk) (Named old) next)
  new_next from old next closed is = subst (λ b. GapLed from p retired sound 1 (next_lead b (Named old) next)) (sym (next_fair _ _ p.new from next.pk sound.forms.1 sound.markers.1 is)) (new_gap from p retired sound old next.pk closed is)

-- ---- a step

old_same : (p q : Pair) → q.old ≡ p.old → q ≡ with_old p q.old → q ≡ p
old_same p q same is = is ∙ ap (with_old p) same

new_same : (p q : Pair) → q.new ≡ p.new → q ≡ with_new p q.new → q ≡ p
new_same p q same is = is ∙ ap (with_new p) same

abbrev page_at : Page → Place → Half → Page
page_at page place half = record { filter = page.filter; bounds = page.bounds; room = page.room; rows = page.rows; units = page.units; place = place; half = half }

stepped : (page to : Page) (place : Place) (half : Half) (r : StoreReply) (answer : PageProgress) (p q : Pair) (retired : Bool) → IsPage (page_at page place half) → is_over (page_at page place half) ≡ false → IsSound p → IsContents (contents_on (side_of half) q)
    → AllHold p retired (page_facts (page_at page place half)) → FitsAsk (asks (page_at page place half)).ask r → PairMeans (asks (page_at page place half)) r p q → Absorbs (page_at page place half) r (Ok answer) to
    → Stepped (page_at page place half) to retired answer p q
stepped page to (at.Rows pk row) First (reply.Found found) answer p q retired fits going sound rises facts fit m absorbs =
    let here = page_at page (at.Rows pk row) First in
    subst (λ x. Stepped here to retired answer p x) (sym (old_same p q m.0.0 m.1))
    (rows_step here fits going p retired sound pk row refl (lead_of (at.Rows pk row) First (reply.Found found)) answer to (old_read here fits going p retired sound pk row found (subst IsContents m.0.0 rises) m.0.1) (fit_of here fits (reply.Found found) fit) absorbs)
stepped page to (at.Rows pk row) (Turned old) (reply.Found found) answer p q retired fits going sound rises facts fit m absorbs =
    let here = page_at page (at.Rows pk row) (Turned old) in
    subst (λ x. Stepped here to retired answer p x) (sym (new_same p q m.0.0 m.1))
    (rows_step here fits going p retired sound pk row refl (lead_of (at.Rows pk row) (Turned old) (reply.Found found)) answer to
    (new_read here fits going p retired sound pk row (Turned old) found (subst IsContents m.0.0 rises) (then_turned here.bounds pk row p retired sound found (subst IsContents m.0.0 rises) m.0.1 old facts) m.0.1) (fit_of here fits (reply.Found found) fit) absorbs)
stepped page to (at.Rows pk row) Closed (reply.Found found) answer p q retired fits going sound rises facts fit m absorbs =
    let here = page_at page (at.Rows pk row) Closed in
    subst (λ x. Stepped here to retired answer p x) (sym (new_same p q m.0.0 m.1))
    (rows_step here fits going p retired sound pk row refl (lead_of (at.Rows pk row) Closed (reply.Found found)) answer to
    (new_read here fits going p retired sound pk row Closed found (subst IsContents m.0.0 rises) (then_closed here.bounds pk row p retired sound found (subst IsContents m.0.0 rises) m.0.1 facts) m.0.1) (fit_of here fits (reply.Found found) fit) absorbs)
stepped page to (at.Rows pk row) (Named next) (reply.Found found) answer p q retired fits going sound rises facts fit m absorbs = absurd fits.half
stepped page to (at.Rows pk row) half r answer p q retired fits going sound rises facts fit m absorbs = absurd fit
stepped page to (at.Parts from) First (reply.Next next) answer p q retired fits going sound rises facts fit m absorbs =
    let here = page_at page (at.Parts from) First in
    subst (λ x. Stepped here to retired answer p x) (sym (old_same p q m.0.0 m.1))
    (gap_step here fits going p retired sound from refl (lead_of (at.Parts from) First (reply.Next next)) answer to (old_next here fits going p retired sound from next m.0.1 m.0.2) (fit_of here fits (reply.Next next) fit) absorbs)
stepped page to (at.Parts from) (Named old) (reply.Next next) answer p q retired fits going sound rises facts fit m absorbs =
    let here = page_at page (at.Parts from) (Named old) in
    subst (λ x. Stepped here to retired answer p x) (sym (new_same p q m.0.0 m.1))
    (gap_step here fits going p retired sound from refl (lead_of (at.Parts from) (Named old) (reply.Next next)) answer to (new_next here fits going p retired sound from old next facts.0 m.0.1) (fit_of here fits (reply.Next next) fit) absorbs)
stepped page to (at.Parts from) (Turned old) (reply.Next next) answer p q retired fits going sound rises facts fit m absorbs = absurd fits.half
stepped page to (at.Parts from) Closed (reply.Next next) answer p q retired fits going sound rises facts fit m absorbs = absurd fits.half
stepped page to (at.Parts from) half r answer p q retired fits going sound rises facts fit m absorbs = absurd fit
stepped page to at.End half r answer p q retired fits going sound rises facts fit m absorbs = absurd (let x = going in cc)

-- the store that is asked
side_asked : (bounds : Bounds) (place : Place) (half : Half) → (asks_at bounds place (side_of half)).side ≡ side_of half
side_asked bounds (at.Rows pk row) half = refl
side_asked bounds (at.Parts from) half = refl
side_asked bounds at.End half = refl

-- what a page knows speaks of no epoch
pub half_plain : (page : Page) (place : Place) (half : Half) → AllPlain (half_facts page.bounds place half)
half_plain page (at.Rows pk row) First = tt
half_plain page (at.Rows pk row) (Turned old) = (tt, tt)
half_plain page (at.Rows pk row) Closed = (tt, tt)
half_plain page (at.Rows pk row) (Named next) = tt
half_plain page (at.Parts from) First = tt
half_plain page (at.Parts from) (Turned old) = tt
half_plain page (at.Parts from) Closed = tt
half_plain page (at.Parts from) (Named next) = (tt, tt)
half_plain page at.End half = tt

-- each step of a page is a step of an actor
pub scan_law : (page to : Page) (a : StoreAsk) (r : StoreReply) (answer : PageProgress) (p q : Pair) (retired : Bool) → IsPage page → is_over page ≡ false → IsSound p → IsContents (contents_on a.side q)
    → AllHold p retired (page_facts page) → a ≡ asks page → FitsAsk a.ask r → PairMeans a r p q → Absorbs page r (Ok answer) to → PageStep page to retired answer p q
scan_law page to a r answer p q retired fits going sound rises facts asked fit means absorbs =
    let step = stepped page to page.place page.half r answer p q retired fits going sound (subst (λ s. IsContents (contents_on s q)) (ap (λ (x : StoreAsk). x.side) asked ∙ side_asked page.bounds page.place page.half) rises) facts (subst (λ x. FitsAsk x.ask r) asked fit) (subst (λ x. PairMeans x r p q) asked means) absorbs in
    record {
      sound = step.sound;
      grows = step.grows (page_facts page);
      knows = step.knows;
      apart = λ f holds was. plain_apart f (page_facts to) (half_plain to to.place to.half);
      stays = λ was. was;
      retires = λ was. inl was;
      does = step.does;
    }
