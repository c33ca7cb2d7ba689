-- The turns of a page, one after the other.
use Rattle.std.proofs.Common.{◌≡◌, ◌∙◌, ℕ, suc, ◌+◌, ◌*◌, ◌-◌, ◌≤◌, ◌<◌, Bool, true, false, ◌||◌, ◌==◌, nat_le, List, ◌++◌, refl, sym, ap, subst, arith, Option, Some, None, Ok}
use Rattle.std.specs.Prelude.{is_some}
use Rattle.std.proofs.lemmas.Bool.Decides.{nat_tests}
use Rattle.mt_model.specs.declared.entity.Entity.{Entity}
use Rattle.mt_filter.specs.declared.filter.Filter.{Filter}
use Rattle.mt_match.specs.declared.bounds.Bounds.{Bounds}
use Rattle.mt_chain.specs.declared.ask.StoreAsk.{StoreAsk}
use Rattle.mt_chain.specs.declared.ask.StoreReply.{StoreReply}
use Rattle.mt_chain.specs.StoreCall.{Contents}
use Rattle.mt_meta.specs.Logical.{Pair}
use Rattle.mt_meta.specs.Steps.{AllHold}
use Rattle.mt_scan.specs.declared.unit.Place.{Place}
use Rattle.mt_scan.specs.declared.unit.Place.TheVariants as at
use Rattle.mt_scan.specs.declared.unit.PageProgress.{PageProgress}
use Rattle.mt_scan.specs.declared.unit.PageProgress.TheVariants as page
use Rattle.mt_scan.specs.declared.saw.Half.{Half}
use Rattle.mt_scan.specs.declared.saw.Half.TheVariants.{First, Turned, Closed, Named}
use Rattle.mt_scan.specs.Units.{IsSameFilter}
use Rattle.mt_scan.specs.Pages as pages
use Rattle.mt_scan.specs.PageSteps.{calls_left, Does, PageStep}
use Rattle.mt_scan.proofs.StepLaw.{scan_law}
use Rattle.mt_world.specs.declared.actor.ClientCall.TheVariants as client
use Rattle.mt_world.specs.declared.actor.Actor.{Actor}
use Rattle.mt_world.specs.declared.actor.Actor.TheVariants.{Client}
use Rattle.mt_world.specs.declared.actor.Progress.TheVariants.{More}
use Rattle.mt_world.specs.Worlds.{WorldState, pair_of, ForPair, Tells, IsReplayed, IsWorld, AreTrueOf}
use Rattle.mt_world.specs.Moves.{NewEntry, Move, PageMoves, page_move, actor_facts}
use Rattle.mt_world.specs.Turns.{stage_of, OneCall, Moves, Turns}
use Rattle.mt_world.proofs.PairLaws.{for_pair, at_pair, before}
use Rattle.mt_world.proofs.PageEntries.{same_unit}

pub told_is : (o : Option Contents) → is_some o ≡ true → (c : Contents) × (o ≡ Some c)
told_is None e = absurd cc
told_is (Some c) e = (c, refl)

-- ---- a turn that goes on

-- the step that it is
pub record PageGoesOn (call : pages.Page) (w w' : WorldState) (entry : Option NewEntry) (a' : Actor) : Type 0 where
  pub to : pages.Page
  pub said : PageProgress
  pub rows : List Entity
  pub filter : Option Filter
  pub more : More ≡ (page_move to filter rows said).progress
  pub after : a' ≡ Client (client.Page to)
  pub leaves : entry ≡ (page_move to filter rows said).entry
  pub added : to.rows ≡ call.rows ++ rows
  pub equal : IsSameFilter filter call.filter
  pub ask : StoreAsk
  pub asks : ask ≡ pages.asks call
  pub answer : StoreReply
  pub one : OneCall (stage_of w) ask (Ok answer) (stage_of w')
  pub absorbs : pages.Absorbs call answer (Ok said) to

page_on_with : (to : pages.Page) (filter : Option Filter) (rows : List Entity) (said : PageProgress) → More ≡ (page_move to filter rows said).progress → (page_move to filter rows said).after ≡ Client (client.Page to)
page_on_with to filter rows page.More e = refl
page_on_with to filter rows (page.Unit unit) e = refl
page_on_with to filter rows (page.Last unit) e = absurd cc

pub page_goes_on : (w w' : WorldState) (call : pages.Page) (entry : Option NewEntry) (a' : Actor) → Moves (stage_of w) (Client (client.Page call)) (Ok More) entry (stage_of w') a' → PageGoesOn call w w' entry a'
page_goes_on w w' call entry a' m =
    let b : PageMoves call m.1 (record { progress = More; entry = entry; after = a' }) = m.4 in
    let more = ap (λ (x : Move). x.progress) b.is in
    record {
      to = b.to;
      said = b.said;
      rows = b.rows;
      filter = b.filter;
      more = more;
      after = ap (λ (x : Move). x.after) b.is ∙ page_on_with b.to b.filter b.rows b.said more;
      leaves = ap (λ (x : Move). x.entry) b.is;
      added = b.added;
      equal = b.equal;
      ask = m.0;
      asks = m.2;
      answer = m.1;
      one = m.3;
      absorbs = b.absorbs;
    }

-- it is not over then
open_by : (call to : pages.Page) (r : StoreReply) (filter : Option Filter) (rows : List Entity) (said : PageProgress) → pages.is_over call ≡ false → More ≡ (page_move to filter rows said).progress → pages.Absorbs call r (Ok said) to → pages.is_over to ≡ false
open_by call to r filter rows page.More going e h = ap pages.is_over (same_unit call to r h).1 ∙ going
open_by call to r filter rows (page.Unit unit) going e h = h.3
open_by call to r filter rows (page.Last unit) going e h = absurd cc

pub still_open : (call : pages.Page) (w w' : WorldState) (entry : Option NewEntry) (a' : Actor) → pages.is_over call ≡ false → (g : PageGoesOn call w w' entry a') → pages.is_over g.to ≡ false
still_open call w w' entry a' going g = open_by call g.to g.answer g.filter g.rows g.said going g.more g.absorbs

-- ---- how many turns it takes

-- a page after so many turns, where no other comes between: two for each unit that is done, and those of the unit at hand
abbrev pub turns_before : pages.Page → ℕ
turns_before call = 2 * call.units + (2 - calls_left call.half)

abbrev pub PageStands : ℕ → WorldState → pages.Page → Type 0
PageStands n w call = (n ≤ turns_before call) × (call.units < 256) × ForPair w (λ p. AreTrueOf w p (pages.page_facts call))

no_facts : (p : Pair) (retired : Bool) (bounds : Bounds) (place : Place) → AllHold p retired (pages.half_facts bounds place First)
no_facts p retired bounds (at.Rows pk row) = tt
no_facts p retired bounds (at.Parts from) = tt
no_facts p retired bounds at.End = tt

-- a page that begins a unit knows nothing
pub knows_nothing : (w : WorldState) (call : pages.Page) → call.half ≡ First → ForPair w (λ p. AreTrueOf w p (pages.page_facts call))
knows_nothing w call first = for_pair w (λ p. AreTrueOf w p (pages.page_facts call)) (λ a b ea eb. subst (λ half. AllHold (pair_of w a b) w.retired (pages.half_facts call.bounds call.place half)) (sym first) (no_facts (pair_of w a b) w.retired call.bounds call.place))

pub page_begins : (w : WorldState) (call : pages.Page) → call.units ≡ 0 → call.half ≡ First → PageStands 0 w call
page_begins w call none first = (omega arith, omega (arith, none), knows_nothing w call first)

one_left : (half : Half) → (1 ≤ calls_left half) × (calls_left half ≤ 2)
one_left First = (omega arith, omega arith)
one_left (Turned old) = (omega arith, omega arith)
one_left Closed = (omega arith, omega arith)
one_left (Named next) = (omega arith, omega arith)

few_units : (place : Place) (room units : ℕ) → pages.is_over_at place room units ≡ false → units < 256
few_units place room units going = by (pages.is_end place) (room == 0) (nat_le 256 units) refl going where
  by : (a b c : Bool) → nat_le 256 units ≡ c → (a || (b || c)) ≡ false → units < 256
  by true b c e h = absurd (let x = h in cc)
  by false true c e h = absurd (let x = h in cc)
  by false false true e h = absurd (let x = h in cc)
  by false false false e h = (let lt : units < 256 = grind (arith, nat_tests) in lt)

-- one turn more
later_by : (n : ℕ) (call to : pages.Page) (said : PageProgress) (filter : Option Filter) (rows : List Entity) (p q : Pair) → n ≤ turns_before call → More ≡ (page_move to filter rows said).progress → Does call said to p q → suc n ≤ turns_before to
later_by n call to page.More filter rows p q le e does =
    let half = does.1.0 in
    let units : to.units ≡ call.units = ap (λ (x : pages.Page). x.units) does.1.1 in
    let left : calls_left to.half ≡ calls_left half = ap (λ (x : pages.Page). calls_left x.half) does.1.1 in
    let fewer = does.1.2 in
    let some = one_left half in
    let most = one_left call.half in
    omega (arith, le, units, left, fewer, some.0, most.1)
later_by n call to (page.Unit unit) filter rows p q le e does =
    let units : to.units ≡ call.units + 1 = ap (λ (x : pages.Page). x.units) does.1.1.2 in
    let some = one_left call.half in
    omega (arith, le, units, some.0)
later_by n call to (page.Last unit) filter rows p q le e does = absurd cc

pub page_on : (n : ℕ) (w w' : WorldState) (caller : ℕ) (call : pages.Page) (a' : Actor) (entry : Option NewEntry) → IsWorld w → PageStands n w call → Turns w caller (Client (client.Page call)) (Ok More) entry w' a' → (g : PageGoesOn call w w' entry a') → Tells w' → PageStands (suc n) w' g.to
page_on n w w' caller call a' entry world stands t g tells = (
  later,
  few_units g.to.place g.to.room g.to.units (still_open call w w' entry a' t.fits.1 g),
  subst (λ (a : Actor). ForPair w' (λ p. AreTrueOf w' p (actor_facts a))) g.after t.knows,
) where
  step : (a b : Contents) → w'.old_store.told ≡ Some a → w'.new_store.told ≡ Some b → suc n ≤ turns_before g.to
  step a b ea eb =
      let k = before w w' g.ask.side g.ask.ask g.answer a b ea eb g.one.on in
      let r = at_pair w (IsReplayed w) k.a k.b k.old k.new world.replayed in
      let facts = at_pair w (λ p. AreTrueOf w p (pages.page_facts call)) k.a k.b k.old k.new stands.2 in
      let s : PageStep call g.to w.retired g.said (pair_of w k.a k.b) (pair_of w a b)
      = scan_law call g.to g.ask g.answer g.said (pair_of w k.a k.b) (pair_of w a b) w.retired t.fits.0 t.fits.1 r.sound k.rises facts g.asks k.fits k.means g.absorbs in
      later_by n call g.to g.said g.filter g.rows (pair_of w k.a k.b) (pair_of w a b) stands.0 g.more s.does

  later : suc n ≤ turns_before g.to
  later =
      let x = told_is w'.old_store.told tells.old in
      let y = told_is w'.new_store.told tells.new in
      step x.0 y.0 x.1 y.1

pub page_few : (n : ℕ) (w : WorldState) (call : pages.Page) → PageStands n w call → n + 1 ≤ 512
page_few n w call h = (let so_far = h.0 in let units = h.1 in let some = (one_left call.half).0 in omega (arith, so_far, units, some))
