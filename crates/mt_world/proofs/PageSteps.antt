-- The step of a page, by the law of its machine.
use Rattle.std.proofs.Common.{◌≡◌, ◌∙◌, ℕ, Bool, false, List, [], ◌∷◌, ◌++◌, refl, sym, ap, subst, Option, Ok}
use Rattle.mt_model.specs.declared.entity.Entity.{Entity}
use Rattle.mt_filter.specs.declared.filter.Filter.{Filter}
use Rattle.mt_chain.specs.declared.ask.StoreAsk.{StoreAsk}
use Rattle.mt_chain.specs.declared.ask.StoreReply.{StoreReply}
use Rattle.mt_chain.specs.StoreCall.{IsContents}
use Rattle.mt_chain.specs.Asks.{FitsAsk}
use Rattle.mt_history.specs.declared.model.Reply.TheVariants as told
use Rattle.mt_history.specs.Replies.{Replies}
use Rattle.mt_meta.specs.Logical.{Pair}
use Rattle.mt_meta.specs.Sound.{IsSound}
use Rattle.mt_meta.specs.declared.fact.Fact.{Fact}
use Rattle.mt_meta.specs.Facts.{ApartFrom}
use Rattle.mt_meta.specs.Steps.{logical_table, AllHold, ActorStep, PairMeans}
use Rattle.mt_scan.specs.declared.unit.Unit.{Unit as PageUnit}
use Rattle.mt_scan.specs.declared.unit.Unit.TheVariants.{Scan, Gap}
use Rattle.mt_scan.specs.declared.unit.PageProgress.{PageProgress}
use Rattle.mt_scan.specs.declared.unit.PageProgress.TheVariants as page
use Rattle.mt_scan.specs.Units.{IsSameFilter, entry_of, Delivers}
use Rattle.mt_scan.specs.Pages as pages
use Rattle.mt_scan.specs.PageSteps.{contents_on, DoesUnit, Does, PageStep}
use Rattle.mt_scan.proofs.NeedLaws.{same_replies}
use Rattle.mt_scan.proofs.StepLaw.{scan_law}
use Rattle.mt_world.specs.Moves.{Move, PageMoves, page_move, actor_facts, retired_where}
use Rattle.mt_world.specs.Logs.{faults_after}
use Rattle.mt_world.proofs.EntryLaws.{EntryDoes, SaysOf}

-- the rows that come are determined by those before and after
pub same_more : (xs ys zs : List Entity) → xs ++ ys ≡ xs ++ zs → ys ≡ zs
same_more [] ys zs h = h
same_more (x ∷ xs) ys zs h = (let tails : xs ++ ys ≡ xs ++ zs = cc in same_more xs ys zs tails)

-- the entry of a unit says what is true, and is answered the unit's rows
unit_says : (kept filter : Option Filter) (unit : PageUnit) (rows : List Entity) (p q : Pair) → q ≡ p → IsSameFilter kept filter → Delivers filter unit (logical_table p) rows
    → SaysOf (entry_of kept unit) p q × Replies (entry_of kept unit) (logical_table p) (told.Rows rows)
unit_says kept filter (Scan pk from upto) rows p q same equal d = ((λ key. ap (λ x. logical_table x key) same), same_replies filter kept (Scan pk from upto) (logical_table p) rows (sym equal) d.1)
unit_says kept filter (Gap from to) rows p q same equal d = (((λ key. ap (λ x. logical_table x key) same), d.0), same_replies filter kept (Gap from to) (logical_table p) rows (sym equal) d.1)

unit_does : (call to : pages.Page) (unit : PageUnit) (kept : Option Filter) (rows : List Entity) (p q : Pair) → q ≡ p → IsSameFilter kept call.filter → to.rows ≡ call.rows ++ rows → DoesUnit call unit to p
    → SaysOf (entry_of kept unit) p q × Replies (entry_of kept unit) (logical_table p) (told.Rows rows)
unit_does call to unit kept rows p q same equal added does =
    let found = does.1 in
    let is : found.0 ≡ rows = same_more call.rows found.0 rows (sym (ap (λ (x : pages.Page). x.rows) found.2) ∙ added) in
    unit_says kept call.filter unit rows p q same equal (subst (λ es. Delivers call.filter unit (logical_table p) es) is found.1)

page_does : (call to : pages.Page) (said : PageProgress) (kept : Option Filter) (rows : List Entity) (p q : Pair) → IsSameFilter kept call.filter → to.rows ≡ call.rows ++ rows → Does call said to p q → EntryDoes (page_move to kept rows said).entry p q
page_does call to page.More kept rows p q equal added does = λ key. ap (λ x. logical_table x key) does.0
page_does call to (page.Unit unit) kept rows p q equal added does = unit_does call to unit kept rows p q does.0 equal added does.1
page_does call to (page.Last unit) kept rows p q equal added does = unit_does call to unit kept rows p q does.0 equal added does.1

page_knows : (said : PageProgress) (to : pages.Page) (kept : Option Filter) (rows : List Entity) (q : Pair) (retired : Bool) → AllHold q retired (pages.page_facts to) → AllHold q retired (actor_facts (page_move to kept rows said).after)
page_knows page.More to kept rows q retired knows = knows
page_knows (page.Unit unit) to kept rows q retired knows = knows
page_knows (page.Last unit) to kept rows q retired knows = tt

page_apart : (said : PageProgress) (to : pages.Page) (kept : Option Filter) (rows : List Entity) (f : Fact) → ApartFrom f (pages.page_facts to) → ApartFrom f (actor_facts (page_move to kept rows said).after)
page_apart page.More to kept rows f apart = apart
page_apart (page.Unit unit) to kept rows f apart = apart
page_apart (page.Last unit) to kept rows f apart = tt

pub page_step : (call : pages.Page) (ask : StoreAsk) (answer : StoreReply) (move : Move) (p q : Pair) (retired : Bool) → FitsAsk ask.ask answer → IsContents (contents_on ask.side q) → pages.IsPage call × (pages.is_over call ≡ false)
    → ask ≡ pages.asks call → PairMeans ask answer p q → PageMoves call answer move → IsSound p → AllHold p retired (pages.page_facts call)
    → ActorStep (pages.page_facts call) (actor_facts move.after) retired retired (EntryDoes move.entry) p q
page_step call ask answer move p q retired fit rises fits asks means moves sound knows = subst (λ (m : Move). ActorStep (pages.page_facts call) (actor_facts m.after) retired retired (EntryDoes m.entry) p q) (sym moves.is) by where
  s : PageStep call moves.to retired moves.said p q
  s = scan_law call moves.to ask answer moves.said p q retired fits.0 fits.1 sound rises knows asks fit means moves.absorbs

  by : ActorStep (pages.page_facts call) (actor_facts (page_move moves.to moves.filter moves.rows moves.said).after) retired retired (EntryDoes (page_move moves.to moves.filter moves.rows moves.said).entry) p q
  by = record {
    sound = s.sound;
    grows = s.grows;
    knows = page_knows moves.said moves.to moves.filter moves.rows q retired s.knows;
    apart = λ f holds apart. page_apart moves.said moves.to moves.filter moves.rows f (s.apart f holds apart);
    stays = s.stays;
    retires = s.retires;
    does = page_does call moves.to moves.said moves.filter moves.rows p q moves.equal moves.added s.does;
  }

-- a unit leaves no entry of a fault
pub page_no_fault : (to : pages.Page) (kept : Option Filter) (rows : List Entity) (said : PageProgress) (count : ℕ) → faults_after (page_move to kept rows said).entry count ≡ count
page_no_fault to kept rows page.More count = refl
page_no_fault to kept rows (page.Unit (Scan pk from upto)) count = refl
page_no_fault to kept rows (page.Unit (Gap from next)) count = refl
page_no_fault to kept rows (page.Last (Scan pk from upto)) count = refl
page_no_fault to kept rows (page.Last (Gap from next)) count = refl

-- and retires no world
pub page_not_retired : (to : pages.Page) (kept : Option Filter) (rows : List Entity) (said : PageProgress) (retired : Bool) → retired_where (Ok (page_move to kept rows said).progress) retired ≡ retired
page_not_retired to kept rows page.More retired = refl
page_not_retired to kept rows (page.Unit unit) retired = refl
page_not_retired to kept rows (page.Last unit) retired = refl
