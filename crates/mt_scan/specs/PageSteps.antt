-- What a step of a page does to a sound pair of stores.
use Rattle.std.specs.Prelude.{◌≡◌, ℕ, ◌<◌, Bool, List}
use Rattle.mt_model.specs.declared.entity.Entity.{Entity}
use Rattle.mt_chain.specs.declared.ask.Side.{Side}
use Rattle.mt_chain.specs.declared.ask.Side.TheVariants.{Old, New}
use Rattle.mt_chain.specs.StoreCall.{Contents}
use Rattle.mt_meta.specs.Logical.{Pair}
use Rattle.mt_meta.specs.Steps.{logical_table, ActorStep}
use Rattle.mt_scan.specs.declared.unit.Unit.{Unit as PageUnit}
use Rattle.mt_scan.specs.declared.unit.PageProgress.{PageProgress}
use Rattle.mt_scan.specs.declared.unit.PageProgress.TheVariants as said
use Rattle.mt_scan.specs.declared.saw.Half.{Half}
use Rattle.mt_scan.specs.declared.saw.Half.TheVariants.{First}
use Rattle.mt_scan.specs.Units.{IsNext, Delivers}
use Rattle.mt_scan.specs.Pages.{Page, with_half, after, page_facts}

-- what that one of two stores holds
abbrev pub contents_on : Side → Pair → Contents
contents_on Old p = p.old
contents_on New p = p.new

-- how many more calls a unit takes at most
abbrev pub calls_left : Half → ℕ
calls_left First = 2
calls_left half = 1

-- the unit comes next, its rows are the reply at the logical table, and the page goes on behind it with these rows
abbrev pub DoesUnit : Page → PageUnit → Page → Pair → Type 0
DoesUnit page unit to p = IsNext page.place unit × ((rows : List Entity) × Delivers page.filter unit (logical_table p) rows × (to ≡ after page unit rows))

-- nothing changes in the stores. A page goes on with the unit, of which then fewer calls are left, or the unit is done
abbrev pub Does : Page → PageProgress → Page → Pair → Pair → Type 0
Does page said.More to p q = (q ≡ p) × ((half : Half) × (to ≡ with_half page half) × (calls_left half < calls_left page.half))
Does page (said.Unit unit) to p q = (q ≡ p) × DoesUnit page unit to p
Does page (said.Last unit) to p q = (q ≡ p) × DoesUnit page unit to p

-- a step of a page: a step of an actor that knows what the page knows
abbrev pub PageStep : Page → Page → Bool → PageProgress → Pair → Pair → Type 0
PageStep page to retired answer p q = ActorStep (page_facts page) (page_facts to) retired retired (Does page answer to) p q
