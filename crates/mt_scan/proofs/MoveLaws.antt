-- How a page moves with what came of a reply.
use Rattle.std.proofs.Common.{◌≡◌, ℕ, ◌+◌, ◌-◌, Bool, true, false, List, ◌++◌, length, refl, sym, ap, subst, ◌∙◌, Vec, Global}
use Rattle.mt_model.specs.declared.entity.Entity.{Entity}
use Rattle.mt_scan.specs.declared.unit.Unit.{Unit as PageUnit}
use Rattle.mt_scan.specs.declared.unit.Place.{Place}
use Rattle.mt_scan.specs.declared.saw.Half.{Half}
use Rattle.mt_scan.specs.declared.saw.Half.TheVariants.{First}
use Rattle.mt_scan.specs.declared.call.Seen.{Seen}
use Rattle.mt_scan.specs.declared.call.Seen.TheVariants as came
use Rattle.mt_scan.specs.Units.{after_unit}
use Rattle.mt_scan.specs.Pages.{Page, is_over, Lead, again, on, chunk, gap, with_half, after, Makes, told, Goes, Comes, Sees}

pub again_moves : (page : Page) (lead : Lead) (seen : Seen) → seen ≡ came.Again → Sees page lead seen → Goes page lead (with_half page First)
again_moves page lead seen is h = by lead (subst (Sees page lead) is h) where
  by : (lead : Lead) → Sees page lead came.Again → Goes page lead (with_half page First)
  by again h = refl
  by (on half) h = absurd h
  by (chunk phase old new) h = absurd h
  by (gap next) h = absurd h

pub on_moves : (page : Page) (lead : Lead) (half : Half) → Sees page lead (came.On half) → Goes page lead (with_half page half)
on_moves page again half h = absurd h
on_moves page (on there) half h = ap (with_half page) h
on_moves page (chunk phase old new) half h = absurd h
on_moves page (gap next) half h = absurd h

pub done_of : (page : Page) (lead : Lead) (unit : PageUnit) (rows : Vec Entity Global) (to : Place) → Sees page lead (came.Done unit rows to) → Makes page lead unit rows.items × (to ≡ after_unit page.bounds unit)
done_of page again unit rows to h = h
done_of page (on half) unit rows to h = h
done_of page (chunk phase old new) unit rows to h = h
done_of page (gap next) unit rows to h = h

pub after_is : (page : Page) (unit : PageUnit) (rows all : List Entity) (n : ℕ) (place : Place) → n ≡ length rows → all ≡ page.rows ++ rows → place ≡ after_unit page.bounds unit
    → record { filter = page.filter; bounds = page.bounds; room = page.room - n; rows = all; units = page.units + 1; place = place; half = First } ≡ after page unit rows
after_is page unit rows all n place many every there =
    ap (λ (m : ℕ). record { filter = page.filter; bounds = page.bounds; room = page.room - m; rows = all; units = page.units + 1; place = place; half = First }) many
    ∙ ap (λ (es : List Entity). record { filter = page.filter; bounds = page.bounds; room = page.room - length rows; rows = es; units = page.units + 1; place = place; half = First }) every
    ∙ ap (λ (p : Place). record { filter = page.filter; bounds = page.bounds; room = page.room - length rows; rows = page.rows ++ rows; units = page.units + 1; place = p; half = First }) there

pub done_moves : (page to : Page) (lead : Lead) (unit : PageUnit) (rows : List Entity) (over : Bool) → Makes page lead unit rows → to ≡ after page unit rows → over ≡ is_over to → Comes page lead (told over unit) to
done_moves page to lead unit rows true makes is over = (rows, makes, is, sym over)
done_moves page to lead unit rows false makes is over = (rows, makes, is, sym over)
