-- What a reply comes to in memory is where the page then is.
use Rattle.std.proofs.Common.{◌≡◌, ℕ, List, Option, Some, sym, ap, subst, ◌∙◌, IfOk, Result, Ok, Err}
use Rattle.mt_model.specs.declared.entity.Entity.{Entity}
use Rattle.mt_chain.specs.declared.query.Found.{Found}
use Rattle.mt_chain.specs.declared.query.Next.{Next}
use Rattle.mt_chain.specs.declared.query.PkFrom.{PkFrom}
use Rattle.mt_chain.specs.declared.ask.StoreReply.TheVariants as reply
use Rattle.mt_scan.specs.declared.unit.Place.{Place}
use Rattle.mt_scan.specs.declared.unit.Place.TheVariants as at
use Rattle.mt_scan.specs.declared.saw.Half.{Half}
use Rattle.mt_scan.specs.declared.saw.SeenRows.{SeenRows}
use Rattle.mt_scan.specs.declared.saw.SeenRows.TheVariants as rows
use Rattle.mt_scan.specs.declared.saw.SeenNext.{SeenNext}
use Rattle.mt_scan.specs.declared.saw.SeenNext.TheVariants as next
use Rattle.mt_scan.specs.declared.chunk.Chunk.{Chunk as Made}
use Rattle.mt_scan.specs.declared.call.Seen.{Seen}
use Rattle.mt_scan.specs.declared.call.Seen.TheVariants as came
use Rattle.mt_scan.specs.declared.unit.Unit.TheVariants.{Gap}
use Rattle.mt_scan.specs.Chunks.{is_fair, is_fair_next, IsChunk}
use Rattle.mt_scan.specs.Pages.{Page, gap_from, Lead, again, on, chunk, gap, read_lead, next_lead, lead_of, MakesAt, IsScanDone, IsGapDone, Sees, SeesRows, SeesNext}

-- ---- a read of rows

rows_on : (page : Page) (pk : List ℕ) (lead : Lead) (half : Half) → SeesRows pk page.filter page.room lead (rows.On half) → Sees page lead (came.On half)
rows_on page pk again half h = absurd h
rows_on page pk (on there) half h = h
rows_on page pk (chunk phase old new) half h = absurd h
rows_on page pk (gap to) half h = absurd h

rows_done : (page : Page) (pk : List ℕ) (row : Option (List ℕ)) (lead : Lead) (made : Made) (seen : Seen) → page.place ≡ at.Rows pk row → SeesRows pk page.filter page.room lead (rows.Made made) → IsScanDone page.bounds pk row made.rows.items made.upto seen → Sees page lead seen
rows_done page pk row again made seen there h done = absurd h
rows_done page pk row (on half) made seen there h done = absurd h
rows_done page pk row (gap to) made seen there h done = absurd h
rows_done page pk row (chunk phase old new) made came.Again there h done = absurd done
rows_done page pk row (chunk phase old new) made (came.On half) there h done = absurd done
rows_done page pk row (chunk phase old new) made (came.Done unit found to) there h done = (
  subst (λ (place : Place). MakesAt place page.filter page.room (chunk phase old new) unit found.items) (sym there)
      (made.upto, done.0, subst (λ (es : List Entity). IsChunk pk page.filter phase page.room old new (record { rows = es; upto = made.upto })) (sym done.1) h),
  done.2,
)

pub found_on : (page : Page) (pk : List ℕ) (row : Option (List ℕ)) (found : Found) (seen : SeenRows) (half : Half) → page.place ≡ at.Rows pk row → seen ≡ rows.On half → SeesRows pk page.filter page.room (read_lead (is_fair found) page.half found) seen
    → Sees page (lead_of page.place page.half (reply.Found found)) (came.On half)
found_on page pk row found seen half there is h = subst (λ (place : Place). Sees page (lead_of place page.half (reply.Found found)) (came.On half)) (sym there)
    (rows_on page pk (read_lead (is_fair found) page.half found) half (subst (SeesRows pk page.filter page.room (read_lead (is_fair found) page.half found)) is h))

pub found_done : (page : Page) (pk : List ℕ) (row : Option (List ℕ)) (found : Found) (read : SeenRows) (made : Made) (seen : Seen) → page.place ≡ at.Rows pk row → read ≡ rows.Made made → SeesRows pk page.filter page.room (read_lead (is_fair found) page.half found) read
    → IsScanDone page.bounds pk row made.rows.items made.upto seen → Sees page (lead_of page.place page.half (reply.Found found)) seen
found_done page pk row found read made seen there is h done = subst (λ (place : Place). Sees page (lead_of place page.half (reply.Found found)) seen) (sym there)
    (rows_done page pk row (read_lead (is_fair found) page.half found) made seen there (subst (SeesRows pk page.filter page.room (read_lead (is_fair found) page.half found)) is h) done)

-- ---- the next partition

parts_at : (place : Place) (from : PkFrom) → gap_from place ≡ Some from → place ≡ at.Parts from
parts_at (at.Rows pk row) from h = absurd (let x = h in cc)
parts_at (at.Parts start) from h = ap at.Parts (same start from h) where
  same : (a b : PkFrom) → Some a ≡ Some b → a ≡ b
  same a b e = cc
parts_at at.End from h = absurd (let x = h in cc)

next_on : (page : Page) (lead : Lead) (half : Half) → SeesNext lead (next.On half) → Sees page lead (came.On half)
next_on page again half h = absurd h
next_on page (on there) half h = h
next_on page (chunk phase old new) half h = absurd h
next_on page (gap to) half h = absurd h

next_done : (page : Page) (from : PkFrom) (lead : Lead) (to : Option (List ℕ)) (seen : Seen) → page.place ≡ at.Parts from → SeesNext lead (next.Next to) → IsGapDone page.bounds from to seen → Sees page lead seen
next_done page from again to seen there h done = absurd h
next_done page from (on half) to seen there h done = absurd h
next_done page from (chunk phase old new) to seen there h done = absurd h
next_done page from (gap wanted) to came.Again there h done = absurd done
next_done page from (gap wanted) to (came.On half) there h done = absurd done
next_done page from (gap wanted) to (came.Done unit found place) there h done = (
  subst (λ (p : Place). MakesAt p page.filter page.room (gap wanted) unit found.items) (sym there) (done.0 ∙ ap (Gap from) h, done.1),
  done.2,
)

pub gap_on : (page : Page) (from : PkFrom) (answer : Next) (seen : SeenNext) (half : Half) → gap_from page.place ≡ Some from → seen ≡ next.On half → SeesNext (next_lead (is_fair_next answer.pk) page.half answer) seen
    → Sees page (lead_of page.place page.half (reply.Next answer)) (came.On half)
gap_on page from answer seen half there is h = subst (λ (place : Place). Sees page (lead_of place page.half (reply.Next answer)) (came.On half)) (sym (parts_at page.place from there))
    (next_on page (next_lead (is_fair_next answer.pk) page.half answer) half (subst (SeesNext (next_lead (is_fair_next answer.pk) page.half answer)) is h))

pub gap_done : (page : Page) (from : PkFrom) (answer : Next) (read : SeenNext) (to : Option (List ℕ)) (seen : Seen) → gap_from page.place ≡ Some from → read ≡ next.Next to → SeesNext (next_lead (is_fair_next answer.pk) page.half answer) read
    → IsGapDone page.bounds from to seen → Sees page (lead_of page.place page.half (reply.Next answer)) seen
gap_done page from answer read to seen there is h done =
    let at_parts = parts_at page.place from there in
    subst (λ (place : Place). Sees page (lead_of place page.half (reply.Next answer)) seen) (sym at_parts)
    (next_done page from (next_lead (is_fair_next answer.pk) page.half answer) to seen at_parts (subst (SeesNext (next_lead (is_fair_next answer.pk) page.half answer)) is h) done)

pub ok_each : {T E : Type 0} (r : Result T E) (P Q : T → Type 0) → ((x : T) → P x → Q x) → IfOk r P → IfOk r Q
ok_each (Ok x) P Q f h = f x h
ok_each (Err e) P Q f h = h
