-- What a page makes of a reply, and the entries of its units.
use Rattle.std.proofs.Common.{◌≡◌, ◌∙◌, ℕ, ◌-◌, ◌≤◌, true, List, [], ◌∷◌, ◌++◌, refl, sym, ap, subst, append-nil, Option, Some, None, Ok, Err}
use Rattle.mt_model.specs.declared.entity.Entity.{Entity}
use Rattle.mt_filter.specs.declared.filter.Filter.{Filter}
use Rattle.mt_match.specs.declared.bounds.Bounds.{Bounds}
use Rattle.mt_chain.specs.declared.ask.StoreReply.{StoreReply}
use Rattle.mt_chain.specs.declared.ask.StoreReply.TheVariants as reply
use Rattle.mt_chain.specs.Asks.{FitsAsk}
use Rattle.mt_history.specs.declared.entry.What.{What}
use Rattle.mt_history.specs.declared.model.Reply.TheVariants as told
use Rattle.mt_history.specs.Kept.{Kept, has_room}
use Rattle.mt_history.specs.Weight.{weight, need_of_page}
use Rattle.mt_scan.specs.declared.unit.Unit.{Unit as PageUnit}
use Rattle.mt_scan.specs.declared.unit.Place.{Place}
use Rattle.mt_scan.specs.declared.unit.Place.TheVariants as at
use Rattle.mt_scan.specs.declared.unit.Page.{Page as WholePage}
use Rattle.mt_scan.specs.declared.unit.PageProgress.TheVariants as page
use Rattle.mt_scan.specs.declared.saw.Half.{Half}
use Rattle.mt_scan.specs.declared.saw.Half.TheVariants.{First}
use Rattle.mt_scan.specs.Units.{IsSameFilter, IsEntryOf, token_of}
use Rattle.mt_scan.specs.Pages.{Page, Lead, again, on, chunk, gap, lead_of, with_half, after, side_of, asks_at, asks, Makes, Goes, Absorbs, IsPage}
use Rattle.mt_scan.proofs.NeedLaws.{unit_light, same_weight}
use Rattle.mt_world.specs.declared.actor.ClientCall.TheVariants as client
use Rattle.mt_world.specs.declared.actor.Actor.TheVariants.{Client}
use Rattle.mt_world.specs.declared.actor.Answer.TheVariants as answer
use Rattle.mt_world.specs.declared.actor.Progress.TheVariants.{More, Done}
use Rattle.mt_world.specs.declared.actor.TurnFault.TheVariants.{NoMemory}
use Rattle.mt_world.specs.Worlds.{next_number, entry_of as entry_with}
use Rattle.mt_world.specs.Logs.{Log, number_of_next, faults_with}
use Rattle.mt_world.specs.Moves.{NewEntry}
use Rattle.mt_world.specs.Steps.{Answered}
use Rattle.mt_world.specs.Turns.{MayBeLost}
use Rattle.mt_world.proofs.StageLaws.{room_for_less, adds_one, adds_none, reserves_self, forgotten}

-- ---- how a page goes on

goes_same : (call to : Page) (lead : Lead) → Goes call lead to → (half : Half) × (to ≡ with_half call half)
goes_same call to again h = (First, h)
goes_same call to (on half) h = (half, h)
goes_same call to (chunk phase old new) h = absurd h
goes_same call to (gap next) h = absurd h

-- within a unit it is the same page, but for what the unit's first call showed
pub same_unit : (call to : Page) (r : StoreReply) → Absorbs call r (Ok page.More) to → (half : Half) × (to ≡ with_half call half)
same_unit call to r h = goes_same call to (lead_of call.place call.half r) h

pub page_goes_on : (call to : Page) (r : StoreReply) (l : Log) (caller : ℕ) → Absorbs call r (Ok page.More) to → Answered (Client (client.Page call)) r l caller (Ok More) l (Client (client.Page to))
page_goes_on call to r l caller moves = record {
  entry = None;
  goes = record { said = page.More; to = to; rows = []; filter = call.filter; absorbs = moves; added = ap (λ (x : Page). x.rows) (same_unit call to r moves).1 ∙ sym (append-nil call.rows); equal = refl; is = refl };
  adds = adds_none l l caller (reserves_self l);
}

-- ---- want of memory

lost_at : (bounds : Bounds) (place : Place) (half : Half) (r : StoreReply) → FitsAsk (asks_at bounds place (side_of half)).ask r → MayBeLost (Ok r)
lost_at bounds place half (reply.Found found) h = tt
lost_at bounds place half (reply.Next next) h = tt
lost_at bounds (at.Rows pk row) half (reply.Applied tags) h = absurd h
lost_at bounds (at.Rows pk row) half (reply.Unmet index) h = absurd h
lost_at bounds (at.Rows pk row) half reply.SealedOff h = absurd h
lost_at bounds (at.Rows pk row) half reply.SealDone h = absurd h
lost_at bounds (at.Parts from) half (reply.Applied tags) h = absurd h
lost_at bounds (at.Parts from) half (reply.Unmet index) h = absurd h
lost_at bounds (at.Parts from) half reply.SealedOff h = absurd h
lost_at bounds (at.Parts from) half reply.SealDone h = absurd h
lost_at bounds at.End half (reply.Applied tags) h = absurd h
lost_at bounds at.End half (reply.Unmet index) h = absurd h
lost_at bounds at.End half reply.SealedOff h = absurd h
lost_at bounds at.End half reply.SealDone h = absurd h

-- a page makes reads alone, whose answers may be lost
pub page_forgets : (call : Page) (r : StoreReply) (l : Log) (caller : ℕ) → FitsAsk (asks call).ask r → Answered (Client (client.Page call)) r l caller (Err NoMemory) l (Client client.Ended)
page_forgets call r l caller fit = forgotten (Client (client.Page call)) (Client client.Ended) r l caller (lost_at call.bounds call.place call.half r fit) refl

-- ---- the entry of a unit

-- what a page is behind a unit that is done
pub record IsDone (call to : Page) (r : StoreReply) (unit : PageUnit) : Type 0 where
  pub rows : List Entity
  pub makes : Makes call (lead_of call.place call.half r) unit rows
  pub is : to ≡ after call unit rows

pub unit_done : (call to : Page) (r : StoreReply) (unit : PageUnit) → Absorbs call r (Ok (page.Unit unit)) to → IsDone call to r unit
unit_done call to r unit h = record { rows = h.0; makes = h.1; is = h.2 }

pub last_done : (call to : Page) (r : StoreReply) (unit : PageUnit) → Absorbs call r (Ok (page.Last unit)) to → IsDone call to r unit
last_done call to r unit h = record { rows = h.0; makes = h.1; is = h.2 }

-- the filter of the entry is equal to the call's
kept_equal : (call to : Page) (r : StoreReply) (unit : PageUnit) (kept : Option Filter) → IsDone call to r unit → IsSameFilter kept to.filter → IsSameFilter kept call.filter
kept_equal call to r unit kept done equal = subst (λ (x : Page). IsSameFilter kept x.filter) done.is equal

-- there is room for the entry
pub entry_light : (call to : Page) (r : StoreReply) (unit : PageUnit) (said : What) (h : Kept) → IsPage call → FitsAsk (asks call).ask r → IsDone call to r unit → IsEntryOf unit to.filter said → has_room h (need_of_page call.filter) ≡ true → has_room h (weight said) ≡ true
entry_light call to r unit said h fits fit done entry room =
    let light : weight said ≤ need_of_page call.filter
    = subst (λ n. n ≤ need_of_page call.filter) (sym (ap weight entry.2 ∙ same_weight entry.0 call.filter unit (kept_equal call to r unit entry.0 done entry.1))) (unit_light call fits r fit unit done.rows done.makes) in
    room_for_less h (need_of_page call.filter) (weight said) light room

-- ---- answers

module _ (call to : Page) (r : StoreReply) (l l' : Log) (caller : ℕ) (unit : PageUnit) (said : What) (entry : IsEntryOf unit to.filter said)
    (history : l'.history ≡ record l.history { entries = l.history.entries ++ entry_with l.numbers caller said ∷ []; spare = l.history.spare - 1 })
    (numbers : (other : ℕ) → next_number l'.numbers other ≡ number_of_next l.numbers caller other) (faults : l'.fault_entries ≡ faults_with said l.fault_entries) where
  pub unit_answered : Absorbs call r (Ok (page.Unit unit)) to → Answered (Client (client.Page call)) r l caller (Ok More) l' (Client (client.Page to))
  unit_answered moves = record {
    entry = Some e;
    goes = record {
      said = page.Unit unit;
      to = to;
      rows = done.rows;
      filter = entry.0;
      absorbs = moves;
      added = ap (λ (x : Page). x.rows) done.is;
      equal = kept_equal call to r unit entry.0 done entry.1;
      is = λ i. record { progress = More; entry = Some (record { what = entry.2 i; reply = told.Rows done.rows }); after = Client (client.Page to) };
    };
    adds = adds_one l l' caller e history numbers faults;
  } where
    done : IsDone call to r unit
    done = unit_done call to r unit moves

    e : NewEntry
    e = record { what = said; reply = told.Rows done.rows }

  pub last_answered : (whole : WholePage) → whole.rows ≡ to.rows → whole.token ≡ token_of to.place → Absorbs call r (Ok (page.Last unit)) to → Answered (Client (client.Page call)) r l caller (Ok (Done (answer.Page whole))) l' (Client client.Ended)
  last_answered whole rows token moves = record {
    entry = Some e;
    goes = record {
      said = page.Last unit;
      to = to;
      rows = done.rows;
      filter = entry.0;
      absorbs = moves;
      added = ap (λ (x : Page). x.rows) done.is;
      equal = kept_equal call to r unit entry.0 done entry.1;
      is = λ i. record { progress = Done (answer.Page (record { rows = rows i; token = token i })); entry = Some (record { what = entry.2 i; reply = told.Rows done.rows }); after = Client client.Ended };
    };
    adds = adds_one l l' caller e history numbers faults;
  } where
    done : IsDone call to r unit
    done = last_done call to r unit moves

    e : NewEntry
    e = record { what = said; reply = told.Rows done.rows }
