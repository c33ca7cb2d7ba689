use Rattle.std.proofs.Common.{ap, subst, IfOk, ◌∙◌}
use Rattle.mt_chain.specs.declared.ask.StoreReply.TheVariants as reply
use Rattle.mt_scan.specs.declared.call.Seen.TheVariants as came
use Rattle.mt_scan.specs.Pages.{Page, place_in, lead_of, Sees}
use Rattle.mt_scan.proofs.CallLaws.{found_on, found_done, ok_each}
use Rattle.mt_scan.proofs.call.PageCall.see_found.Goals as goal

pub returns-in-On : goal.returns-in-On
returns-in-On c = subst (λ (page : Page). Sees page (lead_of page.place page.half (reply.Found c.args.found)) (came.On c.in-On.half)) c.self.view_is
    (found_on (record { filter = c.self.inside.filter; bounds = c.self.inside.bounds; room = c.self.inside.room; rows = c.self.inside.rows.items; units = c.self.inside.units; place = place_in c.self.inside.bounds c.self.inside.place; half = c.self.inside.half }) c.in-Rows.pk c.in-Rows.row c.args.found c.in_ok-see_rows.field-0 c.in-On.half (ap (place_in c.self.inside.bounds) c.in-Some.is ∙ c.in-Rows.is) c.in-On.is c.in_ok-see_rows.ensures)

pub returns-in-Made : goal.returns-in-Made
returns-in-Made c = subst (λ (page : Page). IfOk c.scan_done.result (Sees page (lead_of page.place page.half (reply.Found c.args.found)))) c.self.view_is
    (ok_each c.scan_done.result _ _ (λ seen. found_done (record { filter = c.self.inside.filter; bounds = c.self.inside.bounds; room = c.self.inside.room; rows = c.self.inside.rows.items; units = c.self.inside.units; place = place_in c.self.inside.bounds c.self.inside.place; half = c.self.inside.half }) c.in-Rows.pk c.in-Rows.row c.args.found c.in_ok-see_rows.field-0 c.in-Made.chunk seen (ap (place_in c.self.inside.bounds) c.in-Some.is ∙ c.in-Rows.is) c.in-Made.is c.in_ok-see_rows.ensures) c.scan_done.ensures)
