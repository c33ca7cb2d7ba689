use Rattle.std.proofs.Common.{ap, sym, subst, IfOk, ◌∙◌}
use Rattle.mt_chain.specs.declared.ask.StoreReply.TheVariants as reply
use Rattle.mt_scan.specs.declared.call.Seen.TheVariants as came
use Rattle.mt_scan.specs.Pages.{Page, gap_from, place_in, lead_of, Sees}
use Rattle.mt_scan.proofs.CallLaws.{gap_on, gap_done, ok_each}
use Rattle.mt_scan.proofs.call.PageCall.see_next.Goals as goal

pub returns-in-On : goal.returns-in-On
returns-in-On c = subst (λ (page : Page). Sees page (lead_of page.place page.half (reply.Next c.args.next)) (came.On c.in-On.half)) c.self.view_is
    (gap_on (record { filter = c.self.inside.filter; bounds = c.self.inside.bounds; room = c.self.inside.room; rows = c.self.inside.rows.items; units = c.self.inside.units; place = place_in c.self.inside.bounds c.self.inside.place; half = c.self.inside.half }) c.in-Some.from c.args.next c.in_ok-see_next.field-0 c.in-On.half (ap (λ (page : Page). gap_from page.place) c.self.view_is ∙ sym c.in_ok-from.ensures ∙ c.in-Some.is) c.in-On.is c.in_ok-see_next.ensures)

pub returns-in-Next : goal.returns-in-Next
returns-in-Next c = subst (λ (page : Page). IfOk c.gap_done.result (Sees page (lead_of page.place page.half (reply.Next c.args.next)))) c.self.view_is
    (ok_each c.gap_done.result _ _ (λ seen. gap_done (record { filter = c.self.inside.filter; bounds = c.self.inside.bounds; room = c.self.inside.room; rows = c.self.inside.rows.items; units = c.self.inside.units; place = place_in c.self.inside.bounds c.self.inside.place; half = c.self.inside.half }) c.in-Some.from c.args.next c.in_ok-see_next.field-0 c.in-Next.to seen (ap (λ (page : Page). gap_from page.place) c.self.view_is ∙ sym c.in_ok-from.ensures ∙ c.in-Some.is) c.in-Next.is c.in_ok-see_next.ensures) c.gap_done.ensures)
