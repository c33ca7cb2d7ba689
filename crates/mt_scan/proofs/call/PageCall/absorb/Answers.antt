use Rattle.std.proofs.Common.{◌≤◌, ℕ, ◌+◌, ◌-◌, length, ap, sym, subst}
use Rattle.mt_chain.specs.Asks.{FitsAsk}
use Rattle.mt_scan.specs.declared.unit.PageProgress.{PageProgress}
use Rattle.mt_scan.specs.declared.saw.Half.TheVariants.{First}
use Rattle.mt_scan.specs.declared.call.Seen.{Seen}
use Rattle.mt_scan.specs.declared.call.Seen.TheVariants as came
use Rattle.mt_scan.specs.Pages.{Page, place_in, asks, lead_of, Goes, Comes, Sees, IsPage}
use Rattle.mt_scan.proofs.FitLaws.{on_fits, done_fits, few_rows}
use Rattle.mt_scan.proofs.MoveLaws.{again_moves, on_moves, done_of, after_is, done_moves}
use Rattle.mt_scan.proofs.call.PageCall.absorb.Goals as goal

pub invariant_of-self-in-On : goal.invariant_of-self-in-On
invariant_of-self-in-On c =
    let page : Page = (record { filter = c.self.inside.filter; bounds = c.self.inside.bounds; room = c.self.inside.room; rows = c.self.inside.rows.items; units = c.self.inside.units; place = place_in c.self.inside.bounds c.self.inside.place; half = c.self.inside.half }) in
    on_fits page c.self.invariant c.args.reply (subst (λ (p : Page). FitsAsk (asks p).ask c.args.reply) (sym c.self.view_is) c.requires.fits) c.in-On.half
    (subst (λ (p : Page). Sees p (lead_of p.place p.half c.args.reply) (came.On c.in-On.half)) (sym c.self.view_is)
    (subst (λ (s : Seen). Sees c.args.self.now (lead_of c.args.self.now.place c.args.self.now.half c.args.reply) s) c.in-On.is c.in_ok-see.ensures))

pub overflow_sub-room : goal.overflow_sub-room
overflow_sub-room c =
    let page : Page = (record { filter = c.self.inside.filter; bounds = c.self.inside.bounds; room = c.self.inside.room; rows = c.self.inside.rows.items; units = c.self.inside.units; place = place_in c.self.inside.bounds c.self.inside.place; half = c.self.inside.half }) in
    let made = done_of page (lead_of page.place page.half c.args.reply) c.in-Done.unit c.in-Done.rows c.in-Done.place
    (subst (λ (p : Page). Sees p (lead_of p.place p.half c.args.reply) (came.Done c.in-Done.unit c.in-Done.rows c.in-Done.place)) (sym c.self.view_is)
    (subst (λ (s : Seen). Sees c.args.self.now (lead_of c.args.self.now.place c.args.self.now.half c.args.reply) s) c.in-Done.is c.in_ok-see.ensures)) in
    subst (λ (n : ℕ). n ≤ page.room) (sym (ap length c.as_slice.ensures.value)) (few_rows page (lead_of page.place page.half c.args.reply) c.in-Done.unit c.in-Done.rows.items made.0)

pub invariant_of-self-in-Done : goal.invariant_of-self-in-Done
invariant_of-self-in-Done c =
    let page : Page = (record { filter = c.self.inside.filter; bounds = c.self.inside.bounds; room = c.self.inside.room; rows = c.self.inside.rows.items; units = c.self.inside.units; place = place_in c.self.inside.bounds c.self.inside.place; half = c.self.inside.half }) in
    let made = done_of page (lead_of page.place page.half c.args.reply) c.in-Done.unit c.in-Done.rows c.in-Done.place
    (subst (λ (p : Page). Sees p (lead_of p.place p.half c.args.reply) (came.Done c.in-Done.unit c.in-Done.rows c.in-Done.place)) (sym c.self.view_is)
    (subst (λ (s : Seen). Sees c.args.self.now (lead_of c.args.self.now.place c.args.self.now.half c.args.reply) s) c.in-Done.is c.in_ok-see.ensures)) in
    subst IsPage (sym (after_is page c.in-Done.unit c.in-Done.rows.items _ _ c.in-Done.place (ap length c.as_slice.ensures.value) c.in_ok-append-in-Done.ensures.items made.1))
    (done_fits page c.self.invariant c.args.reply (subst (λ (p : Page). FitsAsk (asks p).ask c.args.reply) (sym c.self.view_is) c.requires.fits) c.in-Done.unit c.in-Done.rows.items made.0)

pub returns-in-Again : goal.returns-in-Again
returns-in-Again c =
    subst (λ (p : Page). Goes p (lead_of p.place p.half c.args.reply) (record { filter = c.self.inside.filter; bounds = c.self.inside.bounds; room = c.self.inside.room; rows = c.self.inside.rows.items; units = c.self.inside.units; place = place_in c.self.inside.bounds c.self.inside.place; half = First })) c.self.view_is
    (again_moves (record { filter = c.self.inside.filter; bounds = c.self.inside.bounds; room = c.self.inside.room; rows = c.self.inside.rows.items; units = c.self.inside.units; place = place_in c.self.inside.bounds c.self.inside.place; half = c.self.inside.half }) (lead_of _ _ c.args.reply) c.in_ok-see.field-0 c.in-Again.is (subst (λ (p : Page). Sees p (lead_of p.place p.half c.args.reply) c.in_ok-see.field-0) (sym c.self.view_is) c.in_ok-see.ensures))

pub returns-in-On : goal.returns-in-On
returns-in-On c =
    subst (λ (p : Page). Goes p (lead_of p.place p.half c.args.reply) (record { filter = c.self.inside.filter; bounds = c.self.inside.bounds; room = c.self.inside.room; rows = c.self.inside.rows.items; units = c.self.inside.units; place = place_in c.self.inside.bounds c.self.inside.place; half = c.in-On.half })) c.self.view_is
    (on_moves (record { filter = c.self.inside.filter; bounds = c.self.inside.bounds; room = c.self.inside.room; rows = c.self.inside.rows.items; units = c.self.inside.units; place = place_in c.self.inside.bounds c.self.inside.place; half = c.self.inside.half }) (lead_of _ _ c.args.reply) c.in-On.half (subst (λ (p : Page). Sees p (lead_of p.place p.half c.args.reply) (came.On c.in-On.half)) (sym c.self.view_is)
    (subst (λ (s : Seen). Sees c.args.self.now (lead_of c.args.self.now.place c.args.self.now.half c.args.reply) s) c.in-On.is c.in_ok-see.ensures)))

pub returns-in_ok-append-in-Done : goal.returns-in_ok-append-in-Done
returns-in_ok-append-in-Done c =
    let page : Page = (record { filter = c.self.inside.filter; bounds = c.self.inside.bounds; room = c.self.inside.room; rows = c.self.inside.rows.items; units = c.self.inside.units; place = place_in c.self.inside.bounds c.self.inside.place; half = c.self.inside.half }) in
    let to : Page = (record { filter = c.self.inside.filter; bounds = c.self.inside.bounds; room = c.self.inside.room - length c.as_slice.result.now; rows = c.append.new.self.items; units = c.self.inside.units + 1; place = c.in-Done.place; half = First }) in
    let made = done_of page (lead_of page.place page.half c.args.reply) c.in-Done.unit c.in-Done.rows c.in-Done.place
    (subst (λ (p : Page). Sees p (lead_of p.place p.half c.args.reply) (came.Done c.in-Done.unit c.in-Done.rows c.in-Done.place)) (sym c.self.view_is)
    (subst (λ (s : Seen). Sees c.args.self.now (lead_of c.args.self.now.place c.args.self.now.half c.args.reply) s) c.in-Done.is c.in_ok-see.ensures)) in
    subst (λ (p : Page). Comes p (lead_of p.place p.half c.args.reply) c.told.result to) c.self.view_is
    (subst (λ (said : PageProgress). Comes page (lead_of page.place page.half c.args.reply) said to) (sym c.told.ensures)
    (done_moves page to (lead_of page.place page.half c.args.reply) c.in-Done.unit c.in-Done.rows.items c.is_over_at-over.result made.0
    (after_is page c.in-Done.unit c.in-Done.rows.items _ _ c.in-Done.place (ap length c.as_slice.ensures.value) c.in_ok-append-in-Done.ensures.items made.1) c.is_over_at-over.ensures))
