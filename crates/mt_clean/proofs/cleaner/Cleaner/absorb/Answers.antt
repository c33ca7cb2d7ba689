use Rattle.std.proofs.Common.{sym, subst, ap, ◌∙◌}
use Rattle.mt_clean.specs.Cleanings.{CleanerFits, lead, state_of}
use Rattle.mt_clean.specs.declared.state.State.{State}
use Rattle.mt_clean.proofs.FitLaws.{lead_fits}
use Rattle.mt_clean.proofs.cleaner.Cleaner.absorb.Goals as goal

pub invariant_of-self : goal.invariant_of-self
invariant_of-self c =
    let h = c.requires.fits in
    subst CleanerFits (ap state_of (sym (c.lead.ensures ∙ ap (λ (s : State). lead s c.args.reply) (c.replace-state.ensures.value ∙ c.self.view_is)) ∙ c.in-To.is))
    (lead_fits c.args.self.now c.args.reply h.0 (subst CleanerFits c.self.view_is c.self.invariant) h.1 h.2)
