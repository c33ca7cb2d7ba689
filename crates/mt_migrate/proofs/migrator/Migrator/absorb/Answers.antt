use Rattle.std.proofs.Common.{sym, subst, ap, ◌∙◌}
use Rattle.mt_migrate.specs.Moves.{MigratorFits, moved}
use Rattle.mt_migrate.specs.declared.state.State.{State}
use Rattle.mt_migrate.proofs.FitLaws.{moved_fits}
use Rattle.mt_migrate.proofs.migrator.Migrator.absorb.Goals as goal

pub invariant_of-self : goal.invariant_of-self
invariant_of-self c =
    let h = c.requires.fits in
    subst MigratorFits (sym (c.moved.ensures ∙ ap (λ (s : State). moved s c.args.reply) (c.replace-state.ensures.value ∙ c.self.view_is)))
    (moved_fits c.args.self.now c.args.reply h.0 (subst MigratorFits c.self.view_is c.self.invariant) h.1 h.2)
