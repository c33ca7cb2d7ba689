use Rattle.mt_turn.proofs.turnstile.Turnstile.give.Given as goal

abbrev pub ghosts-give_knowing : goal.ghosts-give_knowing
ghosts-give_knowing g a = record { facts = g.A.Knowing.facts a._actor.now }
