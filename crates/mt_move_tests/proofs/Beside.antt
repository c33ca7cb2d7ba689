-- What a machine still knows after turns.
use Rattle.std.proofs.Common.{◌≡◌, ℕ, false, refl, sym, subst}
use Rattle.mt_migrate.specs.Moves.{begin}
use Rattle.mt_world.specs.declared.actor.Actor.{Actor}
use Rattle.mt_world.specs.declared.actor.Actor.TheVariants.{Client, Migrator, Cleaner}
use Rattle.mt_world.specs.declared.actor.Stepped.{Stepped}
use Rattle.mt_world.specs.Worlds.{WorldState}
use Rattle.mt_world.specs.Moves.{actor_facts}
use Rattle.mt_world.specs.Turns.{Knows}
use Rattle.mt_world.specs.WholeCalls.{is_client, StaysOfKind, TakesSteps}
use Rattle.mt_world.proofs.BesideLaws.{all_stand, known_over_steps}

-- who is no client is none afterwards
pub machine_on : (a a' : Actor) → is_client a ≡ false → StaysOfKind a a' → is_client a' ≡ false
machine_on (Client call) a' none kind = absurd cc
machine_on (Migrator state) a' none kind = subst (λ x. is_client x ≡ false) (sym kind.1) refl
machine_on (Cleaner state) a' none kind = subst (λ x. is_client x ≡ false) (sym kind.1) refl

-- a new migrator knows nothing, so what another knows stays true when it takes turns
pub known_beside_a_new_one : (w w' : WorldState) (caller : ℕ) (a' other : Actor) (steps : ℕ) (s : Stepped) → TakesSteps w caller (Migrator begin) steps s w' a' → Knows w other → Knows w' other
known_beside_a_new_one w w' caller a' other steps s taken knows = known_over_steps w w' caller (Migrator begin) a' other steps s taken (all_stand w (actor_facts (Migrator begin)) (actor_facts other) tt knows)
