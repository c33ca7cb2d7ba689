-- What an actor knows while another takes its turns.
use Rattle.std.proofs.Common.{◌≡◌, ℕ, true, refl, sym, subst, Result}
use Rattle.mt_world.specs.declared.actor.Actor.{Actor}
use Rattle.mt_world.specs.declared.actor.Actor.TheVariants.{Client, Migrator, Cleaner}
use Rattle.mt_world.specs.declared.actor.Progress.{Progress}
use Rattle.mt_world.specs.declared.actor.TurnFault.{TurnFault}
use Rattle.mt_world.specs.Worlds.{WorldState}
use Rattle.mt_world.specs.Turns.{Knows, Turned}
use Rattle.mt_world.specs.WholeCalls.{is_client}
use Rattle.mt_world.proofs.BesideLaws as beside

-- what another knows stays true when a client takes a turn
pub known_beside : (w w' : WorldState) (caller : ℕ) (a a' other : Actor) (r : Result Progress TurnFault) → is_client a ≡ true → Turned w caller a r w' a' → Knows w other → Knows w' other
known_beside w w' caller (Client call) a' other r client t knows = beside.known_beside w w' caller call a' other r t knows
known_beside w w' caller (Migrator state) a' other r client t knows = absurd cc
known_beside w w' caller (Cleaner state) a' other r client t knows = absurd cc

-- who is still a client then
pub client_on : (w w' : WorldState) (caller : ℕ) (a a' : Actor) (r : Result Progress TurnFault) → is_client a ≡ true → Turned w caller a r w' a' → is_client a' ≡ true
client_on w w' caller (Client call) a' r client t = (let left = beside.client_stays w w' caller call a' r t in subst (λ x. is_client x ≡ true) (sym left.1) refl)
client_on w w' caller (Migrator state) a' r client t = absurd cc
client_on w w' caller (Cleaner state) a' r client t = absurd cc
