-- What the rules of a sound pair come to.
use Rattle.std.specs.Prelude.{◌↔◌}
use Rattle.mt_meta.specs.Logical.{Pair}
use Rattle.mt_meta.specs.Sound.{IsSound}
use Rattle.mt_open.specs.Damage.{Place, FailsAt}
use Rattle.mt_open.proofs.SoundLaws.{sound_holds, sound_from}

-- two stores are a sound pair exactly where they fail no rule at any place
pub sound_fails_nowhere : (p : Pair) → IsSound p ↔ ((at : Place) → ¬ FailsAt p at)
sound_fails_nowhere p = (sound_holds p, sound_from p)
