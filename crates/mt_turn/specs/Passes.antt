-- What clauses say of a pass and its turnstile.
use Rattle.std.specs.Prelude.{◌≡◌}
use Rattle.mt_turn.specs.declared.view.View.{View}
use Rattle.mt_turn.specs.declared.pass.Pass.{Pass}
use Rattle.mt_turn.specs.declared.turnstile.Turnstile.{Turnstile}

module _ {W E B X F : Type 0} where
  -- what the pass knows
  abbrev pub known : Pass W E B X F → View W E B X F
  known p = p.seat.me.0

  -- the pass is of this turnstile
  abbrev pub IsOf : Pass W E B X F → Turnstile W E B X F → Type 0
  IsOf p t = p.seat.table_id ≡ t.table.shared.table_id

  -- two passes of one turnstile
  abbrev pub OfOne : Pass W E B X F → Pass W E B X F → Type 0
  OfOne p q = q.seat.table_id ≡ p.seat.table_id
