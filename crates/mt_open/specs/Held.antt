-- A store that was read whole.
use Rattle.std.specs.Prelude.{ℕ}
use Rattle.mt_chain.specs.StoreCall.{Contents}

-- the number of a store, and what it holds
pub record Held : Type 0 where
  pub number : ℕ
  pub contents : Contents
