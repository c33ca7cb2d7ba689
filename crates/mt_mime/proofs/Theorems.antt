-- A law of the grammar that no code needs.
use Rattle.std.proofs.Common.{◌≡◌, ℕ, List}
use Rattle.mt_mime.specs.Changes.{Batch, SpellsBatch}
use Rattle.mt_mime.proofs.ChangeLaws.{batch_unique}

-- a body of a boundary spells at most one batch
pub one_reading : (boundary body : List ℕ) (b d : Batch) → SpellsBatch boundary body b → SpellsBatch boundary body d → b ≡ d
one_reading = batch_unique
