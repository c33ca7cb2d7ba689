use Rattle.std.proofs.Common.{◌≡◌, ◌∷◌, ◌++◌, length}
use Rattle.std.specs.Prelude.{string_bytes, IsUtf8}
use Rattle.mt_target.specs.Quoted.{doubled}
use Rattle.mt_target.proofs.quoted.read_quoted.Given as goal

abbrev pub invariant-quotes : goal.invariant-quotes
invariant-quotes l = record { at : l.bytes ≡ 39 ∷ (doubled (string_bytes l.text) ++ l.rest); utf8 : IsUtf8 l.rest }

abbrev pub decreases-quotes : goal.decreases-quotes
decreases-quotes l = length l.rest
