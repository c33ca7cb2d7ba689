use Rattle.std.proofs.Common.{◌≡◌, ℕ, ◌+◌, ◌-◌, ◌^◌, List, ◌++◌, length}
use Rattle.mt_http_in.specs.Filling.{Moving}
use Rattle.mt_http_in.proofs.chunks.read_bytes.Given as goal

abbrev pub invariant-pieces : goal.invariant-pieces
invariant-pieces g l = record {
  spent : List ℕ;
  grew : l.body ≡ l.fn.body ++ spent;
  size : length spent + l.missing ≡ l.n;
  moving : Moving l.n l.fn.reader (g.S.Source.input l.fn.source) spent l.reader (g.S.Source.input l.source);
}

abbrev pub decreases-pieces : goal.decreases-pieces
decreases-pieces g l = 2 ^ 32 - (g.S.Source.input l.source).calls
