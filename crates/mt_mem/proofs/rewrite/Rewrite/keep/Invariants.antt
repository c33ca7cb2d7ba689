use Rattle.std.proofs.Common.{◌≡◌, ◌++◌, take, drop}
use Rattle.mt_mem.proofs.rewrite.Rewrite.keep.Given as goal

abbrev pub invariant-loop : goal.invariant-loop
invariant-loop l = record {
  written : l.self.written ≡ l.fn.self.written ++ take l.counter l.fn.self.left;
  left : l.self.left ≡ drop l.counter l.fn.self.left;
  spare : l.self.spare ≡ l.fn.self.spare;
}
