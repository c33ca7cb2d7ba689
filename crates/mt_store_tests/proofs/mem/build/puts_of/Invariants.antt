use Rattle.std.proofs.Common.{◌≡◌, length, map, bytes_eq}
use Rattle.std.specs.List.{IsDistinct}
use Rattle.mt_chain.specs.Puts.{row_key}
use Rattle.mt_store_tests.proofs.mem.build.puts_of.Given as goal

abbrev pub invariant-loop-ask : goal.invariant-loop-ask
invariant-loop-ask l = record {
  apart : IsDistinct bytes_eq (map row_key l.puts.items);
  long : length l.puts.items ≡ l.ask-index;
}
