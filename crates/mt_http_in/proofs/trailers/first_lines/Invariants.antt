use Rattle.std.proofs.Common.{◌≡◌, ◌≤◌, ◌-◌, ◌++◌, length, take, drop}
use Rattle.mt_http_in.specs.Trailers.{first_lines}
use Rattle.mt_http_in.proofs.trailers.first_lines.Given as goal

abbrev pub invariant-lines : goal.invariant-lines
invariant-lines l = record {
  within : l.at ≤ length l.bytes;
  same : first_lines l.most l.bytes ≡ take l.at l.bytes ++ first_lines l.left (drop l.at l.bytes);
}

abbrev pub decreases-lines : goal.decreases-lines
decreases-lines l = length l.bytes - l.at
