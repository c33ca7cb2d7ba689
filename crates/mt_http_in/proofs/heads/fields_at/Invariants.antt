use Rattle.std.proofs.Common.{◌≡◌, map, take}
use Rattle.mt_http_in.specs.Heads.{field_at}
use Rattle.mt_http_in.proofs.heads.fields_at.Given as goal

abbrev pub invariant-loop-span : goal.invariant-loop-span
invariant-loop-span l = l.fields.items ≡ map (field_at l.bytes) (take l.span-index l.spans)
