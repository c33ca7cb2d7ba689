use Rattle.std.proofs.Common.{◌≡◌, ◌++◌, ◌+◌, ◌≤◌, drop}
use Rattle.mt_chain.specs.Puts.{all_counter_after, tags_of}
use Rattle.mt_mem.specs.Changes.{edits_of, edits_by}
use Rattle.mt_mem.proofs.change.prepare.Given as goal

abbrev pub invariant-loop-put : goal.invariant-loop-put
invariant-loop-put l = record {
  edits : edits_of l.pk l.changes.items ++ edits_by l.store l.counter l.pk (drop l.put-index l.puts) ≡ edits_by l.store l.fn.counter l.pk l.puts;
  tags : l.tags.items ++ tags_of l.store l.counter (drop l.put-index l.puts) ≡ tags_of l.store l.fn.counter l.puts;
  counter : all_counter_after l.counter (drop l.put-index l.puts) ≡ all_counter_after l.fn.counter l.puts;
  bound : l.counter ≤ l.fn.counter + l.put-index;
}
