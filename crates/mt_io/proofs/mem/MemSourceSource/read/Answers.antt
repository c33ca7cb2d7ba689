use Rattle.std.proofs.Common.{◌≡◌, ◌+◌, ◌<◌, ◌^◌, IsTrue, length, rules}
use Rattle.mt_io.specs.Memory.{count_given, after_read}
use Rattle.mt_io.proofs.MemoryLaws.{reads_given}
use Rattle.mt_io.proofs.mem.MemSourceSource.read.Goals as goal

pub returns-clause-reads : goal.returns-clause-reads
returns-clause-reads c =
    let s = c.args.self.now in
    let n = c.give_piece.result in
    let ready : IsTrue s.open = search rules in
    let early : s.calls + 1 < 2 ^ 32 = search rules in
    let count : n ≡ count_given s (length c.args.into.now) = search rules in
    let is : c.give_piece.new.self ≡ after_read s n = search rules in
    reads_given s c.give_piece.new.self n c.args.into.now c.give_piece.new.into ready early c.requires count (search rules) (search rules) is
