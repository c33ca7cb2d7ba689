use Rattle.std.proofs.Common.{◌≡◌, ◌≤◌, [], ◌∷◌, length, take, arith, rules}
use Rattle.mt_http_in.specs.Chunks.{IsPairOfBytes}
use Rattle.mt_http_in.proofs.FillLaws.{reached_none, reached_fill}
use Rattle.mt_http_in.proofs.ChunkLaws.{pair_none, end_whole}
use Rattle.mt_http_in.proofs.chunks.read_end.Goals as goal

pub ends-init : goal.ends-init
ends-init g c = reached_none IsPairOfBytes c.args.reader.now (g.S.Source.input c.args.source.now)

pub ends-preserved : goal.ends-preserved
ends-preserved g c =
    reached_fill IsPairOfBytes c.args.reader.now (g.S.Source.input c.args.source.now) c.ends.reader (g.S.Source.input c.ends.source) c.in-Ok.field-0 c.fill.new.self (g.S.Source.input c.fill.new.source) c.ends.invariant
    (pair_none c.ends.reader c.len.result c.len.ensures.value c.ends-test.true) c.in-Ok.ensures c.in-Ok.field-0-test.1

pub returns : goal.returns
returns g c =
    let long : 2 ≤ length c.ends.reader = omega (arith, c.ends-test.false, c.len.ensures.value) in
    let same : take 2 c.as_slice.result.now ≡ 13 ∷ 10 ∷ [] = search rules in
    end_whole c.args.reader.now (g.S.Source.input c.args.source.now) c.ends.reader c.as_slice.result.now (g.S.Source.input c.ends.source) c.skip.new.self c.ends.invariant c.as_slice.ensures same c.skip.ensures long
