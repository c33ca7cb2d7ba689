use Rattle.std.proofs.Common.{◌+◌, ◌≤◌, length, arith}
use Rattle.mt_http_in.proofs.ChunkLaws.{content_whole, content_ends}
use Rattle.mt_http_in.proofs.chunks.read_content.Goals as goal

pub returns-in-Ok-read_end : goal.returns-in-Ok-read_end
returns-in-Ok-read_end g c =
    let fits : length c.args.body + c.args.size ≤ 4194304 = omega (arith, c.if-size-len.false, c.len.ensures, c.requires) in
    content_whole c.args.body c.args.size fits c.args.reader.now (g.S.Source.input c.args.source.now) c.read_bytes.new.reader (g.S.Source.input c.read_bytes.new.source) c.read_end.new.reader (g.S.Source.input c.read_end.new.source) c.in-Ok.body
    c.in-Ok.ensures c.in-Ok-read_end.ensures

pub returns-in-Err-read_end : goal.returns-in-Err-read_end
returns-in-Err-read_end g c =
    let fits : length c.args.body + c.args.size ≤ 4194304 = omega (arith, c.if-size-len.false, c.len.ensures, c.requires) in
    content_ends c.args.body c.args.size fits c.args.reader.now (g.S.Source.input c.args.source.now) c.read_bytes.new.reader (g.S.Source.input c.read_bytes.new.source) c.in-Err-read_end.halt c.read_end.new.reader (g.S.Source.input c.read_end.new.source) c.in-Ok.body
    c.in-Ok.ensures c.in-Err-read_end.ensures
