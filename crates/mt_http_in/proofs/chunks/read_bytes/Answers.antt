use Rattle.std.proofs.Common.{◌≡◌, ◌≢◌, ◌+◌, ◌-◌, ◌<◌, ◌++◌, [], length, ap, ◌∙◌, arith, append_assoc, length-append}
use Rattle.mt_http_in.proofs.ByteLaws.{moving_take, moving_fill, moving_halt}
use Rattle.mt_http_in.proofs.chunks.read_bytes.Goals as goal

pub pieces-preserved : goal.pieces-preserved
pieces-preserved g c =
    let was = c.pieces.invariant in
    let took = c.in-Ok.ensures in
    let left : c.pieces.missing - c.in-Ok.taken ≢ 0 = c.if-missing-eq0.false in
    let some : c.in-Ok.taken ≢ c.pieces.missing = λ e. left (omega (arith, e)) in
    let empty : c.take.new.reader ≡ [] = took.5 some in
    let size : length (was.spent ++ took.0) ≡ length was.spent + c.in-Ok.taken = length-append was.spent took.0 ∙ ap (λ k. length was.spent + k) took.1 in
    let whole : length was.spent + c.pieces.missing ≡ c.args.n = was.size in
    let short : length (was.spent ++ took.0) < c.args.n = omega (arith, size, whole, took.4, left) in
    record {
      spent = was.spent ++ took.0;
      grew = took.3 ∙ ap (λ v. v ++ took.0) was.grew ∙ append_assoc c.args.body was.spent took.0;
      size = omega (arith, size, whole, took.4);
      moving = moving_fill c.args.n c.args.reader.now (g.S.Source.input c.args.source.now) (was.spent ++ took.0) c.take.new.reader (g.S.Source.input c.pieces.source) c.in-Ok-fill.field-0 c.fill.new.self (g.S.Source.input c.fill.new.source)
          (moving_take c.args.n c.args.reader.now (g.S.Source.input c.args.source.now) was.spent c.pieces.reader took.0 c.take.new.reader (g.S.Source.input c.pieces.source) was.moving took.2) empty short c.in-Ok-fill.ensures c.in-Ok-fill.field-0-test.1;
    }

pub returns-in-Err-fill : goal.returns-in-Err-fill
returns-in-Err-fill g c =
    let was = c.pieces.invariant in
    let took = c.in-Ok.ensures in
    let left : c.pieces.missing - c.in-Ok.taken ≢ 0 = c.if-missing-eq0.false in
    let some : c.in-Ok.taken ≢ c.pieces.missing = λ e. left (omega (arith, e)) in
    let size : length (was.spent ++ took.0) ≡ length was.spent + c.in-Ok.taken = length-append was.spent took.0 ∙ ap (λ k. length was.spent + k) took.1 in
    let whole : length was.spent + c.pieces.missing ≡ c.args.n = was.size in
    let short : length (was.spent ++ took.0) < c.args.n = omega (arith, size, whole, took.4, left) in
    moving_halt c.args.n c.args.reader.now (g.S.Source.input c.args.source.now) c.args.body (was.spent ++ took.0) c.take.new.reader (g.S.Source.input c.pieces.source) c.in-Err-fill.halt c.fill.new.self (g.S.Source.input c.fill.new.source)
    (moving_take c.args.n c.args.reader.now (g.S.Source.input c.args.source.now) was.spent c.pieces.reader took.0 c.take.new.reader (g.S.Source.input c.pieces.source) was.moving took.2) (took.5 some) short c.in-Err-fill.ensures
