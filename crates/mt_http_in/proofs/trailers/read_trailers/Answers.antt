use Rattle.mt_http_in.specs.Trailers.{IsSectionBytes}
use Rattle.mt_http_in.proofs.FillLaws.{reached_none, reached_fill}
use Rattle.mt_http_in.proofs.TrailerLaws.{trailers_whole, section_none, refused_overlong, refused_malformed}
use Rattle.mt_http_in.proofs.trailers.read_trailers.Goals as goal

pub trailers-init : goal.trailers-init
trailers-init g c = reached_none IsSectionBytes c.args.reader.now (g.S.Source.input c.args.source.now)

pub returns-in-Whole : goal.returns-in-Whole
returns-in-Whole g c =
    trailers_whole c.args.room c.args.reader.now (g.S.Source.input c.args.source.now) c.trailers.reader c.as_slice.result.now (g.S.Source.input c.trailers.source) c.trailers.invariant c.as_slice.ensures c.in-Whole.len c.skip.new.self c.in-Whole.ensures.0 c.skip.ensures

pub trailers-preserved : goal.trailers-preserved
trailers-preserved g c =
    reached_fill IsSectionBytes c.args.reader.now (g.S.Source.input c.args.source.now) c.trailers.reader (g.S.Source.input c.trailers.source) c.in-Ok.field-0 c.fill.new.self (g.S.Source.input c.fill.new.source) c.trailers.invariant
    (section_none c.args.room c.trailers.reader c.as_slice.result.now c.as_slice.ensures c.in-More.ensures) c.in-Ok.ensures c.in-Ok.field-0-test.1

pub returns-in-Overlong : goal.returns-in-Overlong
returns-in-Overlong g c =
    refused_overlong c.args.room c.args.reader.now (g.S.Source.input c.args.source.now) c.trailers.reader c.as_slice.result.now (g.S.Source.input c.trailers.source) c.trailers.invariant c.as_slice.ensures c.in-Overlong.ensures

pub returns-in-Malformed : goal.returns-in-Malformed
returns-in-Malformed g c =
    refused_malformed c.args.room c.args.reader.now (g.S.Source.input c.args.source.now) c.trailers.reader c.as_slice.result.now (g.S.Source.input c.trailers.source) c.trailers.invariant c.as_slice.ensures c.in-Malformed.ensures
