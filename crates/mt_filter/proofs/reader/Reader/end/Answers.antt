use Rattle.std.proofs.Common.{ℕ, ap}
use Rattle.mt_filter.specs.declared.filter.FilterKind.{FilterKind}
use Rattle.mt_filter.specs.declared.filter.FilterKind.TheVariants.{Expected}
use Rattle.mt_filter.specs.Tree.{Tree}
use Rattle.mt_filter.specs.Grammar.{token, none, read, bad, IsEnded}
use Rattle.mt_filter.proofs.Sought.{if_expected}
use Rattle.mt_filter.proofs.Steps.{end_bad, end_reached}
use Rattle.mt_filter.proofs.reader.Reader.end.Goals as goal

pub returns-in-Ok : goal.returns-in-Ok
returns-in-Ok c =
    let next = c.in-Ok.next in
    let text = c.args.self.now.rest.now in
    let P : ℕ → FilterKind → Type 0 = λ place kind. (f : Tree) → (n : ℕ) → IsEnded (read f n text) (bad place kind) in
    if_expected P next.left c.expected.result c.expected.ensures
    (λ f n. (token next.kind next.part.now c.next.new.self.rest.now, c.in-Ok.ensures.value.0, ap (λ (k : ℕ). bad k Expected) c.in-Ok.ensures.value.1))

pub returns-in-Err : goal.returns-in-Err
returns-in-Err c = λ f n.
    (none c.in-Err.stop.kind, c.in-Err.ensures.value.0, end_reached f n c.in-Err.stop.left c.args.self.now.rest.now c.in-Err.stop.kind c.in-Err.ensures.value.1 c.if-stop-eq0.true)

pub returns-in-Err-2 : goal.returns-in-Err-2
returns-in-Err-2 c = λ f n.
    (none c.in-Err.stop.kind, c.in-Err.ensures.value.0, end_bad f n c.in-Err.stop.left c.args.self.now.rest.now c.in-Err.stop.kind c.in-Err.ensures.value.1 c.if-stop-eq0.false)
