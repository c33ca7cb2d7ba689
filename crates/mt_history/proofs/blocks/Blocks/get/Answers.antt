use Rattle.std.proofs.Common.{◌≡◌, ◌≢◌, ◌<◌, length, option_copied, ◌+◌, ◌*◌, ◌/◌, ◌%◌, sym, ap, ◌∙◌, arith}
use Rattle.std.specs.Prelude.{Some, None}
use Rattle.std.specs.List.{slice_get}
use Rattle.mt_history.specs.Stacks.{Stack}
use Rattle.mt_history.proofs.BlockLaws.{in_full, behind_full, past_full, none_past}
use Rattle.mt_history.proofs.blocks.Blocks.get.Goals as goal

-- a place in a full block
pub returns-in-Some : goal.returns-in-Some
returns-in-Some c =
    let at_is : c.args.at ≡ (c.args.at / 1024) * 1024 + c.args.at % 1024 = omega arith in
    let inside : c.args.at % 1024 < 1024 = omega arith in
    let found : slice_get c.self.inside.full.items (c.args.at / 1024) ≡ Some c.in-Some.entries.now =
    ap (λ l. slice_get l (c.args.at / 1024)) (sym c.deref.ensures.value) ∙ sym c.block_at.ensures ∙ ap option_copied c.in-Some.is in
    c.entry_at.ensures ∙ ap (λ l. slice_get l (c.args.at % 1024)) c.deref-in-Some.ensures.value
    ∙ sym (in_full c.self.inside.full.items c.self.inside.last.items c.args.at (c.args.at / 1024) (c.args.at % 1024) c.in-Some.entries.now c.self.invariant.0 found inside at_is)
    ∙ ap (λ (v : Stack). slice_get v.entries c.args.at) c.self.view_is

-- a place behind the full blocks
pub returns-in-None : goal.returns-in-None
returns-in-None c =
    let block : c.args.at / 1024 ≡ length c.self.inside.full.items = c.if-block-as_slice.true ∙ ap length c.as_slice.ensures.value in
    let at_is : c.args.at ≡ length c.self.inside.full.items * 1024 + c.args.at % 1024 = omega (arith, block) in
    c.entry_at-in-None.ensures ∙ ap (λ l. slice_get l (c.args.at % 1024)) c.deref-in-None.ensures.value
    ∙ sym (behind_full c.self.inside.full.items c.self.inside.last.items c.args.at (c.args.at % 1024) c.self.invariant.0 at_is)
    ∙ ap (λ (v : Stack). slice_get v.entries c.args.at) c.self.view_is

-- a place past the last block
pub returns-in-None-2 : goal.returns-in-None-2
returns-in-None-2 c =
    let none : slice_get c.self.inside.full.items (c.args.at / 1024) ≡ None =
    ap (λ l. slice_get l (c.args.at / 1024)) (sym c.deref.ensures.value) ∙ sym c.block_at.ensures ∙ ap option_copied c.in-None.is in
    let upto = none_past c.self.inside.full.items (c.args.at / 1024) none in
    let other : c.args.at / 1024 ≢ length c.self.inside.full.items = (λ same. c.if-block-as_slice.false (same ∙ ap length (sym c.as_slice.ensures.value))) in
    let past : length c.self.inside.full.items < c.args.at / 1024 = omega (arith, upto, other) in
    sym (past_full c.self.inside.full.items c.self.inside.last.items c.args.at (c.args.at / 1024) c.self.invariant.0 c.self.invariant.1 past (omega arith))
    ∙ ap (λ (v : Stack). slice_get v.entries c.args.at) c.self.view_is
