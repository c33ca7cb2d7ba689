use Rattle.std.proofs.Common.{◌≡◌, ◌≢◌, sym, ap, subst, ◌∙◌}
use Rattle.std.specs.Prelude.{IfOk}
use Rattle.mt_meta.specs.Markers.{marker_key}
use Rattle.mt_meta.specs.Logical.{old_at, new_at, old_state_at}
use Rattle.mt_open.proofs.TableLaws.{none_at_marker, seen_elsewhere}
use Rattle.mt_open.specs.Holdings.{pair_in}
use Rattle.mt_open.specs.Table.{entity_by, entity_at, row_by_phases, old_phase_in}
use Rattle.mt_open.proofs.table.entity_at.Goals as goal

pub returns-then-is_marker_key : goal.returns-then-is_marker_key
returns-then-is_marker_key c = sym (none_at_marker (pair_in c.args.stores.now) c.args.key.now (c.is_marker_key.ensures.0 c.if-is_marker_key.true))

pub returns : goal.returns
returns c =
    let p = pair_in c.args.stores.now in
    let key = c.args.key.now in
    let other : key.rk ≢ marker_key = λ e. (let x = c.is_marker_key.ensures.1 e in let y = c.if-is_marker_key.false in cc) in
    let row = old_at p key.pk key.rk in
    let entry = new_at p key.pk key.rk in
    let same : entity_by key (row_by_phases c.old_phase_at.result c.new_phase_at.result row entry) ≡ entity_at p key =
    ap (λ o. entity_by key (row_by_phases o c.new_phase_at.result row entry)) c.old_phase_at.ensures
    ∙ ap (λ n. entity_by key (row_by_phases (old_phase_in (old_state_at p key.pk)) n row entry)) c.new_phase_at.ensures
    ∙ sym (seen_elsewhere p key other) in
    subst (λ x. IfOk c.by_phases.result (λ e. e ≡ x)) same c.by_phases.ensures
