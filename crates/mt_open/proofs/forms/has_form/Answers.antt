use Rattle.std.proofs.Common.{◌≢◌}
use Rattle.mt_meta.specs.Markers.{marker_key}
use Rattle.mt_open.proofs.FormLaws.{ok_for}
use Rattle.mt_open.proofs.forms.has_form.Goals as goal

pub returns-then-is_marker_key : goal.returns-then-is_marker_key
returns-then-is_marker_key c =
    let marker = c.is_marker_key.ensures.0 c.if-is_marker_key.true in
    ok_for c.is_marker_form.result (λ h. (λ e. h, λ other. absurd (other marker))) (λ form. form.0 marker) c.is_marker_form.ensures

pub returns-else-is_marker_key : goal.returns-else-is_marker_key
returns-else-is_marker_key c =
    let other : c.args.key.now.rk ≢ marker_key = λ e. (let x = c.is_marker_key.ensures.1 e in let y = c.if-is_marker_key.false in cc) in
    ok_for c.is_row_form.result (λ h. (λ e. absurd (other e), λ ne. h)) (λ form. form.1 other) c.is_row_form.ensures
