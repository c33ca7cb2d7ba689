use Rattle.std.proofs.Common.{sym, ◌∙◌}
use Rattle.mt_open.proofs.FormLaws.{ok_for, empty_row_key}
use Rattle.mt_open.proofs.forms.is_partition_key.Goals as goal

pub returns : goal.returns
returns c = ok_for c.is_key.result (λ e. sym (empty_row_key c.args.pk.now) ∙ e) (λ e. empty_row_key c.args.pk.now ∙ e) c.is_key.ensures
