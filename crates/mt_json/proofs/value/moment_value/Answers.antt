use Rattle.std.proofs.Common.{subst}
use Rattle.serde_json.specs.View.{view}
use Rattle.mt_time.specs.Moment.{HasNoTicks}
use Rattle.mt_json.proofs.ValueLaws.{no_moment}
use Rattle.mt_json.proofs.value.moment_value.Goals as goal

pub returns-in-Err : goal.returns-in-Err
returns-in-Err c =
    no_moment (view c.args.value.now) c.in-Some.text.now c.in-Some.ensures (subst HasNoTicks c.as_bytes.ensures.value c.in-Err.ensures.bad)
