use Rattle.mt_model.proofs.Hiding.{IsProps-visible}
use Rattle.mt_model.proofs.props.Props.visible.Goals as goal

pub from_items-requires : goal.from_items-requires
from_items-requires c = rw (c.in_ok-items.ensures, c.as_slice.ensures.value) (IsProps-visible c.args.self.now c.as_slice.ensures.valid)
