use Rattle.std.proofs.Common.{refl}
use Rattle.std.specs.Fmt.{digits}
use Rattle.mt_http_out.specs.Rendering.{phrase_of}
use Rattle.mt_front.proofs.refusals.no_memory.Goals as goal

pub returns : goal.returns
unfolding digits phrase_of
returns c = refl
