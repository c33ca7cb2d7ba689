use Rattle.std.proofs.Common.{[], ap, ◌∙◌}
use Rattle.std.specs.Prelude.{unwrap_or}
use Rattle.http.specs.StatusCode.{reason_phrase}
use Rattle.mt_http_out.specs.Rendering.{phrase_of}
use Rattle.mt_http_out.proofs.ReplyLaws.{map_or}
use Rattle.mt_http_out.proofs.rendering.phrase.Goals as goal

pub returns : goal.returns
unfolding phrase_of
returns c = ap (λ t. t.now) c.unwrap_or.ensures ∙ map_or (λ t. t.now) c.canonical_reason.result _
    ∙ ap (λ o. unwrap_or o []) (c.canonical_reason.ensures.value ∙ ap reason_phrase c.in-Ok.ensures.1)
