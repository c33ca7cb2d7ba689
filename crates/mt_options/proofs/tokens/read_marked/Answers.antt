use Rattle.std.proofs.Common.{◌≡◌, sym, subst, ◌∙◌}
use Rattle.std.specs.Prelude.{IsUtf8}
use Rattle.base64.specs.Engines.{url_safe_no_pad}
use Rattle.base64.specs.GeneralPurpose.{encode_of}
use Rattle.mt_target.specs.Quoted.{Found}
use Rattle.mt_options.proofs.TokenLaws.{found_marked}
use Rattle.mt_options.proofs.tokens.read_marked.Goals as goal

pub returns-in-Some : goal.returns-in-Some
returns-in-Some c =
    found_marked c.args.mark.now c.args.text.now c.in-Some.encoded.now c.decode.result (sym c.as_str.ensures ∙ c.in-Some.ensures)
    (subst (λ bs. Found (λ text. (bs ≡ encode_of url_safe_no_pad text) × IsUtf8 text) c.decode.result) c.as_bytes.ensures.value c.decode.ensures)
