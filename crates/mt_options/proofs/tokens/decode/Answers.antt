use Rattle.std.proofs.Common.{refl}
use Rattle.mt_options.proofs.TokenLaws.{found_text, no_text}
use Rattle.mt_options.proofs.tokens.decode.Goals as goal

pub returns-in-Ok : goal.returns-in-Ok
returns-in-Ok c = found_text c.args.encoded.now c.in-Ok.bytes.items c.text_of.result c.in-Ok.ensures.bytes (c.in-Ok.ensures.exact (refl, refl)) c.text_of.ensures

pub returns-in-Err-DecodeError : goal.returns-in-Err-DecodeError
returns-in-Err-DecodeError c = no_text c.args.encoded.now c.in-Err-DecodeError.field-0-0 (rw c.in-Err-DecodeError.field-0-is at c.in-Err-DecodeError.ensures.err)
