use Rattle.std.proofs.Common.{◌≡◌, ◌++◌}
use Rattle.std.specs.Prelude.{string_bytes}
use Rattle.std.specs.Str.{IsUtf8, chars, encode_utf8_all}
use Rattle.std.specs.Str.Iter.{chars_rest}
use Rattle.mt_filter.specs.Literal.{single_quotes, undoubled}
use Rattle.mt_filter.proofs.value.undoubled.Given as goal

abbrev pub invariant-loop-c : goal.invariant-loop-c
invariant-loop-c l = record {
  utf8 : IsUtf8 (chars_rest l.c-iterator);
  same : string_bytes l.text ++ encode_utf8_all (single_quotes l.is_after_quote (chars (chars_rest l.c-iterator))) ≡ undoubled l.inside;
}
