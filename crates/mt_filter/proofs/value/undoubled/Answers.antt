use Rattle.std.proofs.Common.{◌∙◌, sym, ap, ◌++◌, List, ℕ, ◌==◌}
use Rattle.std.specs.Prelude.{string_bytes}
use Rattle.std.specs.Str.{encode_utf8_all, chars}
use Rattle.std.specs.Str.Iter.{chars_rest}
use Rattle.std.proofs.lemmas.Str.{IsUtf8-past_char}
use Rattle.mt_filter.specs.Literal.{single_quotes}
use Rattle.mt_filter.proofs.Quotes.{second_skipped, other_kept, all_taken}
use Rattle.mt_filter.proofs.value.undoubled.Goals as goal

pub loop-c-preserved-then-is_second : goal.loop-c-preserved-then-is_second
loop-c-preserved-then-is_second c =
    let s = c.in-Some.ensures.steps.0 in
    record {
      utf8 = IsUtf8-past_char _ _ _ c.loop-c.invariant.utf8 s;
      same = sym (second_skipped c.loop-c.is_after_quote (string_bytes c.loop-c.text) _ _ _ c.loop-c.invariant.utf8 s c.if-is_second.true) ∙ c.loop-c.invariant.same;
    }

pub loop-c-preserved : goal.loop-c-preserved
loop-c-preserved c =
    let s = c.in-Some.ensures.steps.0 in
    record {
      utf8 = IsUtf8-past_char _ _ _ c.loop-c.invariant.utf8 s;
      same = ap (λ (bs : List ℕ). bs ++ encode_utf8_all (single_quotes (c.in-Some.c == 39) (chars (chars_rest c.next.new.self)))) c.in_ok-push.ensures.bytes
          ∙ sym (other_kept c.loop-c.is_after_quote (string_bytes c.loop-c.text) _ _ _ c.loop-c.invariant.utf8 s c.if-is_second.false) ∙ c.loop-c.invariant.same;
    }

pub returns : goal.returns
returns c =
    let s = c.in-None.ensures.steps.0 in
    c.from_string.ensures ∙ sym (all_taken c.loop-c.is_after_quote (string_bytes c.loop-c.text) (chars_rest c.loop-c.c-iterator) s.0) ∙ c.loop-c.invariant.same
