use Rattle.std.proofs.Common.{◌≡◌, ◌≤◌, length, drop}
use Rattle.std.specs.Str.{IsUtf8, chars}
use Rattle.std.specs.Str.Iter.{char_indices_rest, char_indices_offset}
use Rattle.mt_filter.proofs.Runs.{run_end}
use Rattle.mt_filter.proofs.classes.run_length.Given as goal

abbrev pub invariant-loop-at : goal.invariant-loop-at
invariant-loop-at l = record {
  utf8 : IsUtf8 (char_indices_rest l.at-iterator);
  within : char_indices_offset l.at-iterator ≤ length l.text;
  rest : drop (char_indices_offset l.at-iterator) l.text ≡ char_indices_rest l.at-iterator;
  same : run_end l.class (char_indices_offset l.at-iterator) (chars (char_indices_rest l.at-iterator)) ≡ run_end l.class 0 (chars l.text);
}
