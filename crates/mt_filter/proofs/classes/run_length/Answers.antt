use Rattle.std.proofs.Common.{sym, ◌∙◌, ◌≡◌, ◌+◌, ◌-◌, ◌++◌, true, false, ap, length, length-drop, length-append, arith, drop}
use Rattle.std.specs.Prelude.{encode_utf8}
use Rattle.std.specs.Char.{len_utf8}
use Rattle.std.specs.Str.Iter.{char_indices_offset, char_indices_rest}
use Rattle.std.proofs.lemmas.Str.{IsUtf8-past_char, drop_past_char, length-encode}
use Rattle.mt_filter.specs.Class.{is_in}
use Rattle.mt_filter.proofs.Runs.{run_is, run_on, run_stops, run_whole}
use Rattle.mt_filter.proofs.classes.run_length.Goals as goal

pub returns-then-not-has-clause-value : goal.returns-then-not-has-clause-value
returns-then-not-has-clause-value c =
    let s = c.in-Some.ensures.steps in
    let miss : is_in c.args.class c.in-Some.c ≡ false = sym c.has.ensures ∙ c.if-not-has.true in
    let whole = run_is c.args.class c.args.text.now in
    let stops = run_stops c.args.class (char_indices_offset c.loop-at.at-iterator) _ _ _ c.loop-at.invariant.utf8 s.1 miss in
    cc

pub loop-at-preserved : goal.loop-at-preserved
loop-at-preserved c =
    let s = c.in-Some.ensures.steps in
    let hit : is_in c.args.class c.in-Some.c ≡ true = sym c.has.ensures ∙ c.if-not-has.false in
    let on = run_on c.args.class (char_indices_offset c.loop-at.at-iterator) _ _ _ c.loop-at.invariant.utf8 s.1 hit in
    let front : drop (char_indices_offset c.loop-at.at-iterator) c.args.text.now ≡ encode_utf8 c.in-Some.c ++ char_indices_rest c.next.new.self = c.loop-at.invariant.rest ∙ s.1 in
    let past = drop_past_char c.args.text.now _ (char_indices_offset c.loop-at.at-iterator) c.in-Some.c front in
    let size : length c.args.text.now - char_indices_offset c.loop-at.at-iterator ≡ length (encode_utf8 c.in-Some.c) + length (char_indices_rest c.next.new.self) =
    sym (length-drop (char_indices_offset c.loop-at.at-iterator) c.args.text.now) ∙ ap length front ∙ length-append (encode_utf8 c.in-Some.c) (char_indices_rest c.next.new.self) in
    let place : char_indices_offset c.next.new.self ≡ char_indices_offset c.loop-at.at-iterator + len_utf8 c.in-Some.c =
    s.2 ∙ ap (λ n. char_indices_offset c.loop-at.at-iterator + n) (length-encode c.in-Some.c) in
    record {
      utf8 = IsUtf8-past_char _ _ _ c.loop-at.invariant.utf8 s.1;
      within = grind (arith, size, s.2, c.loop-at.invariant.within);
      rest = ap (λ n. drop n c.args.text.now) place ∙ past;
      same = (cc);
    }

pub returns-clause-value : goal.returns-clause-value
returns-clause-value c =
    let s = c.in-None.ensures.steps in
    let all = run_is c.args.class c.args.text.now in
    let whole = run_whole c.args.class (char_indices_offset c.loop-at.at-iterator) _ s.0 in
    let size : length c.args.text.now - char_indices_offset c.loop-at.at-iterator ≡ length (char_indices_rest c.loop-at.at-iterator) =
    sym (length-drop (char_indices_offset c.loop-at.at-iterator) c.args.text.now) ∙ ap length c.loop-at.invariant.rest in
    let end : length c.args.text.now ≡ char_indices_offset c.loop-at.at-iterator = omega (arith, size, s.0, c.loop-at.invariant.within) in
    cc
