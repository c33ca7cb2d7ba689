use Rattle.std.proofs.Common.{◌-◌, List, ℕ, length, take, drop, sym, ◌∙◌, subst, arith, Some, None, MatchOption}
use Rattle.std.specs.String.{string_bytes}
use Rattle.std.proofs.lemmas.Str.Pattern.{split_parts}
use Rattle.mt_words.specs.Readings.{texts_of, setting_of, IsPair, IsNoPair}
use Rattle.mt_words.proofs.FrontLaws.{Free, free_part, one_at_front, two_at_front, first_and_rest}
use Rattle.mt_words.proofs.settings.peel.Goals as goal

pub returns-in-Some-named_setting-clause-front : goal.returns-in-Some-named_setting-clause-front
returns-in-Some-named_setting-clause-front c =
    let words = first_and_rest c.args.words.now c.first-item.result c.in-len1-up.len_at_least c.first-item.is in
    let parts = split_parts 61 c.deref.result.now (Some (c.in-Some.name, c.in-Some.value)) c.in-Some.ensures.cases (omega arith) in
    one_at_front (texts_of c.args.words.now) (texts_of (take (length c.args.words.now - 1) (drop 1 c.args.words.now))) c.in-Some.name.now c.in-Some.value.now (string_bytes c.first-item.result) (setting_of c.in-Some-named_setting.setting) words (sym c.deref.ensures ∙ parts.0) (free_part c.in-Some.name.now parts.1) c.in-Some-named_setting.ensures

pub returns-in-None-clause-front : goal.returns-in-None-clause-front
returns-in-None-clause-front c =
    let words = first_and_rest c.args.words.now c.first-item.result c.in-len1-up.len_at_least c.first-item.is in
    let free = free_part c.deref.result.now (split_parts 61 c.deref.result.now None c.in-None.ensures.cases (omega arith)) in
    two_at_front (texts_of c.args.words.now) (texts_of (take (length c.args.words.now - 1) (drop 1 c.args.words.now))) (string_bytes c.first-item.result) c.peel_value.result words (subst Free c.deref.ensures free) (subst (λ (x : List ℕ). MatchOption c.peel_value.result (IsNoPair x (texts_of (take (length c.args.words.now - 1) (drop 1 c.args.words.now)))) (λ p. IsPair x (texts_of (take (length c.args.words.now - 1) (drop 1 c.args.words.now))) (setting_of p.setting) (texts_of p.rest.now))) c.deref-in-None.ensures c.peel_value.ensures.front)
