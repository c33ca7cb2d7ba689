use Rattle.std.proofs.Common.{◌≢◌, lit<, sym, ap, ◌∙◌, rules, subst}
use Rattle.std.specs.Prelude.{string_bytes, ◌≡◌, [], ◌∷◌, ◌++◌}
use Rattle.std.proofs.lemmas.Str.Pattern.{split_parts}
use Rattle.mt_target.specs.Quoted.{doubled, BeginsQuoted}
use Rattle.mt_target.proofs.SplitLaws.{by_place}
use Rattle.mt_target.proofs.QuotedLaws.{unclosed, quotes_step, quotes_end}
use Rattle.mt_target.proofs.quoted.read_quoted.Goals as goal

pub split_once-requires-text-self : goal.split_once-requires-text-self
split_once-requires-text-self c l = c.quotes.invariant.utf8

pub returns-in_default : goal.returns-in_default
returns-in_default c text rest b = c.in_default.ensures _ b.whole

pub returns-in_default-split_once : goal.returns-in_default-split_once
returns-in_default-split_once c text rest b =
    let none = rw c.in_default-split_once.is at (split_parts 39 c.quotes.rest.now c.split_once.result c.split_once.ensures.cases (lit< tt)) in
    unclosed c.args.bytes.now (string_bytes c.quotes.text) c.quotes.rest.now text rest c.quotes.invariant.at (by_place (λ b. b ≢ 39) c.quotes.rest.now none) b

pub returns-in_default-after : goal.returns-in_default-after
returns-in_default-after c =
    let parts = rw c.in-Some-split_once.is at (split_parts 39 c.quotes.rest.now c.split_once.result c.split_once.ensures.cases (lit< tt)) in
    subst (λ t. BeginsQuoted c.args.bytes.now t c.in-Some-split_once.behind.now) (sym (c.from_string.ensures ∙ c.in_ok-push_str.ensures.bytes))
    (quotes_end c.args.bytes.now (string_bytes c.quotes.text) c.quotes.rest.now c.in-Some-split_once.part.now c.in-Some-split_once.behind.now c.quotes.invariant.at parts.0
    (by_place (λ b. b ≢ 39) c.in-Some-split_once.part.now parts.1) (λ more e. c.in_default-after.ensures more e))

pub quotes-preserved : goal.quotes-preserved
quotes-preserved c =
    let parts = rw c.in-Some-split_once.is at (split_parts 39 c.quotes.rest.now c.split_once.result c.split_once.ensures.cases (lit< tt)) in
    let grown = c.in_ok-push_str-2.ensures.bytes ∙ ap (λ z. z ++ (39 ∷ [])) c.in_ok-push_str.ensures.bytes in
    record {
      at = subst (λ t. c.args.bytes.now ≡ 39 ∷ (doubled t ++ c.in-Some-after.more.now)) (sym grown)
          (quotes_step c.args.bytes.now (string_bytes c.quotes.text) c.quotes.rest.now c.in-Some-split_once.part.now c.in-Some-split_once.behind.now c.in-Some-after.more.now c.quotes.invariant.at parts.0
          (by_place (λ b. b ≢ 39) c.in-Some-split_once.part.now parts.1) c.in-Some-after.ensures);
      utf8 = search rules;
    }
