use Rattle.std.proofs.Common.{[], ◌∷◌, ◌++◌, lit<, sym, ap, ◌∙◌, rules}
use Rattle.std.specs.List.{slice_split}
use Rattle.std.proofs.lemmas.Str.Pattern.{split_once_first}
use Rattle.mt_options.specs.Shows.{is_comma}
use Rattle.mt_options.proofs.SplitLaws.{part_more, part_last}
use Rattle.mt_options.proofs.shows.read_names.Goals as goal

pub returns-in_default : goal.returns-in_default
returns-in_default c =
    let none = rw c.in_default.is at (split_once_first 44 c.names.rest.now c.split_once.result c.split_once.ensures.cases (lit< tt)) in
    c.in_ok-push.ensures.items ∙ ap (λ t. c.names.names.items ++ t ∷ []) c.in_ok-of.ensures
    ∙ sym (part_last c.args.text.now c.names.rest.now c.names.names.items c.names.invariant.same none)

pub names-preserved : goal.names-preserved
names-preserved c =
    let parts = rw c.in-Some.is at (split_once_first 44 c.names.rest.now c.split_once.result c.split_once.ensures.cases (lit< tt)) in
    let grown = c.in_ok-push-2.ensures.items ∙ ap (λ t. c.names.names.items ++ t ∷ []) c.in_ok-of-2.ensures in
    record {
      same = part_more c.args.text.now c.names.rest.now c.in-Some.name.now c.in-Some.behind.now c.names.names.items c.names.invariant.same parts.0 parts.1 parts.2
          ∙ ap (λ ns. ns ++ slice_split is_comma c.in-Some.behind.now) (sym grown);
      utf8 = search rules;
    }
