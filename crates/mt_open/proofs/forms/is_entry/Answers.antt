use Rattle.std.proofs.Common.{◌≡◌, Some, None, sym, ◌∙◌}
use Rattle.mt_meta.specs.Marks.{mark_of}
use Rattle.mt_open.proofs.Deciding.{no_entry, has_tag, entry_by_mark}
use Rattle.mt_open.proofs.forms.is_entry.Goals as goal

pub returns-in-None : goal.returns-in-None
returns-in-None c =
    let none : mark_of c.args.props.now ≡ None = sym c.mark_of_props.ensures ∙ c.in-None.is in
    (λ e. absurd cc, λ entry. absurd (no_entry c.args.props.now none entry))

pub returns-in_ok-again-in-Some : goal.returns-in_ok-again-in-Some
returns-in_ok-again-in-Some c =
    let mark = c.in-Some.mark in
    let read : mark_of c.args.props.now ≡ Some mark = sym c.mark_of_props.ensures ∙ c.in-Some.is in (
      λ same. (mark, has_tag c.args.props.now mark read, sym (c.same.ensures.0 same) ∙ c.in_ok-again-in-Some.ensures.value),
      λ entry. c.same.ensures.1 (c.in_ok-again-in-Some.ensures.value ∙ sym (entry_by_mark c.args.props.now mark read entry)),
    )
