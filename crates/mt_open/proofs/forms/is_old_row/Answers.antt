use Rattle.std.proofs.Common.{inl, inr, refl, sym, ◌∙◌}
use Rattle.mt_meta.specs.Sound.{IsOldRow, IsEntry}
use Rattle.mt_open.proofs.FormLaws.{ok_for, all_visible, visible_all}
use Rattle.mt_open.proofs.forms.is_old_row.Goals as goal

pub returns-then-are_visible : goal.returns-then-are_visible
returns-then-are_visible c = (λ e. inl (all_visible c.args.props.now (sym c.are_visible.ensures ∙ c.if-are_visible.true)), λ h. refl)

pub returns-then-not-is_left_over : goal.returns-then-not-is_left_over
returns-then-not-is_left_over c = (λ e. absurd cc, λ h. absurd (no h)) where
  no : IsOldRow c.args.number c.args.props.now → ⊥
  no (inl visible) = (let x = sym c.if-are_visible.false ∙ c.are_visible.ensures ∙ visible_all c.args.props.now visible in cc)
  no (inr left) = (let x = c.is_left_over.ensures.1 (left.0, left.2) in let y = c.if-not-is_left_over.true in cc)

pub returns : goal.returns
returns c = ok_for c.is_entry.result (λ entry. inr ((c.is_left_over.ensures.0 c.if-not-is_left_over.false).0, entry, (c.is_left_over.ensures.0 c.if-not-is_left_over.false).1)) from c.is_entry.ensures where
  from : IsOldRow c.args.number c.args.props.now → IsEntry c.args.props.now
  from (inl visible) = absurd (let x = sym c.if-are_visible.false ∙ c.are_visible.ensures ∙ visible_all c.args.props.now visible in cc)
  from (inr left) = left.1
