use Rattle.std.proofs.Common.{rules, ◌≡◌, ◌≢◌, sym, ◌∙◌, subst, List, ℕ, true, arith}
use Rattle.std.specs.Prelude.{bytes_eq, codes}
use Rattle.mt_model.specs.declared.tag.Tag.{Tag}
use Rattle.mt_model.specs.Tag.{tag_text, IsTag}
use Rattle.mt_meta.proofs.MarkLaws.{copy_named_is, copy_named_none}
use Rattle.mt_meta.proofs.mark.copy_named.Goals as goal

pub returns-in_err-tag : goal.returns-in_err-tag
returns-in_err-tag c =
    let P : List ℕ → Type 0 = λ text. (t : Tag) → IsTag t → text ≢ tag_text t in
    c.from_residual.ensures ∙ copy_named_none c.args.kind.now c.args.tag.now (subst P c.as_bytes.ensures.value c.in_err-tag.ensures)

pub returns-in_ok-tag : goal.returns-in_ok-tag
returns-in_ok-tag c =
    let same : bytes_eq c.args.kind.now (codes "copy") ≡ true = search rules in
    copy_named_is c.args.kind.now c.args.tag.now c.in_ok-tag.tag same (omega arith, omega arith) (sym c.as_bytes.ensures.value ∙ c.in_ok-tag.ensures)
