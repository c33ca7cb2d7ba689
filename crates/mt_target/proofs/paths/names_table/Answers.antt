use Rattle.std.proofs.Common.{sym, ◌∙◌, ap, refl, codes, subst}
use Rattle.std.proofs.lemmas.Slice.Eq.{bytes_eq-Decides}
use Rattle.mt_target.specs.Quoted.{BeginsQuoted}
use Rattle.mt_target.specs.Paths.{opened_text}
use Rattle.mt_target.proofs.PathLaws.{naming_here, no_naming, other_naming}
use Rattle.mt_target.proofs.paths.names_table.Goals as goal

pub returns-in_default-2 : goal.returns-in_default-2
returns-in_default-2 c h = no_naming c.in-Some.behind.now c.args.opened (ap opened_text c.in-Some.is) (rw c.in_default-2.is at c.in_ok-rest.ensures) h

pub returns-then-ends : goal.returns-then-ends
returns-then-ends c =
    naming_here c.in-Some.behind.now c.args.opened _ (ap opened_text c.in-Some.is)
    (subst (BeginsQuoted c.in-Some.behind.now _) ((bytes_eq-Decides c.in-Some-2.rest.now (codes ")")).0 (sym c.ends.ensures ∙ c.if-ends.true)) (rw c.in-Some-2.is at c.in_ok-rest.ensures))

pub returns-else-ends : goal.returns-else-ends
returns-else-ends c h =
    other_naming c.in-Some.behind.now c.args.opened _ c.in-Some-2.rest.now (ap opened_text c.in-Some.is) (rw c.in-Some-2.is at c.in_ok-rest.ensures) (sym c.ends.ensures ∙ c.if-ends.false) h
