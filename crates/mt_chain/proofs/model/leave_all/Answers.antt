use Rattle.std.proofs.Common.{◌≡◌, ◌∙◌, ◌++◌, ◌∷◌, [], ◌<◌, sym, ap, arith, length, get_or, refl, List, Option}
use Rattle.mt_chain.specs.declared.row.Stored.{Stored}
use Rattle.mt_chain.specs.Table.{table_of}
use Rattle.mt_chain.specs.Effect.{op_key}
use Rattle.mt_chain.specs.Model.{rows_with, with_rows_left}
use Rattle.mt_chain.proofs.ModelLaws.{one_left, with_none}
use Rattle.mt_chain.proofs.model.leave_all.Goals as goal

nothing_left : (xs : List (Option Stored)) → length xs ≡ 0 → xs ≡ []
nothing_left [] h = refl
nothing_left (x ∷ xs) h = absurd (omega arith)

pub loop-row-preserved : goal.loop-row-preserved
loop-row-preserved c =
    let at = c.loop-row in
    let ops = c.args.ops.now in
    let rest = c.pop.new.self.items in
    let row = c.in-Some.row in
    let op = c.index-ops-len.result in
    let popped : at.left.items ≡ rest ++ row ∷ [] = c.in-Some.ensures.items in
    let more = c.in-Some.ensures.cases in
    let short : length rest < length ops = (let was = at.invariant.short in omega arith) in
    let place : c.len.result ≡ length rest = (let is = c.len.ensures in let ok = c.pop.new.self.ok.0 in omega (arith, is, ok)) in
    let is : op ≡ get_or ops (length rest) op = c.index-ops-len.is ∙ ap (λ n. get_or ops n op) place in
    let made : c.leave.new.rows ≡ rows_with at.rows (op_key op) row = c.in_ok-leave.ensures ∙ ap (λ k. rows_with at.rows k row) c.key.ensures in
    record {
      short = (let below = short in omega arith);
      rows = one_left ops rest c.args.left.items at.rows c.leave.new.rows c.args.rows.now row op short is made
          (λ key. ap (λ ls. with_rows_left ops ls (table_of at.rows) key) (sym popped) ∙ at.invariant.rows key);
    }

pub returns : goal.returns
returns c = λ key.
    let ops = c.args.ops.now in
    let at = c.loop-row in
    let empty = nothing_left at.left.items (let none = c.in_default.ensures.cases.0 in let ok = at.left.ok.0 in omega (arith, none, ok)) in
    sym (with_none ops (table_of at.rows) key) ∙ ap (λ ls. with_rows_left ops ls (table_of at.rows) key) (sym empty) ∙ at.invariant.rows key
