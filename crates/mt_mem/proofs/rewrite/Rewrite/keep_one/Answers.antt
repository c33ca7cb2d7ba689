use Rattle.std.proofs.Common.{◌≡◌, ◌+◌, ◌<◌, ◌++◌, List, length, take, drop, set, get_or, [], ap, sym, ◌∙◌, arith}
use Rattle.std.proofs.lemmas.List.{length-drop, nil_from_length}
use Rattle.mt_mem.specs.Entries.{Row}
use Rattle.mt_mem.specs.declared.rewrite.Rewrite.TheInside.{Inside}
use Rattle.mt_mem.proofs.RewriteLaws.{moved_written, moved_left, queued_written, replaced_left, stayed_written, next_left}
use Rattle.mt_mem.proofs.rewrite.Rewrite.keep_one.Goals as goal
use Rattle.mt_mem.proofs.rewrite.Rewrite.keep_one.Goals.{then-self, else-self+in-Some, else-self+in_default}

-- what is written and what is left once both places have moved on
abbrev written_then : Inside → List Row
written_then s = take (s.filled + 1) s.rows.items ++ s.waiting.items

abbrev left_then : Inside → List Row
left_then s = drop (s.read + 1) s.rows.items

pub returns-clause-written : goal.returns-clause-written
returns-clause-written c =
    let s = c.self.inside in
    let rows = s.rows.items in
    let l : s.read < length rows = (let some = c.requires in let view = ap (λ v. length v.left) c.self.view_is in let long = length-drop s.read rows in omega (arith, view)) in
    elim c.if-self.branch [
      | then-self w ↦
          ap written_then w.self-inside-is
          ∙ ap (λ xs. take (s.filled + 1) xs ++ s.waiting.items) w.swap.ensures.items
          ∙ moved_written rows s.waiting.items s.filled s.read w.if-self.true l (c.self.invariant.2 w.if-self.true)
          ∙ ap (λ v. v.written ++ take 1 v.left) c.self.view_is
      | else-self+in-Some w ↦
          let same : s.filled ≡ s.read = omega (arith, w.if-self.false, c.self.invariant.0) in
          ap written_then w.self-inside-is
          ∙ ap (λ x. take (s.filled + 1) (set rows s.read x) ++ w.push_back_reserved.new.self.items) w.replace-row.ensures.after
          ∙ ap (λ ws. take (s.filled + 1) (set rows s.read w.in-Some.first) ++ ws) w.push_back_reserved.ensures.items
          ∙ queued_written rows s.waiting.items w.pop_front.new.self.items s.filled s.read w.in-Some.first w.replace-row.result same l w.in-Some.ensures.items (w.replace-row.ensures.value ∙ w.index_mut.ensures.value ∙ ap (get_or rows s.read) (sym w.replace-row.ensures.value))
          ∙ ap (λ v. v.written ++ take 1 v.left) c.self.view_is
      | else-self+in_default w ↦
          let same : s.filled ≡ s.read = omega (arith, w.if-self.false, c.self.invariant.0) in
          let none : s.waiting.items ≡ [] = nil_from_length s.waiting.items (let empty = w.in_default.ensures.cases.0 in let ok = s.waiting.ok.0 in omega arith) in
          ap written_then w.self-inside-is
          ∙ ap (λ ws. take (s.filled + 1) rows ++ ws) (sym w.in_default.ensures.items)
          ∙ stayed_written rows s.waiting.items s.filled s.read same l none
          ∙ ap (λ v. v.written ++ take 1 v.left) c.self.view_is
    ]

pub returns-clause-left : goal.returns-clause-left
returns-clause-left c =
    let s = c.self.inside in
    let rows = s.rows.items in
    let l : s.read < length rows = (let some = c.requires in let view = ap (λ v. length v.left) c.self.view_is in let long = length-drop s.read rows in omega (arith, view)) in
    elim c.if-self.branch [
      | then-self w ↦
          ap left_then w.self-inside-is
          ∙ ap (λ xs. drop (s.read + 1) xs) w.swap.ensures.items
          ∙ moved_left rows s.filled s.read w.if-self.true l
          ∙ ap (λ v. drop 1 v.left) c.self.view_is
      | else-self+in-Some w ↦
          ap left_then w.self-inside-is
          ∙ replaced_left rows s.read w.replace-row.new.dest
          ∙ ap (λ v. drop 1 v.left) c.self.view_is
      | else-self+in_default w ↦
          ap left_then w.self-inside-is
          ∙ next_left rows s.read
          ∙ ap (λ v. drop 1 v.left) c.self.view_is
    ]
