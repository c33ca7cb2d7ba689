use Rattle.std.proofs.Common.{◌∙◌, ℕ, ◌<◌, length, List, sym, ap, subst, refl, arith}
use Rattle.std.proofs.lemmas.Result.{err_from_is_err_and}
use Rattle.mt_filter.specs.Tree.{Tree, tree_of}
use Rattle.mt_filter.specs.Words.{begins_with_word}
use Rattle.mt_filter.specs.Grammar.{read, bad, Reads, more, chained, stops, negates, other, deep_not, deep_open, encloses}
use Rattle.mt_filter.proofs.Places.{within, word_passed}
use Rattle.mt_filter.proofs.Sought.{if_halted, if_expected}
use Rattle.mt_filter.proofs.Steps.{chain_first, chain_goes, chain_ends, answers_of, or_operand, and_operand, unary_goes, unary_none, negation_read, closed_read, not_closed}
use Rattle.mt_filter.proofs.reader.Reader.+reader.Goals as goal

pub read_chain-returns-in_err-filter : goal.read_chain-returns-in_err-filter
read_chain-returns-in_err-filter t c =
    let p = err_from_is_err_and c.from_residual.result c.from_residual.ensures.1 in
    rw (p.1, p.2) (if_halted _ _ c.in_err-filter.field-0.0 (chain_first c.args.links _ _ _) c.in_err-filter.ensures)

pub read_chain-loop-alloc-init : goal.read_chain-loop-alloc-init
read_chain-loop-alloc-init t c = λ r h. chained c.args.links _ _ _ _ r c.in_ok-filter.ensures h

pub read_chain-returns-in_err-right : goal.read_chain-returns-in_err-right
read_chain-returns-in_err-right t c =
    let p = err_from_is_err_and c.from_residual-in_err-right.result c.from_residual-in_err-right.ensures.1 in
    let test = c.loop-alloc-test.ensures in
    rw (p.1, p.2) (if_halted _ _ c.in_err-right.field-0.0
    (λ at fault d. c.loop-alloc.invariant (bad at fault)
    (chain_goes c.args.links (tree_of c.loop-alloc.filter) _ _ _ _ _ _ c.word.ensures test.value test.rest test.tests _ _ d (stops c.args.links at c.args.level fault)))
    c.in_err-right.ensures)

pub read_chain-loop-alloc-smaller : goal.read_chain-loop-alloc-smaller
read_chain-loop-alloc-smaller t c =
    let test = c.loop-alloc-test.ensures in
    let yes = ap (λ (w : List ℕ). begins_with_word w c.loop-alloc.self.rest.now) (sym c.word.ensures) ∙ sym test.value in
    let less = word_passed c.args.links c.loop-alloc.self.rest.now yes in
    let size = ap (λ (xs : List ℕ). length xs) test.rest in
    let most = within c.in_ok-right.ensures (length c.passes.new.self.rest.now) (omega arith) in
    omega (arith, less, size, most)

pub read_chain-loop-alloc-preserved : goal.read_chain-loop-alloc-preserved
read_chain-loop-alloc-preserved t c = λ r h.
    let test = c.loop-alloc-test.ensures in
    let P : Tree → Type 0 = λ f. Reads (more c.args.links (read f c.read_operand-in-loop-alloc.new.self.tests c.read_operand-in-loop-alloc.new.self.rest.now)) c.args.level r in
    c.loop-alloc.invariant r
    (chain_goes c.args.links (tree_of c.loop-alloc.filter) _ _ _ _ _ _ c.word.ensures test.value test.rest test.tests _ _ c.in_ok-right.ensures (subst P c.in_ok-filter-2.ensures h))

pub read_chain-returns : goal.read_chain-returns
read_chain-returns t c =
    let test = c.loop-alloc-test.ensures in
    c.loop-alloc.invariant _ (chain_ends c.args.links (tree_of c.loop-alloc.filter) _ _ _ _ _ _ c.word.ensures test.value test.rest test.tests)

pub read_not-returns-then-level-ge-MAX_LEVELS : goal.read_not-returns-then-level-ge-MAX_LEVELS
read_not-returns-then-level-ge-MAX_LEVELS t c = deep_not _ _ _ _ c.if-level-ge-MAX_LEVELS.true

pub read_not-returns-in_err-inner : goal.read_not-returns-in_err-inner
read_not-returns-in_err-inner t c =
    let few : c.args.level < 64 = omega (arith, c.if-level-ge-MAX_LEVELS.false) in
    let p = err_from_is_err_and c.from_residual.result c.from_residual.ensures.1 in
    rw (p.1, p.2) (if_halted _ _ c.in_err-inner.field-0.0 (λ at fault d. negates _ _ _ _ (bad at fault) few d) c.in_err-inner.ensures)

pub read_not-returns : goal.read_not-returns
read_not-returns t c =
    let few : c.args.level < 64 = omega (arith, c.if-level-ge-MAX_LEVELS.false) in
    negation_read (tree_of c.in_ok-inner.inner) _ _ _ _ _ _ _ few c.in_ok-negation.ensures c.in_ok-inner.ensures

pub read_operand-returns-in-Or : goal.read_operand-returns-in-Or
read_operand-returns-in-Or t c = answers_of _ _ _ c.read_chain.new.self c.read_chain.result (or_operand c.args.links _ _ _ c.in-Or.is) c.read_chain.ensures

pub read_operand-returns-in-And : goal.read_operand-returns-in-And
read_operand-returns-in-And t c = answers_of _ _ _ c.read_unary.new.self c.read_unary.result (and_operand c.args.links _ _ _ c.in-And.is) c.read_unary.ensures

pub read_parentheses-returns-then-level-ge-MAX_LEVELS : goal.read_parentheses-returns-then-level-ge-MAX_LEVELS
read_parentheses-returns-then-level-ge-MAX_LEVELS t c = deep_open _ _ _ _ c.if-level-ge-MAX_LEVELS.true

pub read_parentheses-returns-in_err-inner : goal.read_parentheses-returns-in_err-inner
read_parentheses-returns-in_err-inner t c =
    let few : c.args.level < 64 = omega (arith, c.if-level-ge-MAX_LEVELS.false) in
    let p = err_from_is_err_and c.from_residual.result c.from_residual.ensures.1 in
    rw (p.1, p.2) (if_halted _ _ c.in_err-inner.field-0.0 (λ at fault d. encloses _ _ _ _ (bad at fault) (bad at fault) few d refl) c.in_err-inner.ensures)

pub read_parentheses-returns-in_err-close : goal.read_parentheses-returns-in_err-close
read_parentheses-returns-in_err-close t c =
    let few : c.args.level < 64 = omega (arith, c.if-level-ge-MAX_LEVELS.false) in
    let p = err_from_is_err_and c.from_residual-in_err-close.result c.from_residual-in_err-close.ensures.1 in
    rw (p.1, p.2) (if_halted _ _ c.in_err-close.field-0.0 (not_closed (tree_of c.in_ok-inner.inner) _ _ _ _ _ _ few c.in_ok-inner.ensures) c.in_err-close.ensures.value)

pub read_parentheses-returns : goal.read_parentheses-returns
read_parentheses-returns t c =
    let few : c.args.level < 64 = omega (arith, c.if-level-ge-MAX_LEVELS.false) in
    closed_read (tree_of c.in_ok-inner.inner) _ _ _ _ _ _ _ _ few c.in_ok-close.ensures.tests c.in_ok-inner.ensures c.in_ok-close.ensures.value

pub read_unary-returns-in-Not : goal.read_unary-returns-in-Not
read_unary-returns-in-Not t c =
    let next = c.in-Ok.ensures in
    let is = sym c.in-Not.is ∙ c.in_ok-begin_of-in-Ok.ensures in
    answers_of _ _ _ c.read_not.new.self c.read_not.result (unary_goes _ _ _ _ _ _ _ _ _ is next.value.1 next.tests next.value.0) c.read_not.ensures

pub read_unary-returns-in-Open : goal.read_unary-returns-in-Open
read_unary-returns-in-Open t c =
    let next = c.in-Ok.ensures in
    let is = sym c.in-Open.is ∙ c.in_ok-begin_of-in-Ok.ensures in
    answers_of _ _ _ c.read_parentheses.new.self c.read_parentheses.result (unary_goes _ _ _ _ _ _ _ _ _ is next.value.1 next.tests next.value.0) c.read_parentheses.ensures

pub read_unary-returns-in-Name : goal.read_unary-returns-in-Name
read_unary-returns-in-Name t c =
    let next = c.in-Ok.ensures in
    let is = sym c.in-Name.is ∙ c.in_ok-begin_of-in-Ok.ensures in
    answers_of _ _ _ c.read_test.new.self c.read_test.result (unary_goes _ _ _ _ _ _ _ _ _ is next.value.1 next.tests next.value.0) (c.read_test.ensures c.args.level)

pub read_unary-returns-in-Other : goal.read_unary-returns-in-Other
read_unary-returns-in-Other t c =
    let next = c.in-Ok.ensures in
    let is = sym c.in-Other.is ∙ c.in_ok-begin_of-in-Ok.ensures in
    if_expected _ _ c.expected.result c.expected.ensures (unary_goes _ _ _ _ _ _ _ _ _ is next.value.1 next.tests next.value.0 _ (other _ _ _ _))

pub read_unary-returns-in-Err : goal.read_unary-returns-in-Err
read_unary-returns-in-Err t c = unary_none _ _ _ _ _ c.in-Err.ensures.value.1 c.in-Err.ensures.value.0
