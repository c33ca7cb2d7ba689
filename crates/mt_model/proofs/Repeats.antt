-- One more name seen.
use Rattle.std.proofs.Common.{◌≡◌, ℕ, ◌+◌, ◌<◌, Bool, true, false, cond, ◌||◌, not, List, [], ◌∷◌, length, get_or, take, drop, refl, sym, ◌∙◌}
use Rattle.std.specs.Prelude.{bytes_eq}
use Rattle.std.specs.Ordering.{nat_cmp, is_eq}
use Rattle.std.specs.Cmp.Lexicographic.{slice_cmp, texts_ties, nat_list_eq_equiv}
use Rattle.std.proofs.lemmas.List.{take_more}
use Rattle.std.proofs.lemmas.List.Folds.{list_any-append}
use Rattle.std.proofs.Math.Seq.{drop-cons}
use Rattle.std.proofs.Math.Numerals.{add-one}
use Rattle.mt_model.specs.declared.value.Prop.{Prop}
use Rattle.mt_model.specs.Props.{repeats, first_repeat_after}

either : (b was t : Bool) → t ≡ b → cond b true was ≡ (was || (t || false))
either true true t e = refl
either true false t e = rw e refl
either false true t e = refl
either false false t e = rw e refl

pub seen_step : (ps : List Prop) (i : ℕ) (p : Prop) (n : List ℕ) (was now : Bool) → i < length ps → p ≡ get_or ps i p
    → now ≡ cond (is_eq (slice_cmp nat_cmp p.name n)) true was → was ≡ repeats n (take i ps) → now ≡ repeats n (take (i + 1) ps)
seen_step ps i p n was now h e step old =
    let same : bytes_eq n p.name ≡ is_eq (slice_cmp nat_cmp p.name n) = nat_list_eq_equiv.symm n p.name ∙ texts_ties p.name n in
    let more : repeats n (take (i + 1) ps) ≡ (repeats n (take i ps) || (bytes_eq n p.name || false)) =
    rw (take_more ps i p h, ← e) (list_any-append (λ (q : Prop). bytes_eq n q.name) (take i ps) (p ∷ [])) in
    step ∙ (rw old (either (is_eq (slice_cmp nat_cmp p.name n)) (repeats n (take i ps)) (bytes_eq n p.name) same)) ∙ sym more

pub left_step : (ps : List Prop) (i : ℕ) (p : Prop) → i < length ps → p ≡ get_or ps i p → repeats p.name (take i ps) ≡ false
    → first_repeat_after (take (i + 1) ps) (i + 1) (drop (i + 1) ps) ≡ first_repeat_after (take i ps) i (drop i ps)
left_step ps i p h e none = rw (take_more ps i p h, drop-cons ps i p h, ← e, none, add-one) refl

pub not_true : (b : Bool) → not b ≡ true → b ≡ false
not_true true e = cc
not_true false e = refl
