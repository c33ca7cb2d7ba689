-- Options one after the other.
use Rattle.std.proofs.Common.{◌≡◌, ℕ, ◌+◌, ◌<◌, Bool, true, false, cond, ◌||◌, not, List, [], ◌∷◌, ◌++◌, length, get_or, take, drop, refl, sym, ap, ◌∙◌, append_assoc, subst}
use Rattle.std.specs.Prelude.{bytes_eq, map, Option, Some, None}
use Rattle.std.specs.Borrow.{Bor}
use Rattle.std.specs.Ordering.{nat_cmp, is_eq}
use Rattle.std.specs.Cmp.Lexicographic.{slice_cmp, texts_ties, nat_list_eq_equiv}
use Rattle.std.specs.List.{AllByRecursion, slice_split}
use Rattle.std.proofs.lemmas.List.{take_more}
use Rattle.std.proofs.lemmas.List.Folds.{list_any-append}
use Rattle.std.proofs.Math.Seq.{drop-cons}
use Rattle.std.proofs.Math.Numerals.{add-one}
use Rattle.mt_target.specs.declared.target.QueryOption.{QueryOption}
use Rattle.mt_target.specs.Options.{IsText, is_ampersand, option_in, FirstPiece, has_option, repeats_behind}

-- ---- names that stand twice

either : (b was t : Bool) → t ≡ b → cond b true was ≡ (was || (t || false))
either true true t e = refl
either true false t e = rw e refl
either false true t e = refl
either false false t e = rw e refl

pub seen_step : (os : List QueryOption) (i : ℕ) (o : QueryOption) (n : List ℕ) (was now : Bool) → i < length os → o ≡ get_or os i o
    → now ≡ cond (is_eq (slice_cmp nat_cmp o.name n)) true was → was ≡ has_option n (take i os) → now ≡ has_option n (take (i + 1) os)
seen_step os i o n was now h e step old =
    let same : bytes_eq n o.name ≡ is_eq (slice_cmp nat_cmp o.name n) = nat_list_eq_equiv.symm n o.name ∙ texts_ties o.name n in
    let more : has_option n (take (i + 1) os) ≡ (has_option n (take i os) || (bytes_eq n o.name || false)) =
    rw (take_more os i o h, ← e) (list_any-append (λ (q : QueryOption). bytes_eq n q.name) (take i os) (o ∷ [])) in
    step ∙ (rw old (either (is_eq (slice_cmp nat_cmp o.name n)) (has_option n (take i os)) (bytes_eq n o.name) same)) ∙ sym more

pub left_step : (os : List QueryOption) (i : ℕ) (o : QueryOption) → i < length os → o ≡ get_or os i o → has_option o.name (take i os) ≡ false
    → repeats_behind (take (i + 1) os) (drop (i + 1) os) ≡ repeats_behind (take i os) (drop i os)
left_step os i o h e none = rw (take_more os i o h, drop-cons os i o h, ← e, none, add-one) refl

pub not_true : (b : Bool) → not b ≡ true → b ≡ false
not_true true e = cc
not_true false e = refl

-- ---- texts

pub texts_more : (os : List QueryOption) (o : QueryOption) → AllByRecursion IsText os → IsText o → AllByRecursion IsText (os ++ o ∷ [])
texts_more [] o all is = (is, tt)
texts_more (p ∷ os) o all is = (all.0, texts_more os o all.1 is)

pub text_within : (os later : List QueryOption) (o : QueryOption) → AllByRecursion IsText (os ++ o ∷ later) → IsText o
text_within [] later o all = all.0
text_within (p ∷ os) later o all = text_within os later o all.1

-- the parts begin with that piece
pub first_of : (text piece : List ℕ) (o : Option (Bor (List ℕ))) → FirstPiece text piece o → (later : List (List ℕ)) × (slice_split is_ampersand text ≡ piece ∷ later)
first_of text piece None h = ([], h)
first_of text piece (Some behind) h = (slice_split is_ampersand behind.now, h.0)

pub text_here : (all piece rest : List ℕ) (given : List QueryOption) (o : Option (Bor (List ℕ))) → map option_in (slice_split is_ampersand all) ≡ given ++ map option_in (slice_split is_ampersand rest) → FirstPiece rest piece o
    → AllByRecursion IsText (map option_in (slice_split is_ampersand all)) → IsText (option_in piece)
text_here all piece rest given o same first h =
    let f = first_of rest piece o first in
    text_within given (map option_in f.0) (option_in piece) (subst (AllByRecursion IsText) (same ∙ ap (λ ps. given ++ map option_in ps) f.1) h)
