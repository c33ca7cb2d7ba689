-- What a binary search finds among rising names, and what stands at that place.
use Rattle.std.proofs.Common.{◌≡◌, ℕ, zero, suc, ◌<◌, ◌≤◌, true, false, List, [], ◌∷◌, length, get_or, set, refl, sym, ap, ◌∙◌, arith, Some, None, Result, Ok, Err, IfOk, IfErr}
use Rattle.std.specs.Prelude.{bytes_eq, insert}
use Rattle.std.specs.Ordering.{nat_cmp, is_eq, ordering_reverse, ordering_index}
use Rattle.std.specs.declared.cmp.Ordering.{Ordering}
use Rattle.std.specs.declared.cmp.Ordering.TheVariants.{Less, Equal, Greater}
use Rattle.std.specs.List.{AllByRecursion}
use Rattle.std.specs.List.Sorted.{IsStrictlySortedBy, IsNonDecreasingBy, IsSearchInRange, IsBinarySearchResult}
use Rattle.std.specs.Cmp.Lexicographic.{slice_cmp, nat_list_cmp_total, texts_ties}
use Rattle.std.proofs.lemmas.Slice.Eq.{bytes_eq-Decides}
use Rattle.mt_model.specs.declared.value.Prop.{Prop}
use Rattle.mt_model.specs.Props.{names, RisingNames, value_at}
use Rattle.mt_model.specs.Merge.{put_prop}
use Rattle.mt_model.specs.Place.{StandsAt, IsGapFor}

abbrev pub cmp : List ℕ → List ℕ → Ordering
cmp = slice_cmp nat_cmp

-- a comparison turned round
pub turned : (x y : List ℕ) (o : Ordering) → cmp x y ≡ o → cmp y x ≡ ordering_reverse o
turned x y o e = nat_list_cmp_total.antisymm y x ∙ ap ordering_reverse e

index_le : (o r : Ordering) → (o ≡ Equal → r ≡ Greater) → (o ≡ Greater → r ≡ Greater) → ordering_index o ≤ ordering_index r
index_le Less r f g = omega arith
index_le Equal r f g = rw (f refl) (omega arith)
index_le Greater r f g = rw (g refl) (omega arith)

-- of two names that rise, the second compares no lower with any third
climbs : (x y n : List ℕ) → cmp x y ≡ Less → ordering_index (cmp x n) ≤ ordering_index (cmp y n)
climbs x y n up =
    index_le (cmp x n) (cmp y n)
    (λ e. turned n y Less (sym (nat_list_cmp_total.congr x n y e) ∙ up))
    (λ e. turned n y Less (nat_list_cmp_total.trans n x y (turned x n Greater e) up))

-- what holds of each name holds at each place
all_at : (P : List ℕ → Type 0) (ps : List Prop) → AllByRecursion P (names ps) → (j : ℕ) (d : Prop) → j < length ps → P (get_or ps j d).name
all_at P [] h j d inside = absurd (omega arith)
all_at P (p ∷ ps) h zero d inside = h.0
all_at P (p ∷ ps) h (suc j) d inside = all_at P ps h.1 j d (omega arith)

rises : (n : List ℕ) (ps : List Prop) → RisingNames ps → IsNonDecreasingBy (λ p. ordering_index (cmp p.name n)) ps
unfolding IsStrictlySortedBy
rises n [] up i j d le inside = absurd (omega arith)
rises n (p ∷ ps) up zero zero d le inside = omega arith
rises n (p ∷ ps) up zero (suc j) d le inside = climbs p.name (get_or ps j d).name n (all_at (λ y. cmp p.name y ≡ Less) ps up.0 j d (omega arith))
rises n (p ∷ ps) up (suc i) zero d le inside = absurd (omega arith)
rises n (p ∷ ps) up (suc i) (suc j) d le inside = rises n ps up.1 i j d (omega arith) (omega arith)

pub searched : (n : List ℕ) (ps : List Prop) → RisingNames ps → (r : Result ℕ ℕ) → IsSearchInRange r (length ps)
    → IsBinarySearchResult (λ p. cmp p.name n) ps r → record { found : IfOk r (StandsAt ps n); absent : IfErr r (IsGapFor ps n) }
searched n ps up (Ok at) within same = record { found = (within, same); absent = tt }
searched n ps up (Err at) within parted = record { found = tt; absent = (within, parted (rises n ps up)) }

-- a property before the one that has the name is below it
before : (p : Prop) (ps : List Prop) (n : List ℕ) (at : ℕ) → RisingNames (p ∷ ps) → StandsAt ps n at → cmp n p.name ≡ Greater
unfolding IsStrictlySortedBy
before p ps n at up h =
    let less : cmp p.name (get_or ps at p).name ≡ Less = all_at (λ y. cmp p.name y ≡ Less) ps up.0 at p h.0 in
    sym (nat_list_cmp_total.congr (get_or ps at p).name n p.name (h.1 p)) ∙ turned p.name (get_or ps at p).name Less less

pub put_at : (p : Prop) (qs : List Prop) (at : ℕ) → RisingNames qs → StandsAt qs p.name at → put_prop p qs ≡ set qs at p
unfolding IsStrictlySortedBy
put_at p [] at up h = absurd (omega (arith, h.0))
put_at p (q ∷ qs) zero up h = rw (turned q.name p.name Equal (h.1 q)) refl
put_at p (q ∷ qs) (suc at) up h =
    let later : StandsAt qs p.name at = (omega (arith, h.0), h.1) in
    rw (before q qs p.name at up later) (ap (λ (l : List Prop). q ∷ l) (put_at p qs at up.1 later))

pub put_gap : (p : Prop) (qs : List Prop) (at : ℕ) → IsGapFor qs p.name at → put_prop p qs ≡ insert qs at p
put_gap p [] zero h = refl
put_gap p [] (suc at) h = absurd (omega (arith, h.0))
put_gap p (q ∷ qs) zero h = rw (turned q.name p.name Greater (h.1.1 0 q (omega arith) (omega arith))) refl
put_gap p (q ∷ qs) (suc at) h =
    let later : IsGapFor qs p.name at = (omega (arith, h.0), (λ k d l r. h.1.0 (suc k) d (omega arith) (omega arith), λ k d l r. h.1.1 (suc k) d (omega arith) (omega arith))) in
    rw (turned q.name p.name Less (h.1.0 0 q (omega arith) (omega arith))) (ap (λ (l : List Prop). q ∷ l) (put_gap p qs at later))

-- two names that do not compare as equal are not equal
pub apart : (x y : List ℕ) (o : Ordering) → cmp x y ≡ o → is_eq o ≡ false → bytes_eq x y ≡ false
apart x y o e differs = texts_ties x y ∙ ap is_eq e ∙ differs

-- two names that compare as equal are equal
pub same_name : (x y : List ℕ) → cmp x y ≡ Equal → x ≡ y
same_name x y e = (bytes_eq-Decides x y).0 (texts_ties x y ∙ ap is_eq e)

pub value_found : (n : List ℕ) (ps : List Prop) (at : ℕ) (d : Prop) → RisingNames ps → StandsAt ps n at → value_at ps n ≡ Some (get_or ps at d).value
unfolding IsStrictlySortedBy
value_found n [] at d up h = absurd (omega (arith, h.0))
value_found n (p ∷ ps) zero d up h =
    let same : bytes_eq p.name n ≡ true = texts_ties p.name n ∙ ap is_eq (h.1 p) in
    rw same refl
value_found n (p ∷ ps) (suc at) d up h =
    let later : StandsAt ps n at = (omega (arith, h.0), h.1) in
    rw (apart p.name n Less (turned n p.name Greater (before p ps n at up later)) refl) (value_found n ps at d up.1 later)

pub value_absent : (n : List ℕ) (ps : List Prop) (at : ℕ) → IsGapFor ps n at → value_at ps n ≡ None
value_absent n [] at h = refl
value_absent n (p ∷ ps) zero h =
    let later : IsGapFor ps n zero = (omega arith, (λ k d l r. absurd (omega arith), λ k d l r. h.1.1 (suc k) d (omega arith) (omega arith))) in
    rw (apart p.name n Greater (h.1.1 0 p (omega arith) (omega arith)) refl) (value_absent n ps zero later)
value_absent n (p ∷ ps) (suc at) h =
    let later : IsGapFor ps n at = (omega (arith, h.0), (λ k d l r. h.1.0 (suc k) d (omega arith) (omega arith), λ k d l r. h.1.1 (suc k) d (omega arith) (omega arith))) in
    rw (apart p.name n Less (h.1.0 0 p (omega arith) (omega arith)) refl) (value_absent n ps at later)
