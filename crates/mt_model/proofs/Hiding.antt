-- Hidden properties change no limit, and without them the names still rise.
use Rattle.std.proofs.Common.{◌≡◌, ℕ, ◌+◌, ◌≤◌, Bool, true, false, not, cond, List, [], ◌∷◌, refl, sym, subst, arith, Result, Ok, Err, OnOk, OnErr}
use Rattle.std.specs.Prelude.{filter, sum_by}
use Rattle.std.specs.Ordering.{nat_cmp}
use Rattle.std.specs.declared.cmp.Ordering.{Ordering}
use Rattle.std.specs.declared.cmp.Ordering.TheVariants.{Less, Equal, Greater}
use Rattle.std.specs.List.{list_any}
use Rattle.std.specs.List.Sorted.{IsStrictlySortedBy}
use Rattle.std.specs.Cmp.Lexicographic.{slice_cmp}
use Rattle.std.proofs.lemmas.List.Sums.{sum_by-cons}
use Rattle.std.proofs.lemmas.List.Filters.{sum_by-filter_both}
use Rattle.std.proofs.lemmas.List.Kept.{IsStrictlySortedBy-filter}
use Rattle.mt_model.specs.declared.value.Prop.{Prop}
use Rattle.mt_model.specs.declared.name.Hidden.{Hidden}
use Rattle.mt_model.specs.declared.name.Hidden.TheVariants.{Kind, Tag}
use Rattle.mt_model.specs.Name.{is_hidden}
use Rattle.mt_model.specs.Props.{IsProps, names, is_visible, too_large_at, visible_prop_size, hidden_prop}
use Rattle.mt_model.specs.Merge.{put_by, put_prop}
use Rattle.mt_model.proofs.Merging.{RisingNames-put, none-put, or_false}

-- a property that is put in adds at most its own
sum-put_by : (f : Prop → ℕ) (o : Ordering) (p q : Prop) (qs further : List Prop) → sum_by f further ≤ f p + sum_by f qs
    → sum_by f (put_by o p q qs further) ≤ f p + sum_by f (q ∷ qs)
sum-put_by f Less p q qs further h = omega (arith, sum_by-cons f p (q ∷ qs))
sum-put_by f Equal p q qs further h = omega (arith, sum_by-cons f p qs, sum_by-cons f q qs)
sum-put_by f Greater p q qs further h = omega (arith, sum_by-cons f q further, sum_by-cons f q qs)

sum-put : (f : Prop → ℕ) (p : Prop) (qs : List Prop) → sum_by f (put_prop p qs) ≤ f p + sum_by f qs
sum-put f p [] = omega (arith, sum_by-cons f p [])
sum-put f p (q ∷ qs) = sum-put_by f (slice_cmp nat_cmp p.name q.name) p q qs (put_prop p qs) (sum-put f p qs)

-- no client sees it
pub unseen : (which : Hidden) (text : List ℕ) → is_visible (hidden_prop which text) ≡ false
unseen Kind text = refl
unseen Tag text = refl

pub IsProps-hidden : (which : Hidden) (text : List ℕ) (ps : List Prop) → IsProps ps → IsProps (put_prop (hidden_prop which text) ps)
IsProps-hidden which text ps h =
    let p : Prop = hidden_prop which text in
    let e : is_visible p ≡ false = unseen which text in
    let ones : Prop → ℕ = λ q. cond (is_visible q) 1 0 in
    let one : ones p ≡ 0 = rw e refl in
    let size : visible_prop_size p ≡ 0 = rw e refl in
    let small : too_large_at p ≡ false = rw e refl in
    record {
      rising = RisingNames-put p ps h.rising;
      few = omega (arith, sum-put ones p ps, one, h.few);
      small = none-put too_large_at p ps small h.small;
      fits = omega (arith, sum-put visible_prop_size p ps, size, h.fits);
    }

sum-filter : (t : Prop → Bool) (f : Prop → ℕ) (ps : List Prop) → sum_by f (filter t ps) ≤ sum_by f ps
sum-filter t f ps = omega (arith, sum_by-filter_both t (λ p. not (t p)) (λ p. refl) f ps)

any-cond : (t : Prop → Bool) (b : Bool) (p : Prop) (qs : List Prop) → t p ≡ false → list_any t qs ≡ false
    → list_any t (cond b (p ∷ qs) qs) ≡ false
any-cond t true p qs hp h = rw (hp, h) refl
any-cond t false p qs hp h = h

any-filter : (t v : Prop → Bool) (ps : List Prop) → list_any t ps ≡ false → list_any t (filter v ps) ≡ false
any-filter t v [] h = refl
any-filter t v (p ∷ ps) h =
    let parts = or_false (t p) (list_any t ps) h in
    any-cond t (v p) p (filter v ps) parts.0 (any-filter t v ps parts.1)

names-cond : (b : Bool) (p : Prop) (qs : List Prop) (ns : List (List ℕ)) → names qs ≡ ns → names (cond b (p ∷ qs) qs) ≡ cond b (p.name ∷ ns) ns
names-cond true p qs ns e = rw e refl
names-cond false p qs ns e = e

names-filter : (ps : List Prop) → names (filter is_visible ps) ≡ filter (λ n. not (is_hidden n)) (names ps)
names-filter [] = refl
names-filter (p ∷ ps) = names-cond (is_visible p) p (filter is_visible ps) (filter (λ n. not (is_hidden n)) (names ps)) (names-filter ps)

pub IsProps-visible : (ps : List Prop) → IsProps ps → IsProps (filter is_visible ps)
IsProps-visible ps h =
    let P : List (List ℕ) → Type 0 = λ ns. IsStrictlySortedBy (slice_cmp nat_cmp) ns in
    record {
      rising = subst P (sym (names-filter ps)) (IsStrictlySortedBy-filter (slice_cmp nat_cmp) (λ n. not (is_hidden n)) (names ps) h.rising);
      few = omega (arith, sum-filter is_visible (λ p. cond (is_visible p) 1 0) ps, h.few);
      small = any-filter too_large_at is_visible ps h.small;
      fits = omega (arith, sum-filter is_visible visible_prop_size ps, h.fits);
    }

-- whether or not the property could be put in
pub IsProps-tried : {T E : Type 0} (r : Result T E) (p : Prop) (which : Hidden) (text : List ℕ) (olds news : List Prop) → p ≡ hidden_prop which text
    → OnOk r (news ≡ put_prop p olds) → OnErr r (news ≡ olds) → IsProps olds → IsProps news
IsProps-tried (Ok t) p which text olds news e done same h = rw (done, e) (IsProps-hidden which text olds h)
IsProps-tried (Err f) p which text olds news e done same h = rw same h
