-- What is found among members after one more is put, and in what order they stand.
use Rattle.std.proofs.Common.{◌≡◌, List, [], ◌∷◌, ℕ, Option, Some, Ordering, Less, Equal, Greater, refl, ap, ◌∙◌, sym, subst}
use Rattle.std.specs.Ordering.{nat_cmp, match_ordering, ordering_reverse}
use Rattle.std.specs.List.Sorted.{IsStrictlySortedBy}
use Rattle.std.specs.Cmp.Lexicographic.{slice_cmp, nat_list_cmp_total}
use Rattle.std.proofs.lemmas.Map.Lookups.{exact_bytes}
use Rattle.serde_json.specs.Data.{Data, Members, no_members, member, put}
use Rattle.serde_json.specs.Find.{get_member}
use Rattle.mt_json.proofs.RisingLaws.{cmp, member_names, IsBelow, Rising}

-- the names differ
abbrev pub Apart : List ℕ → List ℕ → Type 0
Apart j k = cmp j k ≡ Equal → ⊥

itself : (o : Ordering) → o ≡ ordering_reverse o → o ≡ Equal
itself Less e = e ∙ sym e ∙ cc
itself Equal e = refl
itself Greater e = cc

pub same_name : (k : List ℕ) → cmp k k ≡ Equal
same_name k = itself (slice_cmp nat_cmp k k) (nat_list_cmp_total.antisymm k k)

pub apart_from : (j k : List ℕ) → (j ≡ k → ⊥) → Apart j k
apart_from j k h e = h (exact_bytes j k e)

pub apart_less : (j k : List ℕ) → cmp j k ≡ Less → Apart j k
apart_less j k less e = let none : Less ≡ Equal = sym less ∙ e in cc

passed : (o : Ordering) (e : Data) (r : Option Data) → (o ≡ Equal → ⊥) → match_ordering o r (Some e) r ≡ r
passed Less e r h = refl
passed Equal e r h = absurd (h refl)
passed Greater e r h = refl

here : (o : Ordering) (e : Data) (r : Option Data) → o ≡ Equal → match_ordering o r (Some e) r ≡ Some e
here o e r is = rw is refl

-- ---- what is found

other-match : (o : Ordering) (j k l : List ℕ) (d e : Data) (ms : Members) → cmp k l ≡ o → Apart j k → get_member j (put k d ms) ≡ get_member j ms
    → get_member j (match_ordering o (member k d (member l e ms)) (member l d ms) (member l e (put k d ms))) ≡ get_member j (member l e ms)
other-match Less j k l d e ms is apart rest = passed (slice_cmp nat_cmp j k) d (get_member j (member l e ms)) apart
other-match Equal j k l d e ms is apart rest =
    let far : Apart j l = subst (λ n. Apart j n) (exact_bytes k l is) apart in
    passed (slice_cmp nat_cmp j l) d (get_member j ms) far ∙ sym (passed (slice_cmp nat_cmp j l) e (get_member j ms) far)
other-match Greater j k l d e ms is apart rest = ap (λ r. match_ordering (slice_cmp nat_cmp j l) r (Some e) r) rest

-- at another name, what was there
pub get_other : (j k : List ℕ) (d : Data) (ms : Members) → Apart j k → get_member j (put k d ms) ≡ get_member j ms
get_other j k d no_members apart = passed (slice_cmp nat_cmp j k) d (get_member j no_members) apart
get_other j k d (member l e ms) apart = other-match (slice_cmp nat_cmp k l) j k l d e ms refl apart (get_other j k d ms apart)

put-match : (o : Ordering) (k l : List ℕ) (d e : Data) (ms : Members) → cmp k l ≡ o → get_member k (put k d ms) ≡ Some d
    → get_member k (match_ordering o (member k d (member l e ms)) (member l d ms) (member l e (put k d ms))) ≡ Some d
put-match Less k l d e ms is rest = here (slice_cmp nat_cmp k k) d (get_member k (member l e ms)) (same_name k)
put-match Equal k l d e ms is rest = here (slice_cmp nat_cmp k l) d (get_member k ms) is
put-match Greater k l d e ms is rest = ap (λ o. match_ordering o (get_member k (put k d ms)) (Some e) (get_member k (put k d ms))) is ∙ rest

-- at its name, what was put
pub get_put : (k : List ℕ) (d : Data) (ms : Members) → get_member k (put k d ms) ≡ Some d
get_put k d no_members = here (slice_cmp nat_cmp k k) d (get_member k no_members) (same_name k)
get_put k d (member l e ms) = put-match (slice_cmp nat_cmp k l) k l d e ms refl (get_put k d ms)

-- ---- in what order

below-match : (o : Ordering) (j k l : List ℕ) (d e : Data) (ms : Members) → cmp j k ≡ Less → IsBelow j (member_names (member l e ms))
    → IsBelow j (member_names (put k d ms))
    → IsBelow j (member_names (match_ordering o (member k d (member l e ms)) (member l d ms) (member l e (put k d ms))))
below-match Less j k l d e ms less below rest = (less, below)
below-match Equal j k l d e ms less below rest = below
below-match Greater j k l d e ms less below rest = (below.0, rest)

below_put : (j k : List ℕ) (d : Data) (ms : Members) → cmp j k ≡ Less → IsBelow j (member_names ms) → IsBelow j (member_names (put k d ms))
below_put j k d no_members less below = (less, tt)
below_put j k d (member l e ms) less below = below-match (slice_cmp nat_cmp k l) j k l d e ms less below (below_put j k d ms less below.1)

pub below_trans : (j k : List ℕ) (ns : List (List ℕ)) → cmp j k ≡ Less → IsBelow k ns → IsBelow j ns
below_trans j k [] less below = tt
below_trans j k (n ∷ ns) less below = (nat_list_cmp_total.trans j k n less below.0, below_trans j k ns less below.1)

rising-match : (o : Ordering) (k l : List ℕ) (d e : Data) (ms : Members) → cmp k l ≡ o → Rising (member_names (member l e ms))
    → Rising (member_names (put k d ms))
    → Rising (member_names (match_ordering o (member k d (member l e ms)) (member l d ms) (member l e (put k d ms))))
unfolding IsStrictlySortedBy
rising-match Less k l d e ms is up rest = ((is, below_trans k l (member_names ms) is up.0), up)
rising-match Equal k l d e ms is up rest = up
rising-match Greater k l d e ms is up rest =
    let less : cmp l k ≡ Less = nat_list_cmp_total.antisymm l k ∙ ap ordering_reverse is in
    (below_put l k d ms less up.0, rest)

-- the members still rise
pub rising_put : (k : List ℕ) (d : Data) (ms : Members) → Rising (member_names ms) → Rising (member_names (put k d ms))
unfolding IsStrictlySortedBy
rising_put k d no_members up = (tt, tt)
rising_put k d (member l e ms) up = rising-match (slice_cmp nat_cmp k l) k l d e ms refl up (rising_put k d ms up.1)
