-- Sums over merged properties, without merging them.
use Rattle.std.proofs.Common.{◌≡◌, ℕ, ◌+◌, Bool, true, false, cond, not, ◌&&◌, ◌||◌, List, [], ◌∷◌, refl, sym, ap, ap₂, ◌∙◌, arith, bytes_eq, nat_lt, Some, None, Option, option_map, is_some, filter, count_by, sum_by, Less, Equal, Greater, Ordering}
use Rattle.std.proofs.lemmas.List.Sums.{sum_by-cons}
use Rattle.std.specs.List.{find, AllByRecursion}
use Rattle.std.specs.Option.{option_or}
use Rattle.std.specs.List.Sorted.{IsStrictlySortedBy}
use Rattle.std.specs.Ordering.{nat_cmp, is_eq}
use Rattle.std.specs.Cmp.Lexicographic.{slice_cmp, nat_list_cmp_total, nat_list_eq_equiv, texts_ties}
use Rattle.mt_model.specs.declared.value.Prop.{Prop}
use Rattle.mt_model.specs.declared.props.PropsFault.TheVariants as prop
use Rattle.mt_model.specs.Value.{prop_size}
use Rattle.mt_model.specs.Props.{IsProps, names, RisingNames, is_visible, visible_count, visible_size, visible_prop_size, value_at}
use Rattle.mt_model.specs.Merge.{put_by, put_prop, merged}
use Rattle.mt_model.proofs.Merging.{RisingNames-put}
use Rattle.mt_model.proofs.Hiding.{IsProps-visible}
use Rattle.mt_chain.specs.declared.op.Cause.{Cause}
use Rattle.mt_chain.specs.declared.op.Cause.TheVariants.{TooManyProperties, EntityTooLarge}
use Rattle.mt_chain.specs.Effect.{limits_cause}
use Rattle.mt_chain.specs.Merges.{has_name, is_seen_beside, size_beside}

abbrev cmp : List ℕ → List ℕ → Ordering
cmp = slice_cmp nat_cmp

-- ---- sums by recursion

total : (Prop → ℕ) → List Prop → ℕ
total f [] = 0
total f (p ∷ ps) = f p + total f ps

total_is : (f : Prop → ℕ) (ps : List Prop) → sum_by f ps ≡ total f ps
unfolding total
total_is f [] = refl
total_is f (p ∷ ps) = sum_by-cons f p ps ∙ ap (λ n. f p + n) (total_is f ps)

total_same : (f g : Prop → ℕ) → ((p : Prop) → f p ≡ g p) → (ps : List Prop) → total f ps ≡ total g ps
unfolding total
total_same f g same [] = refl
total_same f g same (p ∷ ps) = (let one = same p in let rest = total_same f g same ps in omega (arith, one, rest))

-- ---- names

other_name : (x y : List ℕ) (o : Ordering) → cmp x y ≡ o → is_eq o ≡ false → bytes_eq x y ≡ false
other_name x y o e apart = texts_ties x y ∙ ap is_eq e ∙ apart

no_name : (name : List ℕ) (ps : List Prop) → AllByRecursion (λ y. cmp name y ≡ Less) (names ps) → has_name name ps ≡ false
no_name name [] above = refl
no_name name (p ∷ ps) above = rw (nat_list_eq_equiv.symm p.name name ∙ other_name name p.name Less above.0 refl) (no_name name ps above.1)

-- what a property counts but for those of that name
abbrev unless_named : List ℕ → (Prop → ℕ) → Prop → ℕ
unless_named name f p = cond (bytes_eq name p.name) 0 (f p)

none_named : (name : List ℕ) (f : Prop → ℕ) (ps : List Prop) → AllByRecursion (λ y. cmp name y ≡ Less) (names ps) → total (unless_named name f) ps ≡ total f ps
unfolding total
none_named name f [] above = refl
none_named name f (p ∷ ps) above =
    let one : unless_named name f p ≡ f p = ap (λ b. cond b 0 (f p)) (other_name name p.name Less above.0 refl) in
    let rest = none_named name f ps above.1 in
    omega (arith, one, rest)

equal_above : (x y : List ℕ) → cmp x y ≡ Equal → (ps : List Prop) → AllByRecursion (λ n. cmp y n ≡ Less) (names ps) → AllByRecursion (λ n. cmp x n ≡ Less) (names ps)
equal_above x y tie [] above = tt
equal_above x y tie (p ∷ ps) above = (nat_list_cmp_total.congr x y p.name tie ∙ above.0, equal_above x y tie ps above.1)

less_above : (x y : List ℕ) → cmp x y ≡ Less → (ps : List Prop) → AllByRecursion (λ n. cmp y n ≡ Less) (names ps) → AllByRecursion (λ n. cmp x n ≡ Less) (names ps)
less_above x y less [] above = tt
less_above x y less (p ∷ ps) above = (nat_list_cmp_total.trans x y p.name less above.0, less_above x y less ps above.1)

-- ---- one property is put

put_total : (f : Prop → ℕ) (o : Prop) (ps : List Prop) → RisingNames ps → total f (put_prop o ps) ≡ f o + total (unless_named o.name f) ps
unfolding total IsStrictlySortedBy
put_total f o [] up = refl
put_total f o (q ∷ qs) up = go (cmp o.name q.name) refl (put_total f o qs up.1) where
  go : (r : Ordering) → cmp o.name q.name ≡ r → total f (put_prop o qs) ≡ f o + total (unless_named o.name f) qs → total f (put_by r o q qs (put_prop o qs)) ≡ f o + total (unless_named o.name f) (q ∷ qs)
  go Less e rest =
      let same = none_named o.name f (q ∷ qs) (e, less_above o.name q.name e qs up.0) in
      omega (arith, same)
  go Equal e rest =
      let one : unless_named o.name f q ≡ 0 = ap (λ b. cond b 0 (f q)) (texts_ties o.name q.name ∙ ap is_eq e) in
      let same = none_named o.name f qs (equal_above o.name q.name e qs up.0) in
      omega (arith, one, same)
  go Greater e rest =
      let one : unless_named o.name f q ≡ f q = ap (λ b. cond b 0 (f q)) (other_name o.name q.name Greater e refl) in
      omega (arith, one, rest)

-- ---- all are put

abbrev beside : (Prop → ℕ) → List Prop → Prop → ℕ
beside f os p = cond (has_name p.name os) 0 (f p)

merged_total : (f : Prop → ℕ) (ps os : List Prop) → RisingNames ps → RisingNames os → total f (merged ps os) ≡ total f os + total (beside f os) ps
unfolding total IsStrictlySortedBy
merged_total f ps [] up over = (let same = total_same f (beside f []) (λ p. refl) ps in omega (arith, same))
merged_total f ps (o ∷ os) up over =
    let all = merged_total f (put_prop o ps) os (RisingNames-put o ps up) over.1 in
    let put = put_total (beside f os) o ps up in
    let one : beside f os o ≡ f o = ap (λ b. cond b 0 (f o)) (no_name o.name os over.0) in
    let rest = total_same (unless_named o.name (beside f os)) (beside f (o ∷ os)) (λ p. either (bytes_eq o.name p.name) (has_name p.name os) (f p)) ps in
    omega (arith, all, put, one, rest)
  where
    either : (a b : Bool) (n : ℕ) → cond a 0 (cond b 0 n) ≡ cond (a || b) 0 n
    either true b n = refl
    either false b n = refl

pub merged_sum : (f : Prop → ℕ) (ps os : List Prop) → RisingNames ps → RisingNames os → sum_by f (merged ps os) ≡ sum_by f os + sum_by (λ p. cond (has_name p.name os) 0 (f p)) ps
merged_sum f ps os up over =
    let all = merged_total f ps os up over in
    let whole = total_is f (merged ps os) in
    let first = total_is f os in
    let second = total_is (beside f os) ps in
    omega (arith, all, whole, first, second)

-- ---- what clients see

total_filter : (v : Prop → Bool) (f : Prop → ℕ) → ((p : Prop) → v p ≡ false → f p ≡ 0) → (ps : List Prop) → total f (filter v ps) ≡ total f ps
unfolding total
total_filter v f none [] = refl
total_filter v f none (p ∷ ps) = go (v p) refl (total_filter v f none ps) where
  go : (b : Bool) → v p ≡ b → total f (filter v ps) ≡ total f ps → total f (cond b (p ∷ filter v ps) (filter v ps)) ≡ f p + total f ps
  go true e rest = omega (arith, rest)
  go false e rest = (let one = none p e in omega (arith, rest, one))

-- hidden properties make no difference to what clients see of merged ones
seen_sum : (f : Prop → ℕ) → ((p : Prop) → is_visible p ≡ false → f p ≡ 0) → (ps os : List Prop) → IsProps ps → RisingNames os → sum_by f (merged (filter is_visible ps) os) ≡ sum_by f (merged ps os)
seen_sum f none ps os up over =
    let part = merged_total f (filter is_visible ps) os (IsProps-visible ps up).rising over in
    let all = merged_total f ps os up.rising over in
    let same = total_filter is_visible (beside f os) (λ p e. hidden (has_name p.name os) (f p) (none p e)) ps in
    let part_is = total_is f (merged (filter is_visible ps) os) in
    let all_is = total_is f (merged ps os) in
    omega (arith, part, all, same, part_is, all_is)
  where
    hidden : (b : Bool) (n : ℕ) → n ≡ 0 → cond b 0 n ≡ 0
    hidden true n e = refl
    hidden false n e = e

-- the cause where so many properties with so many bytes are seen
limits_by : ℕ → ℕ → Option Cause
limits_by count size = option_or (option_map (λ fault. TooManyProperties) (cond (nat_lt 252 count) (Some prop.TooManyProperties) None)) (option_map (λ fault. EntityTooLarge) (cond (nat_lt 1048576 size) (Some prop.EntityTooLarge) None))

pub limits_visible : (ps os : List Prop) → IsProps ps → IsProps os → limits_cause (merged (filter is_visible ps) os) ≡ limits_cause (merged ps os)
unfolding limits_by
limits_visible ps os up over =
    ap₂ limits_by
    (seen_sum (λ p. cond (is_visible p) 1 0) (λ p e. ap (λ b. cond b 1 0) e) ps os up over.rising)
    (seen_sum visible_prop_size (λ p e. ap (λ b. cond b (prop_size p) 0) e) ps os up over.rising)

-- ---- what the code counts

pub named_there : (ps : List Prop) (name : List ℕ) → is_some (value_at ps name) ≡ has_name name ps
named_there [] name = refl
named_there (p ∷ ps) name = elim (bytes_eq p.name name) as (λ b. is_some (option_map (λ (q : Prop). q.value) (cond b (Some p) (find (λ (q : Prop). bytes_eq q.name name) ps))) ≡ (b || has_name name ps)) [
  | true ↦ refl
  | false ↦ named_there ps name
]

pub count_merged : (ps os : List Prop) → IsProps ps → IsProps os → visible_count (merged ps os) ≡ visible_count os + count_by (is_seen_beside os) ps
count_merged ps os up over =
    merged_sum (λ p. cond (is_visible p) 1 0) ps os up.rising over.rising
    ∙ ap (λ n. visible_count os + n) (sums_same (λ p. beside (λ p. cond (is_visible p) 1 0) os p) (λ p. cond (is_seen_beside os p) 1 0) (λ p. both (has_name p.name os) (is_visible p)) ps)
  where
    both : (a b : Bool) → ◌≡◌ {A = ℕ} (cond a 0 (cond b 1 0)) (cond (b && not a) 1 0)
    both true true = refl
    both true false = refl
    both false true = refl
    both false false = refl

    sums_same : (f g : Prop → ℕ) → ((p : Prop) → f p ≡ g p) → (ps : List Prop) → sum_by f ps ≡ sum_by g ps
    sums_same f g same ps = total_is f ps ∙ total_same f g same ps ∙ sym (total_is g ps)

pub size_merged : (ps os : List Prop) → IsProps ps → IsProps os → visible_size (merged ps os) ≡ visible_size os + sum_by (size_beside os) ps
size_merged ps os up over = merged_sum visible_prop_size ps os up.rising over.rising
