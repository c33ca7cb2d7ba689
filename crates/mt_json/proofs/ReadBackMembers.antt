-- What the members of an object give, one after the other, while members are put.
use Rattle.std.proofs.Common.{◌≡◌, ◌⊎◌, inl, inr, ℕ, Bool, true, false, ◌||◌, ◌&&◌, cond, List, [], ◌∷◌, ◌++◌, Option, Some, None, is_some, option_to_list, Result, Ok, Err, MatchResult, Ordering, Less, Equal, Greater, refl, sym, ap, ◌∙◌, subst, append-nil, append_assoc, true≢false}
use Rattle.std.specs.Ordering.{nat_cmp, match_ordering, is_lt, ordering_reverse}
use Rattle.std.specs.List.Sorted.{IsStrictlySortedBy}
use Rattle.std.specs.Cmp.Lexicographic.{slice_cmp, nat_list_cmp_total}
use Rattle.std.proofs.lemmas.Map.Lookups.{exact_bytes}
use Rattle.serde_json.specs.Data.{Data, Members, no_members, member, put}
use Rattle.serde_json.specs.Find.{as_str}
use Rattle.mt_model.specs.declared.value.Prop.{Prop}
use Rattle.mt_model.specs.Props.{names}
use Rattle.mt_json.specs.declared.kind.Kind.{Kind}
use Rattle.mt_json.specs.declared.read.KeyUse.{KeyUse}
use Rattle.mt_json.specs.declared.read.JsonFault.{JsonFault}
use Rattle.mt_json.specs.declared.read.JsonFault.TheVariants.{BadType}
use Rattle.mt_json.specs.Kind.{kind_in}
use Rattle.mt_json.specs.Body.{Gives, AllGive, gives_nothing, is_null, is_ignored, is_key, is_in_target}
use Rattle.mt_json.proofs.RisingLaws.{cmp, member_names, IsBelow, Rising}
use Rattle.mt_json.proofs.ReadBackFind.{below_trans}
use Rattle.mt_json.proofs.ReadBackGives.{gives_same}

-- each of these members of the object gives nothing or one of the properties, in their order
abbrev pub Collects : KeyUse → Data → Members → List Prop → Type 0
Collects keys top no_members ps = ps ≡ []
Collects keys top (member k d ms) ps =
    (given : Option Prop) × Gives keys (kind_in top k) k d (Ok given) × ((rest : List Prop) × Collects keys top ms rest × (ps ≡ option_to_list given ++ rest))

-- so they give the properties, and nothing else
pub collected : (keys : KeyUse) (top : Data) (acc : List Prop) (ms : Members) (r : Result (List Prop) JsonFault) (ps : List Prop) → AllGive keys top acc ms r
    → Collects keys top ms ps → r ≡ Ok (acc ++ ps)
collected keys top acc no_members r ps h c = h ∙ ap Ok (sym (append-nil acc)) ∙ ap (λ l. Ok (acc ++ l)) (sym c)
collected keys top acc (member k d ms) r ps (given, gives, rest) (p, holds, (qs, later, is)) =
    let same : given ≡ Ok p = gives_same keys (kind_in top k) k d given p gives holds in
    let more : AllGive keys top (acc ++ option_to_list p) ms r =
    subst (λ g. MatchResult g (λ p. AllGive keys top (acc ++ option_to_list p) ms r) (λ f. r ≡ Err f)) same rest in
    collected keys top (acc ++ option_to_list p) ms r qs more later
    ∙ ap Ok (append_assoc acc (option_to_list p) qs ∙ ap (λ l. acc ++ l) (sym is))

-- ---- a member that never gives a property

abbrev pub NeverGives : List ℕ → Type 0
NeverGives k = (is_ignored k ≡ true) ⊎ (is_key k ≡ true)

or_second : (a b c : Bool) → b ≡ true → (a || b || c) ≡ true
or_second true b c h = refl
or_second false b c h = rw h refl

key_faulty : (b : Bool) (name : List ℕ) (rest : Option JsonFault) → b ≡ true → cond b (Some (BadType name)) rest ≡ None → ⊥
key_faulty b name rest h e = true≢false (sym (ap is_some (sym e ∙ ap (λ b. cond b (Some (BadType name)) rest) h)))

never : (keys : KeyUse) (kind : Kind) (k : List ℕ) (d : Data) (p : Option Prop) → NeverGives k → Gives keys kind k d (Ok p) → p ≡ None
never keys kind k d None h gives = refl
never keys kind k d (Some p) (inl ignored) gives = absurd (true≢false (sym (or_second (is_null d) (is_ignored k) (is_key k && (is_in_target keys || is_some (as_str d))) ignored) ∙ gives.0))
never keys kind k d (Some p) (inr key) gives = absurd (key_faulty (is_key k) k _ key gives.1)

nothing-match : (o : Ordering) (keys : KeyUse) (top : Data) (k l : List ℕ) (d e : Data) (ms : Members) (ps : List Prop) → cmp k l ≡ o → NeverGives k
    → Gives keys (kind_in top k) k d (Ok None) → Collects keys top (member l e ms) ps
    → ((qs : List Prop) → Collects keys top ms qs → Collects keys top (put k d ms) qs)
    → Collects keys top (match_ordering o (member k d (member l e ms)) (member l d ms) (member l e (put k d ms))) ps
nothing-match Less keys top k l d e ms ps is never_k gives c further = (None, gives, (ps, c, refl))
nothing-match Equal keys top k l d e ms ps is never_k gives (given, holds, (rest, later, whole)) further =
    let same : k ≡ l = exact_bytes k l is in
    let none : given ≡ None = never keys (kind_in top l) l e given (subst NeverGives same never_k) holds in
    (None, subst (λ n. Gives keys (kind_in top n) n d (Ok None)) same gives, (rest, later, whole ∙ ap (λ g. option_to_list g ++ rest) none))
nothing-match Greater keys top k l d e ms ps is never_k gives (given, holds, (rest, later, whole)) further =
    (given, holds, (rest, further rest later, whole))

-- what the members give stays the same
pub put_nothing : (keys : KeyUse) (top : Data) (k : List ℕ) (d : Data) (ms : Members) (ps : List Prop) → NeverGives k → gives_nothing keys k d ≡ true
    → Collects keys top ms ps → Collects keys top (put k d ms) ps
put_nothing keys top k d no_members ps never_k gives c = (None, gives, (ps, c, refl))
put_nothing keys top k d (member l e ms) ps never_k gives c =
    nothing-match (slice_cmp nat_cmp k l) keys top k l d e ms ps refl never_k gives c (λ qs h. put_nothing keys top k d ms qs never_k gives h)

-- ---- a member that gives a property whose name is above those before

below_all : (k : List ℕ) (keys : KeyUse) (top : Data) (ms : Members) (ps : List Prop) → Collects keys top ms ps → IsBelow k (member_names ms) → IsBelow k (names ps)
below_all k keys top no_members ps c h = subst (λ l. IsBelow k (names l)) (sym c) tt
below_all k keys top (member l d ms) ps (None, gives, (rest, later, is)) h =
    subst (λ l. IsBelow k (names l)) (sym is) (below_all k keys top ms rest later h.1)
below_all k keys top (member l d ms) ps (Some p, gives, (rest, later, is)) h =
    let first : cmp k p.name ≡ Less = ap (cmp k) gives.2 ∙ h.0 in
    subst (λ l. IsBelow k (names l)) (sym is) (first, below_all k keys top ms rest later h.1)

-- the names are below this one
abbrev pub AreBelow : List Prop → List ℕ → Type 0
AreBelow [] k = Unit {0}
AreBelow (p ∷ ps) k = (cmp p.name k ≡ Less) × AreBelow ps k

pub turned : (j k : List ℕ) → cmp j k ≡ Less → cmp k j ≡ Less → ⊥
turned j k h e = true≢false (sym (ap is_lt (sym (nat_list_cmp_total.antisymm j k ∙ ap ordering_reverse e) ∙ h)))

none_between : (k : List ℕ) (ps : List Prop) → AreBelow ps k → IsBelow k (names ps) → ps ≡ []
none_between k [] below above = refl
none_between k (p ∷ ps) below above = absurd (turned p.name k below.0 above.0)

tail_below : (given : Option Prop) (rest : List Prop) (k : List ℕ) → AreBelow (option_to_list given ++ rest) k → AreBelow rest k
tail_below None rest k h = h
tail_below (Some p) rest k h = h.1

prop-match : (o : Ordering) (keys : KeyUse) (top : Data) (p : Prop) (l : List ℕ) (d e : Data) (ms : Members) (ps : List Prop) → cmp p.name l ≡ o
    → Gives keys (kind_in top p.name) p.name d (Ok (Some p)) → Rising (member_names (member l e ms)) → AreBelow ps p.name
    → Collects keys top (member l e ms) ps
    → ((qs : List Prop) → AreBelow qs p.name → Collects keys top ms qs → Collects keys top (put p.name d ms) (qs ++ p ∷ []))
    → Collects keys top (match_ordering o (member p.name d (member l e ms)) (member l d ms) (member l e (put p.name d ms))) (ps ++ p ∷ [])
unfolding IsStrictlySortedBy
prop-match Less keys top p l d e ms ps is gives up below c further =
    let above : IsBelow p.name (names ps) = below_all p.name keys top (member l e ms) ps c (is, below_trans p.name l (member_names ms) is up.0) in
    let none : ps ≡ [] = none_between p.name ps below above in
    (Some p, gives, (ps, c, ap (λ l. l ++ p ∷ []) none ∙ ap (λ l. p ∷ l) (sym none)))
prop-match Equal keys top p l d e ms ps is gives up below (None, holds, (rest, later, whole)) further =
    let same : p.name ≡ l = exact_bytes p.name l is in
    let above : IsBelow p.name (names rest) = below_all p.name keys top ms rest later (subst (λ n. IsBelow n (member_names ms)) (sym same) up.0) in
    let none : rest ≡ [] = none_between p.name rest (subst (λ l. AreBelow l p.name) whole below) above in
    (Some p, subst (λ n. Gives keys (kind_in top n) n d (Ok (Some p))) same gives, (rest, later, ap (λ l. l ++ p ∷ []) (whole ∙ none) ∙ ap (λ l. p ∷ l) (sym none)))
prop-match Equal keys top p l d e ms ps is gives up below (Some q, holds, (rest, later, whole)) further =
    let less : cmp q.name p.name ≡ Less = (subst (λ l. AreBelow l p.name) whole below).0 in
    let back : cmp p.name q.name ≡ Equal = ap (cmp p.name) holds.2 ∙ is in
    absurd (true≢false (sym (ap is_lt (sym (nat_list_cmp_total.antisymm q.name p.name ∙ ap ordering_reverse back) ∙ less))))
prop-match Greater keys top p l d e ms ps is gives up below (given, holds, (rest, later, whole)) further =
    let under : AreBelow rest p.name = tail_below given rest p.name (subst (λ l. AreBelow l p.name) whole below) in
    (given, holds, (rest ++ p ∷ [], further rest under later, ap (λ l. l ++ p ∷ []) whole ∙ append_assoc (option_to_list given) rest (p ∷ [])))

-- it comes after what the members give
pub put_prop : (keys : KeyUse) (top : Data) (p : Prop) (d : Data) (ms : Members) (ps : List Prop) → Gives keys (kind_in top p.name) p.name d (Ok (Some p))
    → Rising (member_names ms) → AreBelow ps p.name → Collects keys top ms ps → Collects keys top (put p.name d ms) (ps ++ p ∷ [])
unfolding IsStrictlySortedBy
put_prop keys top p d no_members ps gives up below c = (Some p, gives, ([], refl, ap (λ l. l ++ p ∷ []) c))
put_prop keys top p d (member l e ms) ps gives up below c =
    prop-match (slice_cmp nat_cmp p.name l) keys top p l d e ms ps refl gives up below c (λ qs under h. put_prop keys top p d ms qs gives up.1 under h)
