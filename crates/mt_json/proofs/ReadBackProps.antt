-- What the members that properties add give, where the type of each is known.
use Rattle.std.proofs.Common.{◌≡◌, inl, inr, ℕ, ℤ, pos, negsuc, Bool, true, false, ◌||◌, ◌&&◌, cond, List, [], ◌∷◌, ◌++◌, Option, Some, None, is_some, option_map, Ok, Less, refl, sym, ap, ◌∙◌, subst, append-nil, append_assoc, true≢false}
use Rattle.std.specs.Ordering.{is_eq, ordering_reverse}
use Rattle.std.specs.Cmp.Lexicographic.{nat_list_cmp_total}
use Rattle.std.specs.List.{AllByRecursion}
use Rattle.std.specs.List.Sorted.{IsStrictlySortedBy}
use Rattle.serde_json.specs.Data.{Data, string, Members, no_members, put}
use Rattle.serde_json.specs.Find.{get_member, as_str}
use Rattle.mt_model.specs.Name.{is_plain_name}
use Rattle.mt_model.specs.Props.{is_visible, names, RisingNames}
use Rattle.mt_model.specs.declared.value.Prop.{Prop}
use Rattle.mt_model.specs.declared.value.Value.{Value}
use Rattle.mt_model.specs.declared.value.Value.TheVariants.{Str, Binary, Bool as Boolean, Int32, Int64, Guid, Moment}
use Rattle.mt_json.specs.declared.kind.Kind.{Kind}
use Rattle.mt_json.specs.declared.read.JsonFault.{JsonFault}
use Rattle.mt_json.specs.declared.read.JsonFault.TheVariants as fault
use Rattle.mt_json.specs.declared.read.KeyUse.{KeyUse}
use Rattle.mt_json.specs.declared.write.Level.TheVariants as level
use Rattle.mt_json.specs.Kind.{kind_in, kind_of, is_double, type_key}
use Rattle.mt_json.specs.Value.{IsValue}
use Rattle.mt_json.specs.Body.{Gives, is_null, is_ignored, is_key, is_in_target}
use Rattle.mt_json.specs.Written.{type_name, Shows, IsReadBack, put_type, AddsProp, AddProps}
use Rattle.mt_json.proofs.RisingLaws.{cmp, member_names, Rising, IsBelow, at_seam}
use Rattle.mt_json.proofs.ReadBackFind.{Apart, apart_less, get_other, get_put, rising_put}
use Rattle.mt_json.proofs.ReadBackNames.{IsPlain, plain_ignored, plain_key, no_type_key, type_ignored, type_apart, types_apart}
use Rattle.mt_json.proofs.ReadBackMembers.{Collects, AreBelow, put_nothing, put_prop}

-- clients see the property, and may give its name
abbrev pub IsSeen : Prop → Type 0
IsSeen p = (is_visible p ≡ true) × IsPlain p.name

-- the type of a value
abbrev own_kind : Value → Kind
own_kind v = kind_of (option_map string (type_name v))

not_null : (v : Value) (d : Data) → Shows v d → is_null d ≡ false
not_null (Str text) d e = ap is_null e
not_null (Boolean b) d e = ap is_null e
not_null (Int32 z) d e = ap is_null e
not_null (Binary bytes) d e = ap is_null e
not_null (Int64 z) d e = ap is_null e
not_null (Guid bytes) d e = ap is_null e
not_null (Moment ticks) d h = ap is_null h.1

exact_int : (z : ℤ) (d : Data) → Shows (Int32 z) d → is_double (own_kind (Int32 z)) d ≡ false
exact_int (pos n) d e = ap (is_double (own_kind (Int32 (pos n)))) e
exact_int (negsuc n) d e = ap (is_double (own_kind (Int32 (negsuc n)))) e

not_double : (v : Value) (d : Data) → Shows v d → is_double (own_kind v) d ≡ false
not_double (Str text) d e = ap (is_double (own_kind (Str text))) e
not_double (Boolean b) d e = ap (is_double (own_kind (Boolean b))) e
not_double (Int32 z) d e = exact_int z d e
not_double (Binary bytes) d e = ap (is_double (own_kind (Binary bytes))) e
not_double (Int64 z) d e = ap (is_double (own_kind (Int64 z))) e
not_double (Guid bytes) d e = ap (is_double (own_kind (Guid bytes))) e
not_double (Moment ticks) d h = ap (is_double (own_kind (Moment ticks))) h.1

some_given : (null ignored key target text : Bool) → null ≡ false → ignored ≡ false → key ≡ false → (null || ignored || (key && (target || text))) ≡ false
some_given null ignored key target text a b c = rw (a, b, c) refl

no_fault : (key double plain : Bool) (x y z : JsonFault) → key ≡ false → double ≡ false → plain ≡ true
    → cond key (Some x) (cond double (Some y) (cond plain None (Some z))) ≡ None
no_fault key double plain x y z a b c = rw (a, b, c) refl

-- what is written for a property gives the property
gives_prop : (keys : KeyUse) (top : Data) (p : Prop) (d : Data) → IsSeen p → kind_in top p.name ≡ own_kind p.value → Shows p.value d → IsReadBack p.value d
    → Gives keys (kind_in top p.name) p.name d (Ok (Some p))
gives_prop keys top p d seen kind shows back =
    let key = plain_key p.name seen.1 in
    let double : is_double (kind_in top p.name) d ≡ false = ap (λ k. is_double k d) kind ∙ not_double p.value d shows in (
      some_given (is_null d) (is_ignored p.name) (is_key p.name) (is_in_target keys) (is_some (as_str d)) (not_null p.value d shows) (plain_ignored p.name seen.1) key,
      no_fault (is_key p.name) (is_double (kind_in top p.name) d) (is_plain_name p.name) (fault.BadType p.name) (fault.Double p.name) (fault.BadName p.name) key double seen.1.1,
      refl,
      subst (λ k. IsValue k d p.value) (sym kind) back,
    )

-- ---- one property

-- these members rise, and give the properties
pub record Holds (keys : KeyUse) (top : Data) (ms : Members) (ps : List Prop) : Type 0 where
  pub rising : Rising (member_names ms)
  pub gives : Collects keys top ms ps

or_true : (b c : Bool) → b ≡ true → (b || c) ≡ true
or_true b c h = rw h refl

ignored_given : (null ignored key : Bool) → ignored ≡ true → (null || ignored || key) ≡ true
ignored_given true ignored key h = refl
ignored_given false ignored key h = rw h refl

pub holds_ignored : (keys : KeyUse) (top : Data) (k : List ℕ) (d : Data) (ms : Members) (ps : List Prop) → is_ignored k ≡ true → Holds keys top ms ps → Holds keys top (put k d ms) ps
holds_ignored keys top k d ms ps h holds = record {
  rising = rising_put k d ms holds.rising;
  gives = put_nothing keys top k d ms ps (inl h) (ignored_given (is_null d) (is_ignored k) (is_key k && (is_in_target keys || is_some (as_str d))) h) holds.gives;
}

holds_type : (keys : KeyUse) (top : Data) (name : List ℕ) (type : Option (List ℕ)) (ms : Members) (ps : List Prop) → Holds keys top ms ps
    → Holds keys top (put_type level.Minimal name type ms) ps
holds_type keys top name None ms ps holds = holds
holds_type keys top name (Some type) ms ps holds = holds_ignored keys top (type_key name) (string type) ms ps (type_ignored name) holds

holds_prop : (keys : KeyUse) (top : Data) (p : Prop) (old new : Members) (ps : List Prop) → IsSeen p → kind_in top p.name ≡ own_kind p.value → AreBelow ps p.name
    → AddsProp level.Minimal None p old new → Holds keys top old ps → Holds keys top new (ps ++ p ∷ [])
holds_prop keys top p old new ps seen kind below (inl h) holds = absurd (true≢false (sym (ap (λ b. b && true) seen.0) ∙ h.0))
holds_prop keys top p old new ps seen kind below (inr (shown, (d, shows, back, is))) holds =
    let one : Holds keys top (put p.name d old) (ps ++ p ∷ []) = record {
      rising = rising_put p.name d old holds.rising;
      gives = put_prop keys top p d old ps (gives_prop keys top p d seen kind shows back) holds.rising below holds.gives;
    } in
    subst (λ ms. Holds keys top ms (ps ++ p ∷ [])) (sym is) (holds_type keys top p.name (type_name p.value) (put p.name d old) (ps ++ p ∷ []) one)

-- ---- all properties

all_below : (acc : List Prop) (p : Prop) (ps : List Prop) → RisingNames (acc ++ p ∷ ps) → AreBelow acc p.name
unfolding IsStrictlySortedBy
all_below [] p ps up = tt
all_below (a ∷ acc) p ps up = (at_seam a.name acc p ps up.0, all_below acc p ps up.1)

-- each property has its own type in the object
abbrev pub HasKinds : Data → List Prop → Type 0
HasKinds top ps = AllByRecursion (λ p. kind_in top p.name ≡ own_kind p.value) ps

pub holds_props : (keys : KeyUse) (top : Data) (acc ps : List Prop) (old new : Members) → AllByRecursion IsSeen ps → HasKinds top ps → RisingNames (acc ++ ps)
    → AddProps level.Minimal None ps old new → Holds keys top old acc → Holds keys top new (acc ++ ps)
holds_props keys top acc [] old new seen kinds up is holds =
    subst (λ ms. Holds keys top ms (acc ++ [])) (sym is) (subst (λ ps. Holds keys top old ps) (sym (append-nil acc)) holds)
holds_props keys top acc (p ∷ ps) old new seen kinds up (between, first, rest) holds =
    let whole = append_assoc acc (p ∷ []) ps in
    let one = holds_prop keys top p old between acc seen.0 kinds.0 (all_below acc p ps up) first holds in
    subst (λ l. Holds keys top new l) whole
    (holds_props keys top (acc ++ p ∷ []) ps between new seen.1 kinds.1 (subst RisingNames (sym whole) up) rest one)

-- ---- their types

type_put : (p : Prop) (d : Data) (old : Members) (type : Option (List ℕ)) → IsPlain p.name → get_member (type_key p.name) old ≡ None
    → get_member (type_key p.name) (put_type level.Minimal p.name type (put p.name d old)) ≡ option_map string type
type_put p d old None plain fresh = get_other (type_key p.name) p.name d old (type_apart p.name p.name (no_type_key p.name plain)) ∙ fresh
type_put p d old (Some type) plain fresh = get_put (type_key p.name) (string type) (put p.name d old)

type_kept : (n : List ℕ) (p : Prop) (d : Data) (old : Members) (type : Option (List ℕ)) → IsPlain p.name → Apart n p.name
    → get_member (type_key n) (put_type level.Minimal p.name type (put p.name d old)) ≡ get_member (type_key n) old
type_kept n p d old None plain apart = get_other (type_key n) p.name d old (type_apart n p.name (no_type_key p.name plain))
type_kept n p d old (Some type) plain apart =
    get_other (type_key n) (type_key p.name) (string type) (put p.name d old) (types_apart n p.name apart)
    ∙ get_other (type_key n) p.name d old (type_apart n p.name (no_type_key p.name plain))

-- the type keys of these names stay as they were
kept_one : (n : List ℕ) (p : Prop) (old new : Members) → IsSeen p → Apart n p.name → AddsProp level.Minimal None p old new
    → get_member (type_key n) new ≡ get_member (type_key n) old
kept_one n p old new seen apart (inl h) = ap (get_member (type_key n)) h.1
kept_one n p old new seen apart (inr (shown, (d, shows, back, is))) =
    ap (get_member (type_key n)) is ∙ type_kept n p d old (type_name p.value) seen.1 apart

kept_all : (n : List ℕ) (ps : List Prop) (old new : Members) → AllByRecursion IsSeen ps → IsBelow n (names ps) → AddProps level.Minimal None ps old new
    → get_member (type_key n) new ≡ get_member (type_key n) old
kept_all n [] old new seen below is = ap (get_member (type_key n)) is
kept_all n (p ∷ ps) old new seen below (between, first, rest) =
    kept_all n ps between new seen.1 below.1 rest ∙ kept_one n p old between seen.0 (apart_less n p.name below.0) first

-- none of the properties has a type key yet
abbrev pub IsFresh : Members → List Prop → Type 0
IsFresh ms ps = AllByRecursion (λ p. get_member (type_key p.name) ms ≡ None) ps

apart_more : (j k : List ℕ) → cmp k j ≡ Less → Apart j k
apart_more j k less e =
    true≢false (ap is_eq (sym e ∙ nat_list_cmp_total.antisymm j k ∙ ap ordering_reverse less))

fresh_later : (p : Prop) (qs : List Prop) (old new : Members) → IsSeen p → IsBelow p.name (names qs) → AddsProp level.Minimal None p old new
    → IsFresh old qs → IsFresh new qs
fresh_later p [] old new seen below adds fresh = tt
fresh_later p (q ∷ qs) old new seen below adds fresh = (
  kept_one q.name p old new seen (apart_more q.name p.name below.0) adds ∙ fresh.0,
  fresh_later p qs old new seen below.1 adds fresh.1,
)

type_added : (p : Prop) (old new : Members) → IsSeen p → AddsProp level.Minimal None p old new → get_member (type_key p.name) old ≡ None
    → get_member (type_key p.name) new ≡ option_map string (type_name p.value)
type_added p old new seen (inl h) fresh = absurd (true≢false (sym (ap (λ b. b && true) seen.0) ∙ h.0))
type_added p old new seen (inr (shown, (d, shows, back, is))) fresh =
    ap (get_member (type_key p.name)) is ∙ type_put p d old (type_name p.value) seen.1 fresh

-- each property has its type key there, where its value needs one
abbrev pub HasTypes : Members → List Prop → Type 0
HasTypes ms ps = AllByRecursion (λ p. get_member (type_key p.name) ms ≡ option_map string (type_name p.value)) ps

pub has_types : (ps : List Prop) (old new : Members) → AllByRecursion IsSeen ps → RisingNames ps → AddProps level.Minimal None ps old new
    → IsFresh old ps → HasTypes new ps
unfolding IsStrictlySortedBy
has_types [] old new seen up adds fresh = tt
has_types (p ∷ ps) old new seen up (between, first, rest) fresh = (
  kept_all p.name ps between new seen.1 up.0 rest ∙ type_added p old between seen.0 first fresh.0,
  has_types ps between new seen.1 up.1 rest (fresh_later p ps old between seen.0 up.0 first fresh.1),
)

pub all_fresh : (ps : List Prop) → IsFresh no_members ps
all_fresh [] = tt
all_fresh (p ∷ ps) = (refl, all_fresh ps)
