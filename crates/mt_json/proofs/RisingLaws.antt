-- Properties from the members of an object have rising names, so no name is repeated.
use Rattle.std.proofs.Common.{◌≡◌, ◌⊎◌, inl, inr, ℕ, ◌+◌, Bool, true, false, cond, List, [], ◌∷◌, ◌++◌, map, Option, Some, None, option_map, unwrap_or, Result, Ok, Err, Ordering, Less, refl, sym, ap, ◌∙◌, subst, append-nil, append_assoc, true≢false}
use Rattle.std.specs.Prelude.{String, string_bytes, bytes_eq, nat_lt, position, MatchOption, IsOkUnless}
use Rattle.std.specs.List.{AllByRecursion}
use Rattle.std.specs.List.Sorted.{IsStrictlySortedBy}
use Rattle.std.specs.Option.{option_or}
use Rattle.std.specs.Ordering.{nat_cmp, is_eq, ordering_reverse}
use Rattle.std.specs.Cmp.Lexicographic.{slice_cmp, nat_list_cmp_total}
use Rattle.std.specs.declared.alloc.Global.{Global}
use Rattle.std.proofs.lemmas.Map.Text.{is_eq-slice_cmp}
use Rattle.serde_json.specs.Data.{Data, Members, no_members, member}
use Rattle.serde_json.specs.View.{members_view}
use Rattle.serde_json.specs.declared.value.Value.{Value}
use Rattle.mt_model.specs.declared.props.PropsFault.{PropsFault}
use Rattle.mt_model.specs.declared.props.PropsFault.TheVariants.{DuplicateName, TooManyProperties, ValueTooLarge, EntityTooLarge, NoMemory}
use Rattle.mt_model.specs.declared.value.Prop.{Prop}
use Rattle.mt_model.specs.Props.{RisingNames, names, repeats, first_repeat, first_repeat_after, visible_count, visible_size, count_fault, size_fault, props_fault, too_large_at}
use Rattle.mt_json.specs.declared.read.KeyUse.{KeyUse}
use Rattle.mt_json.specs.declared.read.JsonFault.{JsonFault}
use Rattle.mt_json.specs.declared.read.JsonFault.TheVariants as fault
use Rattle.mt_json.specs.Body.{AllGive, is_repeat}

abbrev pub cmp : List ℕ → List ℕ → Ordering
cmp = slice_cmp nat_cmp

abbrev pub member_names : Members → List (List ℕ)
member_names no_members = []
member_names (member k d ms) = k ∷ member_names ms

-- the name is below all of these
abbrev pub IsBelow : List ℕ → List (List ℕ) → Type 0
IsBelow k ns = AllByRecursion (λ n. cmp k n ≡ Less) ns

abbrev pub Rising : List (List ℕ) → Type 0
Rising ns = IsStrictlySortedBy (slice_cmp nat_cmp) ns

abbrev Entry : Type 0
Entry = String Global × Value

abbrev string_order : String Global → String Global → Ordering
string_order a b = slice_cmp nat_cmp (string_bytes a) (string_bytes b)

below_view : (k : String Global) (es : List Entry) → AllByRecursion (λ s. string_order k s ≡ Less) (map (λ e. e.0) es)
    → IsBelow (string_bytes k) (member_names (members_view es))
below_view k [] h = tt
below_view k (e ∷ es) h = (h.0, below_view k es h.1)

-- the members of a map rise
rising_view : (es : List Entry) → IsStrictlySortedBy string_order (map (λ e. e.0) es) → Rising (member_names (members_view es))
unfolding IsStrictlySortedBy
rising_view [] h = tt
rising_view (e ∷ es) h = (below_view e.0 es h.0, rising_view es h.1)

ok_or_empty : Result (List Prop) JsonFault → List Prop
ok_or_empty (Ok ps) = ps
ok_or_empty (Err f) = []

abbrev is_given : Result (List Prop) JsonFault → Bool
is_given (Ok ps) = true
is_given (Err f) = false

-- what these members give after the properties acc: more of them, which rise, and lie above what lies below the members
abbrev pub GivesMore : List Prop → Members → List Prop → Type 0
GivesMore acc ms ps =
    (more : List Prop) × (ps ≡ acc ++ more) × RisingNames more
    × ((k : List ℕ) → IsBelow k (member_names ms) → IsBelow k (names more))

pub more_of : (keys : KeyUse) (top : Data) (acc : List Prop) (ms : Members) (ps : List Prop) → AllGive keys top acc ms (Ok ps)
    → Rising (member_names ms) → GivesMore acc ms ps
unfolding IsStrictlySortedBy ok_or_empty
more_of keys top acc no_members ps is rising = ([], ap ok_or_empty is ∙ sym (append-nil acc), tt, λ k h. tt)
more_of keys top acc (member name d ms) ps (Ok None, gives, rest) rising =
    let (more, is, up, above) = more_of keys top (acc ++ []) ms ps rest rising.1 in
    (more, is ∙ ap (λ l. l ++ more) (append-nil acc), up, λ k h. above k h.1)
more_of keys top acc (member name d ms) ps (Ok (Some q), gives, rest) rising =
    let (more, is, up, above) = more_of keys top (acc ++ q ∷ []) ms ps rest rising.1 in
    let named : name ≡ q.name = sym gives.2 in (
      q ∷ more,
      is ∙ append_assoc acc (q ∷ []) more,
      (subst (λ n. IsBelow n (names more)) named (above name rising.0), up),
      λ k h. (subst (λ n. cmp k n ≡ Less) named h.0, above k h.1),
    )
more_of keys top acc (member name d ms) ps (Err f, gives, rest) rising = absurd (true≢false (ap is_given rest))

pub rising_given : (keys : KeyUse) (top : Data) (es : List Entry) (ps : List Prop) → IsStrictlySortedBy string_order (map (λ e. e.0) es)
    → AllGive keys top [] (members_view es) (Ok ps) → RisingNames ps
rising_given keys top es ps ordered gives =
    let (more, is, up, above) = more_of keys top [] (members_view es) ps gives (rising_view es ordered) in
    subst RisingNames (sym is) up

-- ---- rising names are not repeated

pub at_seam : (k : List ℕ) (es : List Prop) (p : Prop) (ps : List Prop) → IsBelow k (names (es ++ p ∷ ps)) → cmp k p.name ≡ Less
at_seam k [] p ps h = h.0
at_seam k (e ∷ es) p ps h = at_seam k es p ps h.1

apart : (a b : List ℕ) → cmp a b ≡ Less → bytes_eq b a ≡ false
apart a b less = sym (is_eq-slice_cmp b a) ∙ ap is_eq (nat_list_cmp_total.antisymm b a ∙ ap ordering_reverse less)

not_before : (es : List Prop) (p : Prop) (ps : List Prop) → RisingNames (es ++ p ∷ ps) → repeats p.name es ≡ false
unfolding IsStrictlySortedBy
not_before [] p ps h = refl
not_before (e ∷ es) p ps h = rw (apart e.name p.name (at_seam e.name es p ps h.0), not_before es p ps h.1)

pub no_repeat : (earlier : List Prop) (at : ℕ) (ps : List Prop) → RisingNames (earlier ++ ps) → first_repeat_after earlier at ps ≡ None
no_repeat earlier at [] h = refl
no_repeat earlier at (p ∷ ps) h =
    ap (λ b. cond b (Some at) (first_repeat_after (earlier ++ p ∷ []) (at + 1) ps)) (not_before earlier p ps h)
    ∙ no_repeat (earlier ++ p ∷ []) (at + 1) ps (subst RisingNames (sym (append_assoc earlier (p ∷ []) ps)) h)

-- ---- so the fault is another one

abbrev is_double_name : PropsFault → Bool
is_double_name (DuplicateName at) = true
is_double_name _ = false

fault_in : Result (List Prop) PropsFault → PropsFault
fault_in (Ok ps) = NoMemory
fault_in (Err f) = f

-- no repeated name is told
abbrev Other : Option PropsFault → Type 0
Other o = unwrap_or (option_map is_double_name o) false ≡ false

other_or : (a b : Option PropsFault) → Other a → Other b → Other (option_or a b)
other_or None b h k = k
other_or (Some f) b h k = h

other_many : (b : Bool) → Other (cond b (Some TooManyProperties) None)
other_many true = refl
other_many false = refl

other_large : (b : Bool) → Other (cond b (Some EntityTooLarge) None)
other_large true = refl
other_large false = refl

other_value : (o : Option ℕ) → Other (option_map ValueTooLarge o)
other_value None = refl
other_value (Some at) = refl

other_repeat : (o : Option ℕ) → o ≡ None → Other (option_map DuplicateName o)
other_repeat o is = ap (λ o. unwrap_or (option_map is_double_name (option_map DuplicateName o)) false) is

told_by : (f : PropsFault) → is_repeat (fault.Props f) ≡ is_double_name f
told_by (DuplicateName at) = refl
told_by TooManyProperties = refl
told_by (ValueTooLarge at) = refl
told_by EntityTooLarge = refl
told_by _ = refl

-- what `Props::build` says of its result
abbrev Told : Option PropsFault → Result (List Prop) PropsFault → Type 0
Told o r = MatchOption o (IsOkUnless r NoMemory) (λ g. (r ≡ Err g) ⊎ (r ≡ Err NoMemory))

other_told : (o : Option PropsFault) (f : PropsFault) → Told o (Err f) → Other o → is_repeat (fault.Props f) ≡ false
unfolding fault_in
other_told None f h other = ap (λ f. is_repeat (fault.Props f)) h
other_told (Some g) f (inl e) other = told_by f ∙ ap is_double_name (ap fault_in e) ∙ other
other_told (Some g) f (inr e) other = ap (λ f. is_repeat (fault.Props f)) (ap fault_in e)

pub other_fault : (ps : List Prop) (f : PropsFault) → RisingNames ps
    → Told (props_fault ps) (Err f) → is_repeat (fault.Props f) ≡ false
other_fault ps f rising h =
    let value = option_map ValueTooLarge (position too_large_at ps) in
    let last = other_or value (size_fault ps) (other_value (position too_large_at ps)) (other_large (nat_lt 1048576 (visible_size ps))) in
    let later = other_or (count_fault ps) (option_or value (size_fault ps)) (other_many (nat_lt 252 (visible_count ps))) last in
    let other : Other (props_fault ps) =
    other_or (option_map DuplicateName (first_repeat ps)) (option_or (count_fault ps) (option_or value (size_fault ps)))
    (other_repeat (first_repeat ps) (no_repeat [] 0 ps rising)) later in
    other_told (props_fault ps) f h other
