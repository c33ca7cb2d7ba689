-- An entity's text reads back as the entity's keys and visible properties.
use Rattle.std.proofs.Common.{◌≡◌, inl, inr, ℕ, Bool, true, false, not, ◌||◌, cond, List, [], ◌∷◌, codes, filter, nat_lt, position, Option, Some, None, option_map, option_and_then, unwrap_or, Result, Ok, Err, MatchOption, MatchResult, IsOkAnd, refl, sym, ap, ◌∙◌, subst, arith, true≢false}
use Rattle.std.specs.List.{AllByRecursion, list_any, position_or_len}
use Rattle.std.specs.Option.{option_or}
use Rattle.std.specs.Ordering.{is_eq}
use Rattle.std.specs.List.Sorted.{IsStrictlySortedBy}
use Rattle.std.proofs.lemmas.Bool.Decides.{nat_tests}
use Rattle.serde_json.specs.Data.{Data, string, object, Members, no_members, put}
use Rattle.serde_json.specs.Find.{get_member, as_str}
use Rattle.serde_json.specs.Read.{read}
use Rattle.mt_model.specs.Name.{is_plain_name, is_hidden}
use Rattle.mt_model.specs.Props.{IsProps, RisingNames, is_visible, first_repeat, count_fault, size_fault, visible_count, visible_size, too_large_at, props_fault}
use Rattle.mt_model.specs.Tag.{tag_text}
use Rattle.mt_model.specs.declared.entity.Entity.{Entity}
use Rattle.mt_model.specs.declared.key.KeyPart.{KeyPart}
use Rattle.mt_model.specs.declared.key.KeyPart.TheVariants.{Partition, Row}
use Rattle.mt_model.specs.declared.props.PropsFault.TheVariants.{DuplicateName, TooManyProperties, ValueTooLarge, EntityTooLarge}
use Rattle.mt_model.specs.declared.value.Prop.{Prop}
use Rattle.mt_model.proofs.Hiding.{IsProps-visible}
use Rattle.mt_model.proofs.Listed.{any_from_position}
use Rattle.mt_json.specs.declared.read.Body.{Body}
use Rattle.mt_json.specs.declared.read.JsonFault.{JsonFault}
use Rattle.mt_json.specs.declared.read.JsonFault.TheVariants as fault
use Rattle.mt_json.specs.declared.read.KeyUse.{KeyUse}
use Rattle.mt_json.specs.declared.read.KeyUse.TheVariants.{InBody, InTarget}
use Rattle.mt_json.specs.declared.write.Level.{Level}
use Rattle.mt_json.specs.declared.write.Level.TheVariants as level
use Rattle.mt_json.specs.Kind.{kind_of, type_key}
use Rattle.mt_json.specs.Body.{IsBody, Builds, MembersGive, GivesBody, missing_key, key_name, gives_nothing, key_text, is_key}
use Rattle.mt_json.specs.Written.{AddsProp, AddProps, put_keys, put_system, IsNamed, AreNamed, IsBodyOf, IsReadAs, IsRoundTrip, ReadsBack, own_key}
use Rattle.mt_json.proofs.RisingLaws.{no_repeat}
use Rattle.mt_json.proofs.ReadBackFind.{get_other, get_put, rising_put}
use Rattle.mt_json.proofs.ReadBackNames.{type_apart}
use Rattle.mt_json.proofs.ReadBackMembers.{collected, put_nothing}
use Rattle.mt_json.proofs.ReadBackProps.{IsSeen, Holds, HasTypes, HasKinds, holds_ignored, holds_props, has_types, all_fresh}
use Rattle.mt_json.proofs.ReadBackOrder.{one_order}

-- ---- the visible properties add all that is added

abbrev seen_list : List Prop → List Prop
seen_list ps = filter is_visible ps

adds-match : (b : Bool) (p : Prop) (ps : List Prop) (old between new : Members) → is_visible p ≡ b → AddsProp level.Minimal None p old between
    → AddProps level.Minimal None (seen_list ps) between new → AddProps level.Minimal None (cond b (p ∷ seen_list ps) (seen_list ps)) old new
adds-match true p ps old between new is first rest = (between, first, rest)
adds-match false p ps old between new is (inl h) rest = subst (λ ms. AddProps level.Minimal None (seen_list ps) ms new) h.1 rest
adds-match false p ps old between new is (inr h) rest = absurd (true≢false (sym h.0 ∙ rw is refl))

adds_visible : (ps : List Prop) (old new : Members) → AddProps level.Minimal None ps old new → AddProps level.Minimal None (seen_list ps) old new
adds_visible [] old new h = h
adds_visible (p ∷ ps) old new (between, first, rest) =
    adds-match (is_visible p) p ps old between new refl first (adds_visible ps between new rest)

plain_if : (plain hidden : Bool) → not hidden ≡ true → (plain || hidden) ≡ true → plain ≡ true
plain_if true hidden h k = refl
plain_if false true h k = absurd (true≢false (sym h))
plain_if false false h k = absurd (true≢false (sym k))

seen-match : (b : Bool) (p : Prop) (ps : List Prop) → is_visible p ≡ b → IsNamed p → AllByRecursion IsSeen (seen_list ps)
    → AllByRecursion IsSeen (cond b (p ∷ seen_list ps) (seen_list ps))
seen-match true p ps is named rest = ((is, (named.0, plain_if (is_plain_name p.name) (is_hidden p.name) is named.1)), rest)
seen-match false p ps is named rest = rest

all_seen : (ps : List Prop) → AreNamed ps → AllByRecursion IsSeen (seen_list ps)
all_seen [] h = tt
all_seen (p ∷ ps) h = seen-match (is_visible p) p ps refl h.0 (all_seen ps h.1)

-- ---- what the object gives

abbrev members_of : Entity → Members → Members
members_of e ms = put_system level.Minimal None e ms

type_found : (e : Entity) (ms : Members) (n : List ℕ) → get_member (type_key n) (members_of e ms) ≡ get_member (type_key n) ms
type_found e ms n =
    let pk = put (codes "PartitionKey") (string e.key.pk) ms in
    let rk = put (codes "RowKey") (string e.key.rk) pk in
    get_other (type_key n) (codes "odata.etag") (string (tag_text e.tag)) rk (type_apart n (codes "odata.etag") refl)
    ∙ get_other (type_key n) (codes "RowKey") (string e.key.rk) pk (type_apart n (codes "RowKey") refl)
    ∙ get_other (type_key n) (codes "PartitionKey") (string e.key.pk) ms (type_apart n (codes "PartitionKey") refl)

has_kinds : (e : Entity) (ms : Members) (ps : List Prop) → HasTypes ms ps → HasKinds (object (members_of e ms)) ps
has_kinds e ms [] h = tt
has_kinds e ms (p ∷ ps) h = (ap kind_of (type_found e ms p.name ∙ h.0), has_kinds e ms ps h.1)

pk_found : (e : Entity) (ms : Members) → get_member (codes "PartitionKey") (members_of e ms) ≡ Some (string e.key.pk)
pk_found e ms =
    let pk = put (codes "PartitionKey") (string e.key.pk) ms in
    get_other (codes "PartitionKey") (codes "odata.etag") (string (tag_text e.tag)) (put (codes "RowKey") (string e.key.rk) pk) (λ h. true≢false (sym (ap is_eq h)))
    ∙ get_other (codes "PartitionKey") (codes "RowKey") (string e.key.rk) pk (λ h. true≢false (sym (ap is_eq h)))
    ∙ get_put (codes "PartitionKey") (string e.key.pk) ms

rk_found : (e : Entity) (ms : Members) → get_member (codes "RowKey") (members_of e ms) ≡ Some (string e.key.rk)
rk_found e ms =
    let pk = put (codes "PartitionKey") (string e.key.pk) ms in
    get_other (codes "RowKey") (codes "odata.etag") (string (tag_text e.tag)) (put (codes "RowKey") (string e.key.rk) pk) (λ h. true≢false (sym (ap is_eq h)))
    ∙ get_put (codes "RowKey") (string e.key.rk) pk

key_given : (keys : KeyUse) (part : KeyPart) (text : List ℕ) → gives_nothing keys (key_name part) (string text) ≡ true
key_given InBody Partition text = refl
key_given InBody Row text = refl
key_given InTarget Partition text = refl
key_given InTarget Row text = refl

never_given : (part : KeyPart) → is_key (key_name part) ≡ true
never_given Partition = refl
never_given Row = refl

holds_key : (keys : KeyUse) (top : Data) (part : KeyPart) (text : List ℕ) (ms : Members) (ps : List Prop) → Holds keys top ms ps
    → Holds keys top (put (key_name part) (string text) ms) ps
holds_key keys top part text ms ps h = record {
  rising = rising_put (key_name part) (string text) ms h.rising;
  gives = put_nothing keys top (key_name part) (string text) ms ps (inr (never_given part)) (key_given keys part text) h.gives;
}

no_members_rise : (keys : KeyUse) (top : Data) → Holds keys top no_members []
unfolding IsStrictlySortedBy
no_members_rise keys top = record { rising = tt; gives = refl }

holds_object : (keys : KeyUse) (e : Entity) (ms : Members) (ps : List Prop) → AllByRecursion IsSeen ps → RisingNames ps
    → AddProps level.Minimal None ps no_members ms → Holds keys (object (members_of e ms)) (members_of e ms) ps
holds_object keys e ms ps seen up adds =
    let top = object (members_of e ms) in
    let kinds = has_kinds e ms ps (has_types ps no_members ms seen up adds (all_fresh ps)) in
    let given = holds_props keys top [] ps no_members ms seen kinds up adds (no_members_rise keys top) in
    let pk = holds_key keys top Partition e.key.pk ms ps given in
    let rk = holds_key keys top Row e.key.rk (put (key_name Partition) (string e.key.pk) ms) ps pk in
    holds_ignored keys top (codes "odata.etag") (string (tag_text e.tag)) (put_keys None e.key ms) ps refl rk

-- ---- properties that keep the rules have no fault

no_position : (ps : List Prop) → list_any too_large_at ps ≡ false → position too_large_at ps ≡ None
no_position ps h =
    ap (λ b. cond b (Some (position_or_len too_large_at ps)) None) (any_from_position too_large_at ps ∙ h)

none_of : (a b c d : _) → a ≡ None → b ≡ None → c ≡ None → d ≡ None
    → option_or (option_map DuplicateName a) (option_or b (option_or (option_map ValueTooLarge c) d)) ≡ None
none_of a b c d h i j k = rw (h, i, j, k) refl

no_props_fault : (ps : List Prop) → IsProps ps → props_fault ps ≡ None
no_props_fault ps h =
    let few : nat_lt 252 (visible_count ps) ≡ false = grind (arith, nat_tests, h.few) in
    let fits : nat_lt 1048576 (visible_size ps) ≡ false = grind (arith, nat_tests, h.fits) in
    none_of (first_repeat ps) (count_fault ps) (position too_large_at ps) (size_fault ps) (no_repeat [] 0 ps h.rising)
    (ap (λ b. cond b (Some TooManyProperties) None) few) (no_position ps h.small) (ap (λ b. cond b (Some EntityTooLarge) None) fits)

-- ---- the whole

own_pk : (keys : KeyUse) (e : Entity) (ms : Members) → key_text keys (object (members_of e ms)) Partition ≡ own_key keys e.key.pk
own_pk InBody e ms = ap (option_and_then as_str) (pk_found e ms)
own_pk InTarget e ms = refl

own_rk : (keys : KeyUse) (e : Entity) (ms : Members) → key_text keys (object (members_of e ms)) Row ≡ own_key keys e.key.rk
own_rk InBody e ms = ap (option_and_then as_str) (rk_found e ms)
own_rk InTarget e ms = refl

body_is : (keys : KeyUse) (e : Entity) (ms : Members) (body : Body) → IsProps (seen_list e.props)
    → IsBody keys (object (members_of e ms)) (seen_list e.props) body → IsBodyOf keys e body
body_is keys e ms body valid h = record {
  pk = h.pk ∙ own_pk keys e ms;
  rk = h.rk ∙ own_rk keys e ms;
  props = sym (one_order (seen_list e.props) body.props valid.rising h.kept.rising h.same);
}

ok_and : (r : Result Body JsonFault) (P Q : Body → Type 0) → ((b : Body) → P b → Q b) → IsOkAnd r P → IsOkAnd r Q
ok_and (Ok b) P Q f h = f b h
ok_and (Err e) P Q f h = absurd h

members_give : (keys : KeyUse) (e : Entity) (ms : Members) (r : Result Body JsonFault) → AreNamed e.props → IsProps e.props
    → AddProps level.Minimal None e.props no_members ms → MembersGive keys (object (members_of e ms)) (members_of e ms) r
    → IsOkAnd r (IsBodyOf keys e)
members_give keys e ms r named valid adds (given, all, rest) =
    let ps = seen_list e.props in
    let top = object (members_of e ms) in
    let kept = IsProps-visible e.props valid in
    let holds = holds_object keys e ms ps (all_seen e.props named) kept.rising (adds_visible e.props no_members ms adds) in
    let same : given ≡ Ok ps = collected keys top [] (members_of e ms) given ps all holds.gives in
    let builds : Builds keys top ps r = subst (λ g. MatchResult g (λ ps. Builds keys top ps r) (λ f. r ≡ Err f)) same rest in
    let built : IsOkAnd r (IsBody keys top ps) =
    subst (λ o. MatchOption o (IsOkAnd r (IsBody keys top ps)) (λ f. r ≡ Err (fault.Props f))) (no_props_fault ps kept) builds in
    ok_and r (IsBody keys top ps) (IsBodyOf keys e) (λ body h. body_is keys e ms body kept h) built

none_missing : (keys : KeyUse) (e : Entity) (ms : Members) → missing_key keys (object (members_of e ms)) ≡ None
none_missing InBody e ms = rw (pk_found e ms, rk_found e ms) refl
none_missing InTarget e ms = refl

object_gives : (keys : KeyUse) (e : Entity) (ms : Members) (r : Result Body JsonFault) → AreNamed e.props → IsProps e.props
    → AddProps level.Minimal None e.props no_members ms → GivesBody keys (object (members_of e ms)) r → IsOkAnd r (IsBodyOf keys e)
object_gives keys e ms r named valid adds h =
    let top = object (members_of e ms) in
    members_give keys e ms r named valid adds
    (subst (λ o. MatchOption o (MembersGive keys top (members_of e ms) r) (λ part. r ≡ Err (fault.MissingKey part))) (none_missing keys e ms) h)

same_data : (o : Option Data) (d f : Data) → o ≡ Some d → o ≡ Some f → f ≡ d
same_data o d f h k = ap (λ o. unwrap_or o d) (sym k ∙ h)

reads_back : (e : Entity) (text : List ℕ) → AreNamed e.props → IsProps e.props → IsReadAs e level.Minimal None text → ReadsBack e text
reads_back e text named valid (d, (ms, adds, is), reads) keys r (inl (none, fails)) = absurd (none d reads)
reads_back e text named valid (d, (ms, adds, is), reads) keys r (inr (f, others, gives)) =
    let same : f ≡ object (members_of e ms) = same_data (read text) d f reads.1 others.1 ∙ is in
    object_gives keys e ms r named valid adds (subst (λ d. GivesBody keys d r) same gives)

pub round_trip : (e : Entity) (l : Level) (chosen : Option (List (List ℕ))) (text : List ℕ) → AreNamed e.props → IsProps e.props
    → IsReadAs e l chosen text → IsRoundTrip e l chosen text
round_trip e l chosen text named valid reads minimal all =
    reads_back e text named valid (subst (λ c. IsReadAs e level.Minimal c text) all (subst (λ l. IsReadAs e l chosen text) minimal reads))
