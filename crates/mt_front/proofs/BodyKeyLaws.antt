-- A body that was read with its keys in it has both.
use Rattle.std.proofs.Common.{◌≡◌, ◌⊎◌, inl, inr, ℕ, Bool, true, false, cond, List, [], Option, Some, None, Result, Ok, Err, Ordering, Less, Equal, Greater, refl, sym, ap, ◌∙◌, subst}
use Rattle.std.specs.Prelude.{is_some, option_map, option_and_then, unwrap_or, MatchOption}
use Rattle.std.specs.Option.{option_or}
use Rattle.std.specs.Ordering.{nat_cmp, match_ordering, is_eq}
use Rattle.std.specs.Cmp.Lexicographic.{slice_cmp, texts_ties}
use Rattle.serde_json.specs.Data.{Data, null, boolean, number, string, array, object, Members, no_members, member}
use Rattle.serde_json.specs.Find.{get_member, as_str}
use Rattle.mt_model.specs.declared.key.KeyPart.{KeyPart}
use Rattle.mt_model.specs.declared.key.KeyPart.TheVariants.{Partition, Row}
use Rattle.mt_model.specs.declared.value.Prop.{Prop}
use Rattle.mt_model.specs.declared.props.PropsFault.{PropsFault}
use Rattle.mt_model.specs.Props.{props_fault}
use Rattle.mt_chain.proofs.KeyLaws.{text_true}
use Rattle.mt_json.specs.declared.read.Body.{Body}
use Rattle.mt_json.specs.declared.read.JsonFault.{JsonFault}
use Rattle.mt_json.specs.declared.read.JsonFault.TheVariants.{BadType, MissingKey, Props, NoMemory}
use Rattle.mt_json.specs.declared.read.KeyUse.TheVariants.{InBody}
use Rattle.mt_json.specs.Kind.{kind_in}
use Rattle.mt_json.specs.Body.{key_name, is_key, is_ignored, is_null, gives_nothing, early_fault, Gives, AllGive, missing_part, missing_key, key_text, IsBody, MembersGive, GivesBody, ReadsAs}
use Rattle.mt_front.specs.Changes.{BodyHasKeys}

same_name : (a b : List ℕ) → slice_cmp nat_cmp a b ≡ Equal → a ≡ b
same_name a b e = text_true a b (texts_ties a b ∙ ap is_eq e)

-- what a member gives in a list of which all give properties
abbrev Given : Data → List ℕ → Data → Type 0
Given top name d = (p : Option Prop) × Gives InBody (kind_in top name) name d (Ok p)

one_given : (top : Data) (name : List ℕ) (ps : List Prop) (d : Data) (ms : Members) (r : List Prop) → AllGive InBody top ps (member name d ms) (Ok r) → Given top name d × ((qs : List Prop) × AllGive InBody top qs ms (Ok r))
one_given top name ps d ms r (Ok p, gives, rest) = ((p, gives), (_, rest))
one_given top name ps d ms r (Err f, gives, rest) = absurd (cc)

found_by : (o : Ordering) (top : Data) (name l : List ℕ) (d e : Data) (later : Option Data) → slice_cmp nat_cmp name l ≡ o → match_ordering o later (Some e) later ≡ Some d → Given top l e → (later ≡ Some d → Given top name d) → Given top name d
found_by Less top name l d e later is found here there = there found
found_by Equal top name l d e later is found here there =
    let same : e ≡ d = cc in
    subst (λ n. Given top n d) (sym (same_name name l is)) (subst (Given top l) same here)
found_by Greater top name l d e later is found here there = there found

member_given : (top : Data) (name : List ℕ) (ps : List Prop) (ms : Members) (r : List Prop) (d : Data) → get_member name ms ≡ Some d → AllGive InBody top ps ms (Ok r) → Given top name d
member_given top name ps no_members r d found all = absurd (let h : ◌≡◌ {A = Option Data} None (Some d) = found in cc)
member_given top name ps (member l e ms) r d found all =
    let first = one_given top l ps e ms r all in
    found_by (slice_cmp nat_cmp name l) top name l d e (get_member name ms) refl found first.0 (λ later. member_given top name first.1.0 ms r d later first.1.1)

-- a key that gives no fault is a text
text_by : (top : Data) (name : List ℕ) (d : Data) (p : Option Prop) → is_key name ≡ true → is_ignored name ≡ false → is_null d ≡ false → Gives InBody (kind_in top name) name d (Ok p) → is_some (as_str d) ≡ true
text_by top name d None key ignored here gives =
    let same : gives_nothing InBody name d ≡ is_some (as_str d) = rw (here, ignored, key) refl in
    sym same ∙ gives
text_by top name d (Some p) key ignored here gives =
    let early : early_fault (kind_in top name) name d ≡ Some (BadType name) = rw key refl in
    let none : early_fault (kind_in top name) name d ≡ None = gives.1 in
    absurd (cc)

some_text : (o : Option (List ℕ)) → is_some o ≡ true → (text : List ℕ) × (o ≡ Some text)
some_text None e = absurd (let h : false ≡ true = e in cc)
some_text (Some text) e = (text, refl)

key_is : (part : KeyPart) → is_key (key_name part) ≡ true
key_is Partition = refl
key_is Row = refl

not_ignored : (part : KeyPart) → is_ignored (key_name part) ≡ false
not_ignored Partition = refl
not_ignored Row = refl

-- a part that is not missed
there : (part : KeyPart) (found : Option Data) → cond (unwrap_or (option_map is_null found) true) (Some part) None ≡ None → (d : Data) × (found ≡ Some d) × (is_null d ≡ false)
there part None e = absurd (let h : Some part ≡ None = e in cc)
there part (Some d) e = (d, refl, not_missed part (is_null d) e)
  where
    not_missed : (part : KeyPart) (b : Bool) → cond b (Some part) None ≡ None → b ≡ false
    not_missed part true e = absurd (cc)
    not_missed part false e = refl

key_there : (part : KeyPart) (ms : Members) (ps : List Prop) → missing_part (object ms) part ≡ None → AllGive InBody (object ms) [] ms (Ok ps) → (text : List ℕ) × (key_text InBody (object ms) part ≡ Some text)
key_there part ms ps here all =
    let found = there part (get_member (key_name part) ms) here in
    let d = found.0 in
    let given = member_given (object ms) (key_name part) [] ms ps d found.1 all in
    let text = some_text (as_str d) (text_by (object ms) (key_name part) d given.0 (key_is part) (not_ignored part) found.2 given.1) in
    (text.0, ap (option_and_then as_str) found.1 ∙ text.1)

neither : (a b : Option KeyPart) → option_or a b ≡ None → (a ≡ None) × (b ≡ None)
neither None b e = (refl, e)
neither (Some x) b e = absurd (cc)

built : (ms : Members) (ps : List Prop) (body : Body) (f : Option PropsFault) → MatchOption f (IsBody InBody (object ms) ps body) (λ fault. ◌≡◌ {A = Result Body JsonFault} (Ok body) (Err (Props fault))) → IsBody InBody (object ms) ps body
built ms ps body None b = b
built ms ps body (Some f) b = absurd (cc)

keys_given : (ms : Members) (body : Body) → missing_key InBody (object ms) ≡ None → MembersGive InBody (object ms) ms (Ok body) → (pk : List ℕ) × (rk : List ℕ) × BodyHasKeys body pk rk
keys_given ms body none (Ok ps, all, builds) =
    let here = neither (missing_part (object ms) Partition) (missing_part (object ms) Row) none in
    let is = built ms ps body (props_fault ps) builds in
    let pk = key_there Partition ms ps here.0 all in
    let rk = key_there Row ms ps here.1 all in
    (pk.0, rk.0, record { pk_is = is.pk ∙ pk.1; rk_is = is.rk ∙ rk.1 })
keys_given ms body none (Err f, all, fault) = absurd (cc)

missing_by : (ms : Members) (body : Body) (m : Option KeyPart) → missing_key InBody (object ms) ≡ m
    → MatchOption m (MembersGive InBody (object ms) ms (Ok body)) (λ part. ◌≡◌ {A = Result Body JsonFault} (Ok body) (Err (MissingKey part))) → (pk : List ℕ) × (rk : List ℕ) × BodyHasKeys body pk rk
missing_by ms body None is gives = keys_given ms body is gives
missing_by ms body (Some part) is gives = absurd (cc)

body_keys : (d : Data) (body : Body) → GivesBody InBody d (Ok body) → (pk : List ℕ) × (rk : List ℕ) × BodyHasKeys body pk rk
body_keys null body gives = absurd (cc)
body_keys (boolean b) body gives = absurd (cc)
body_keys (number n) body gives = absurd (cc)
body_keys (string s) body gives = absurd (cc)
body_keys (array ds) body gives = absurd (cc)
body_keys (object ms) body gives = missing_by ms body (missing_key InBody (object ms)) refl gives

-- the texts of both keys are in the body
pub has_keys : (bytes : List ℕ) (body : Body) → ReadsAs InBody bytes (Ok body) → (pk : List ℕ) × (rk : List ℕ) × BodyHasKeys body pk rk
has_keys bytes body (inl n) = absurd (let h = n.1 in cc)
has_keys bytes body (inr (d, reads, gives)) = body_keys d body gives

pub read_keys : (bytes : List ℕ) (body : Body) → ReadsAs InBody bytes (Ok body) ⊎ (◌≡◌ {A = Result Body JsonFault} (Ok body) (Err NoMemory)) → (pk : List ℕ) × (rk : List ℕ) × BodyHasKeys body pk rk
read_keys bytes body (inl reads) = has_keys bytes body reads
read_keys bytes body (inr none) = absurd (cc)
