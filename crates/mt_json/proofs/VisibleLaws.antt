-- Clients see each property of a body that was read.
use Rattle.std.proofs.Common.{◌≡◌, ◌⊎◌, inl, inr, ℕ, Bool, true, false, cond, List, [], ◌∷◌, ◌++◌, Option, Some, None, Result, Ok, Err, IfOk, refl, sym, ap, ◌∙◌, subst, append-nil, arith, true≢false, codes}
use Rattle.std.specs.Prelude.{bytes_eq, MatchOption}
use Rattle.std.specs.List.{list_any}
use Rattle.std.specs.Str.{chars}
use Rattle.std.proofs.lemmas.List.Folds.{list_any-append}
use Rattle.std.proofs.lemmas.List.Sorted.{list_any-IsPermutation}
use Rattle.std.proofs.lemmas.Slice.Eq.{bytes_eq-Decides}
use Rattle.unicode_ident.specs.Ident.{is_xid_start}
use Rattle.unicode_ident.proofs.IdentLemmas.{is_xid_start-ascii}
use Rattle.serde_json.specs.Data.{Data, null, boolean, number, string, array, object, Members, no_members, member}
use Rattle.mt_model.specs.declared.key.KeyPart.{KeyPart}
use Rattle.mt_model.specs.declared.props.PropsFault.{PropsFault}
use Rattle.mt_model.specs.declared.value.Prop.{Prop}
use Rattle.mt_model.specs.Name.{is_plain_name, is_hidden}
use Rattle.mt_model.specs.Props.{props_fault}
use Rattle.mt_json.specs.declared.read.Body.{Body}
use Rattle.mt_json.specs.declared.read.JsonFault.{JsonFault}
use Rattle.mt_json.specs.declared.read.JsonFault.TheVariants.{Double, BadName, BadType, MissingKey, Props, NoMemory}
use Rattle.mt_json.specs.declared.read.KeyUse.{KeyUse}
use Rattle.mt_json.specs.Kind.{kind_in, is_double}
use Rattle.mt_json.specs.Body.{is_key, AllGive, IsBody, MembersGive, missing_key, GivesBody}
use Rattle.mt_json.proofs.ReadBackNames.{or_none, false_unless}

-- ---- a name that a client may give is no hidden one

no_dollar : is_xid_start 36 ≡ false
no_dollar = is_xid_start-ascii 36 (omega arith)

not_kind : is_plain_name (codes "$kind") ≡ false
unfolding chars
not_kind = rw no_dollar refl

not_tag : is_plain_name (codes "$tag") ≡ false
unfolding chars
not_tag = rw no_dollar refl

not_this : (name this : List ℕ) → is_plain_name name ≡ true → is_plain_name this ≡ false → bytes_eq name this ≡ false
not_this name this plain other = false_unless (bytes_eq name this) (λ e. true≢false (sym plain ∙ ap is_plain_name ((bytes_eq-Decides name this).0 e) ∙ other))

seen_name : (name : List ℕ) → is_plain_name name ≡ true → is_hidden name ≡ false
seen_name name plain =
    or_none (bytes_eq name (codes "$kind")) (bytes_eq name (codes "$tag"))
    (not_this name (codes "$kind") plain not_kind) (not_this name (codes "$tag") plain not_tag)

-- ---- so it is with all that members give

-- no client is kept from seeing one of them
abbrev AreSeen : List Prop → Type 0
AreSeen ps = list_any (λ p. is_hidden p.name) ps ≡ false

plain_by : (key double plain : Bool) (f g h : JsonFault) → cond key (Some f) (cond double (Some g) (cond plain None (Some h))) ≡ None → plain ≡ true
plain_by true double plain f g h e = absurd (cc)
plain_by false true plain f g h e = absurd (cc)
plain_by false false true f g h e = refl
plain_by false false false f g h e = absurd (cc)

one_more : (ps : List Prop) (q : Prop) → AreSeen ps → is_hidden q.name ≡ false → AreSeen (ps ++ q ∷ [])
one_more ps q h e = list_any-append (λ (p : Prop). is_hidden p.name) ps (q ∷ []) ∙ rw (h, e) refl

all_seen : (keys : KeyUse) (top : Data) (ps : List Prop) (ms : Members) (qs : List Prop) → AreSeen ps → AllGive keys top ps ms (Ok qs) → AreSeen qs
all_seen keys top ps no_members qs h is = let same : qs ≡ ps = cc in subst AreSeen (sym same) h
all_seen keys top ps (member name d ms) qs h (Ok None, gives, rest) =
    all_seen keys top (ps ++ []) ms qs (subst AreSeen (sym (append-nil ps)) h) rest
all_seen keys top ps (member name d ms) qs h (Ok (Some q), gives, rest) =
    let plain = plain_by (is_key name) (is_double (kind_in top name) d) (is_plain_name name) (BadType name) (Double name) (BadName name) gives.1 in
    all_seen keys top (ps ++ q ∷ []) ms qs (one_more ps q h (ap is_hidden gives.2 ∙ seen_name name plain)) rest
all_seen keys top ps (member name d ms) qs h (Err f, gives, rest) = absurd (cc)

-- ---- and with a body

built : (keys : KeyUse) (top : Data) (ps : List Prop) (body : Body) (f : Option PropsFault)
    → MatchOption f (IsBody keys top ps body) (λ fault. ◌≡◌ {A = Result Body JsonFault} (Ok body) (Err (Props fault))) → IsBody keys top ps body
built keys top ps body None b = b
built keys top ps body (Some f) b = absurd (cc)

members_seen : (keys : KeyUse) (top : Data) (ms : Members) (body : Body) → MembersGive keys top ms (Ok body) → AreSeen body.props
members_seen keys top ms body (Ok ps, all, builds) =
    let is = built keys top ps body (props_fault ps) builds in
    sym (list_any-IsPermutation (λ (p : Prop). is_hidden p.name) ps body.props is.same) ∙ all_seen keys top [] ms ps refl all
members_seen keys top ms body (Err f, all, fault) = absurd (cc)

complete_seen : (keys : KeyUse) (top : Data) (ms : Members) (body : Body) (missing : Option KeyPart)
    → MatchOption missing (MembersGive keys top ms (Ok body)) (λ part. ◌≡◌ {A = Result Body JsonFault} (Ok body) (Err (MissingKey part))) → AreSeen body.props
complete_seen keys top ms body None gives = members_seen keys top ms body gives
complete_seen keys top ms body (Some part) gives = absurd (cc)

body_seen : (keys : KeyUse) (d : Data) (body : Body) → GivesBody keys d (Ok body) → AreSeen body.props
body_seen keys null body gives = absurd (cc)
body_seen keys (boolean b) body gives = absurd (cc)
body_seen keys (number n) body gives = absurd (cc)
body_seen keys (string s) body gives = absurd (cc)
body_seen keys (array ds) body gives = absurd (cc)
body_seen keys (object ms) body gives = complete_seen keys (object ms) ms body (missing_key keys (object ms)) gives

pub visible_body : (keys : KeyUse) (d : Data) (r : Result Body JsonFault) → GivesBody keys d r ⊎ (r ≡ Err NoMemory) → IfOk r (λ b. list_any (λ p. is_hidden p.name) b.props ≡ false)
visible_body keys d (Ok body) (inl gives) = body_seen keys d body gives
visible_body keys d (Ok body) (inr none) = absurd (cc)
visible_body keys d (Err f) h = tt
