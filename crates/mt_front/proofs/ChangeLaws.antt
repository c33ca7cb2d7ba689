-- What is change for, and that it can be tried.
use Rattle.std.proofs.Common.{◌≡◌, ℕ, ◌≤◌, false, List, Option, Some, None, Result, Ok, Err, IfOk, refl, sym, ap₂, subst}
use Rattle.std.specs.Prelude.{MatchOption, IsOkUnless}
use Rattle.std.specs.List.{list_any}
use Rattle.mt_model.specs.declared.value.Prop.{Prop}
use Rattle.mt_model.specs.declared.key.Key.{Key}
use Rattle.mt_model.specs.declared.key.KeyFault.{KeyFault}
use Rattle.mt_model.specs.declared.key.KeyFault.TheVariants as of_key
use Rattle.mt_model.specs.declared.text.NoMemory.{NoMemory}
use Rattle.mt_model.specs.Key.{key_fault}
use Rattle.mt_model.specs.Name.{is_hidden}
use Rattle.mt_model.specs.Props.{visible_size}
use Rattle.mt_chain.specs.declared.op.Cond.{Cond}
use Rattle.mt_chain.specs.declared.op.Op.{Op}
use Rattle.mt_chain.specs.Rows.{key_at}
use Rattle.mt_front.specs.declared.methods.Action.{Action}
use Rattle.mt_front.specs.declared.fields.IfMatch.{IfMatch}
use Rattle.mt_front.specs.declared.changes.Change.{Change}
use Rattle.mt_front.specs.declared.changes.Change.TheVariants.{Write, Refused}
use Rattle.mt_mime.specs.declared.forms.Echo.TheVariants.{Plain}
use Rattle.mt_front.specs.declared.refusals.BadRequest.{BadRequest}
use Rattle.mt_front.specs.Refused.{KeyedBy}
use Rattle.mt_front.specs.Changes.{MatchedBy, AsksAction, AsksEntity, CanTry, match_refusal, condition_of, put_op, merge_op}

-- ---- what may be tried

put_tries : (c : Option Cond) (key : Key) (props : List Prop) → key_fault key.pk key.rk ≡ None → list_any (λ p. is_hidden p.name) props ≡ false → visible_size props ≤ 1048576
    → CanTry (Write (put_op c key props) Plain)
put_tries None key props valid visible small = (record { key = valid; visible = visible }, tt, small)
put_tries (Some c) key props valid visible small = (record { key = valid; visible = visible }, tt, small)

merge_tries : (c : Option Cond) (key : Key) (props : List Prop) → key_fault key.pk key.rk ≡ None → list_any (λ p. is_hidden p.name) props ≡ false → visible_size props ≤ 1048576
    → CanTry (Write (merge_op c key props) Plain)
merge_tries None key props valid visible small = (record { key = valid; visible = visible }, tt, small)
merge_tries (Some c) key props valid visible small = (record { key = valid; visible = visible }, tt, small)

pub put_may : (op : Op) (c : Option Cond) (key : Key) (props : List Prop) → op ≡ put_op c key props
    → key_fault key.pk key.rk ≡ None → list_any (λ p. is_hidden p.name) props ≡ false → visible_size props ≤ 1048576 → CanTry (Write op Plain)
put_may op c key props is valid visible small = subst (λ op. CanTry (Write op Plain)) (sym is) (put_tries c key props valid visible small)

pub merge_may : (op : Op) (c : Option Cond) (key : Key) (props : List Prop) → op ≡ merge_op c key props
    → key_fault key.pk key.rk ≡ None → list_any (λ p. is_hidden p.name) props ≡ false → visible_size props ≤ 1048576 → CanTry (Write op Plain)
merge_may op c key props is valid visible small = subst (λ op. CanTry (Write op Plain)) (sym is) (merge_tries c key props valid visible small)

-- ---- what is change for

matched : (o : Option BadRequest) (then : Type 0) (change : Change) → o ≡ None → then → MatchedBy o then change
matched None then change none h = h
matched (Some r) then change none h = absurd (cc)

keyed : (o : Option KeyFault) (then : Type 0) (change : Change) → o ≡ None → then → KeyedBy Refused o then change
keyed None then change none h = h
keyed (Some f) then change none h = absurd (cc)

-- a key was read, so it is without fault
no_fault : (o : Option KeyFault) (key : Key) → MatchOption o (IsOkUnless {T = Key} (Ok key) of_key.NoMemory) (λ f. ◌≡◌ {A = Result Key KeyFault} (Ok key) (Err f)) → o ≡ None
no_fault None key h = refl
no_fault (Some f) key h = absurd (cc)

pub entity_asks : (action : Action) (m : IfMatch) (pk rk bytes : List ℕ) (key : Key) (r : Result Change NoMemory) → match_refusal action m ≡ None
    → MatchOption (key_fault pk rk) (IsOkUnless {T = Key} (Ok key) of_key.NoMemory) (λ f. ◌≡◌ {A = Result Key KeyFault} (Ok key) (Err f)) → key.pk ≡ pk → key.rk ≡ rk
    → IfOk r (AsksAction action (condition_of m) key bytes) → IfOk r (AsksEntity action pk rk m bytes)
entity_asks action m pk rk bytes key (Ok change) readable answers pk_is rk_is h =
    let same : key ≡ key_at pk rk = ap₂ key_at pk_is rk_is in
    let then = AsksAction action (condition_of m) (key_at pk rk) bytes change in
    matched (match_refusal action m) (KeyedBy Refused (key_fault pk rk) then change) change readable
    (keyed (key_fault pk rk) then change (no_fault (key_fault pk rk) key answers) (subst (λ k. AsksAction action (condition_of m) k bytes change) same h))
entity_asks action m pk rk bytes key (Err e) readable answers pk_is rk_is h = tt
