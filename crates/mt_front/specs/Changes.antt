-- What a request that writes asks for: an operation on one row, or a refusal.
use Rattle.std.specs.Prelude.{◌≡◌, ℕ, ◌≤◌, List, Option, Some, None, Result, Ok, Err}
use Rattle.mt_model.specs.declared.key.Key.{Key}
use Rattle.mt_model.specs.declared.value.Prop.{Prop}
use Rattle.mt_model.specs.Key.{key_fault}
use Rattle.mt_model.specs.Props.{visible_size}
use Rattle.mt_json.specs.declared.read.Body.{Body}
use Rattle.mt_json.specs.declared.read.JsonFault.{JsonFault}
use Rattle.mt_json.specs.declared.read.KeyUse.TheVariants.{InBody, InTarget}
use Rattle.mt_json.specs.Body.{ReadsAs}
use Rattle.mt_chain.specs.declared.op.Cond.{Cond}
use Rattle.mt_chain.specs.declared.op.Cond.TheVariants as cond
use Rattle.mt_chain.specs.declared.op.Op.{Op}
use Rattle.mt_chain.specs.declared.op.Op.TheVariants as op
use Rattle.mt_chain.specs.Effect.{op_props}
use Rattle.mt_chain.specs.Rows.{key_at}
use Rattle.mt_rules.specs.Batches.{MayAsk}
use Rattle.mt_http_in.specs.declared.fields.Field.{Field}
use Rattle.mt_mime.specs.declared.forms.Echo.{Echo}
use Rattle.mt_mime.specs.declared.forms.Echo.TheVariants as echo
use Rattle.mt_mime.specs.Replies.{HasEcho}
use Rattle.mt_front.specs.declared.methods.Action.{Action}
use Rattle.mt_front.specs.declared.methods.Action.TheVariants.{Put, Merge, Delete}
use Rattle.mt_front.specs.declared.routes.RowWrite.{RowWrite}
use Rattle.mt_front.specs.declared.routes.RowWrite.TheVariants as row
use Rattle.mt_front.specs.declared.fields.IfMatch.{IfMatch}
use Rattle.mt_front.specs.declared.fields.IfMatch.TheVariants as match
use Rattle.mt_front.specs.Fields.{IsMatch, insert_echo}
use Rattle.mt_front.specs.declared.refusals.BadRequest.{BadRequest}
use Rattle.mt_front.specs.declared.refusals.BadRequest.TheVariants.{MissingIfMatch, BadETag}
use Rattle.mt_front.specs.declared.changes.Change.{Change}
use Rattle.mt_front.specs.declared.changes.Change.TheVariants.{Write, Refused}
use Rattle.mt_front.specs.Refusals.{body_refusal}
use Rattle.mt_front.specs.Refused.{IsRefused, KeyedBy}

-- ---- inserts: the body, and then the keys in it

-- the two texts of a body's key
pub record BodyHasKeys (body : Body) (pk rk : List ℕ) : Type 0 where
  pub pk_is : body.pk ≡ Some pk
  pub rk_is : body.rk ≡ Some rk

abbrev pub InsertBy : Echo → Result Body JsonFault → Change → Type 0
InsertBy shown (Ok body) change = (pk : List ℕ) × (rk : List ℕ) × BodyHasKeys body pk rk
    × KeyedBy Refused (key_fault pk rk) (change ≡ Write (op.Insert (key_at pk rk) body.props) shown) change
InsertBy shown (Err fault) change = IsRefused Refused (body_refusal fault) change

abbrev pub AsksInsert : Echo → List ℕ → Change → Type 0
AsksInsert shown bytes change = (read : Result Body JsonFault) × ReadsAs InBody bytes read × InsertBy shown read change

-- ---- an entity's methods: If-Match, then the key in the target, then the body

-- a delete must have If-Match, and it must be readable
abbrev pub match_refusal : Action → IfMatch → Option BadRequest
match_refusal Delete match.Absent = Some MissingIfMatch
match_refusal Put match.Absent = None
match_refusal Merge match.Absent = None
match_refusal action match.Any = None
match_refusal action (match.Is tag) = None
match_refusal action match.Unreadable = Some BadETag

-- the condition of an operation, where If-Match gives one
abbrev pub condition_of : IfMatch → Option Cond
condition_of match.Absent = None
condition_of match.Any = Some cond.Any
condition_of (match.Is tag) = Some (cond.Is tag)
condition_of match.Unreadable = None

-- without a condition the row is written whether it is there or not
abbrev pub put_op : Option Cond → Key → List Prop → Op
put_op None key props = op.InsertOrReplace key props
put_op (Some c) key props = op.Replace key props c

abbrev pub merge_op : Option Cond → Key → List Prop → Op
merge_op None key props = op.InsertOrMerge key props
merge_op (Some c) key props = op.Merge key props c

-- a body without keys in it
abbrev pub BodyBy : (List Prop → Op) → Result Body JsonFault → Change → Type 0
BodyBy make (Ok body) change = change ≡ Write (make body.props) echo.Plain
BodyBy make (Err fault) change = IsRefused Refused (body_refusal fault) change

abbrev pub AsksWith : (List Prop → Op) → List ℕ → Change → Type 0
AsksWith make bytes change = (read : Result Body JsonFault) × ReadsAs InTarget bytes read × BodyBy make read change

abbrev pub AsksDelete : Option Cond → Key → Change → Type 0
AsksDelete None key change = ⊥
AsksDelete (Some c) key change = change ≡ Write (op.Delete key c) echo.Plain

abbrev pub AsksAction : Action → Option Cond → Key → List ℕ → Change → Type 0
AsksAction Put c key bytes change = AsksWith (put_op c key) bytes change
AsksAction Merge c key bytes change = AsksWith (merge_op c key) bytes change
AsksAction Delete c key bytes change = AsksDelete c key change

abbrev pub MatchedBy : Option BadRequest → Type 0 → Change → Type 0
MatchedBy None then change = then
MatchedBy (Some r) then change = change ≡ Refused r

abbrev pub AsksEntity : Action → List ℕ → List ℕ → IfMatch → List ℕ → Change → Type 0
AsksEntity action pk rk m bytes change =
    MatchedBy (match_refusal action m) (KeyedBy Refused (key_fault pk rk) (AsksAction action (condition_of m) (key_at pk rk) bytes change) change) change

-- ---- either

-- what a request that writes so asks for
abbrev pub AsksChange : RowWrite → List Field → List ℕ → Change → Type 0
AsksChange row.Insert fields bytes change = AsksInsert (insert_echo fields) bytes change
AsksChange (row.Entity action pk rk) fields bytes change = (m : IfMatch) × IsMatch fields m × AsksEntity action pk rk m bytes change

-- the operation keeps the rules of a batch, the reply can show of it what is asked, and its properties have at most 1 MiB
abbrev pub CanTry : Change → Type 0
CanTry (Write op echo) = MayAsk op × HasEcho op echo × (visible_size (op_props op) ≤ 1048576)
CanTry (Refused r) = Unit {0}
