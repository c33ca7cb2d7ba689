-- The replies to refusals are replies of this server.
use Rattle.std.proofs.Common.{◌≡◌, ℕ, ◌==◌, Bool, true, false, List, [], ◌∷◌, ◌++◌, map, Option, Some, None, Ok, refl, sym, ap, ◌∙◌, subst, append_assoc, arith, if◌then◌else◌}
use Rattle.std.specs.Prelude.{not, ◌&&◌, nat_eq, codes}
use Rattle.std.specs.Set.{is_member}
use Rattle.std.proofs.lemmas.Bool.Decides.{Decides-eqb}
use Rattle.mt_http_out.specs.declared.reply.Reply.{Reply}
use Rattle.mt_http_out.specs.declared.reply.ReplyField.{ReplyField}
use Rattle.mt_http_out.specs.Rendering.{statuses, further_names, are_some_of, IsReply}
use Rattle.mt_front.specs.declared.methods.Resource.{Resource}
use Rattle.mt_front.specs.declared.refusals.BadRequest.{BadRequest}
use Rattle.mt_front.specs.declared.refusals.BadRequest.TheVariants.{InvalidHead, InvalidFraming, RequestBodyTooLarge, InvalidBody, CompressedBody, InvalidUri, NotImplemented, TableNotFound, MethodNotAllowed, InvalidQuery, InvalidFilter, AtomicNeedsPartition, MissingIfMatch, BadETag, KeyTooLong, KeyCharacter, InvalidJson, MissingKey, Double, BadName, BadType, TooManyProperties, PropertyTooLarge, EntityTooLarge, InvalidBatch, EmptyBatch, TooManyOperations, BatchTooLarge, OtherPartition, EntityTwice}
use Rattle.mt_chain.specs.declared.op.Cause.{Cause}
use Rattle.mt_chain.specs.declared.op.Cause.TheVariants as cause
use Rattle.mt_mime.specs.Replies.{accepted, changes_body, multipart_field}
use Rattle.mt_front.specs.Refusals.{is_error_status, bad_status, cause_status, error_fields, error_object, error_with, Makes}

both : (a b : Bool) → (a && b) ≡ true → (a ≡ true) × (b ≡ true)
both true true e = (refl, refl)
both true false e = absurd (cc)
both false true e = absurd (cc)
both false false e = absurd (cc)

off : (a : Bool) → not a ≡ true → a ≡ false
off true e = absurd (cc)
off false e = refl

differ : (a : Bool) → a ≡ true → a ≡ false → ⊥
differ a t f = cc

-- the names of the fields, with Allow and without
some_names : (resource : Option Resource) → are_some_of (codes "Content-Type" ∷ further_names) (map (λ f. f.name) (error_fields resource)) ≡ true
some_names None = refl
some_names (Some resource) = refl

pub error_is : (resource : Option Resource) (status : ℕ) (code sentence : List ℕ) (close : Bool) → is_error_status status ≡ true → IsReply (error_with resource status code sentence close)
error_is resource status code sentence close e =
    let b = both (is_member nat_eq statuses status) (not (status == 204)) e in
    let other = off (status == 204) b.1 in
    record {
      status = b.0;
      fields = ap (λ t. are_some_of (if t then further_names else codes "Content-Type" ∷ further_names) (map (λ f. f.name) (error_fields resource))) other ∙ some_names resource;
      body = λ is. absurd (differ (status == 204) ((Decides-eqb status 204).1 is) other);
    }

pub bad_error : (r : BadRequest) → is_error_status (bad_status r) ≡ true
bad_error InvalidHead = refl
bad_error InvalidFraming = refl
bad_error RequestBodyTooLarge = refl
bad_error InvalidBody = refl
bad_error CompressedBody = refl
bad_error InvalidUri = refl
bad_error NotImplemented = refl
bad_error TableNotFound = refl
bad_error (MethodNotAllowed resource) = refl
bad_error InvalidQuery = refl
bad_error (InvalidFilter at) = refl
bad_error AtomicNeedsPartition = refl
bad_error MissingIfMatch = refl
bad_error BadETag = refl
bad_error KeyTooLong = refl
bad_error KeyCharacter = refl
bad_error InvalidJson = refl
bad_error MissingKey = refl
bad_error Double = refl
bad_error BadName = refl
bad_error BadType = refl
bad_error TooManyProperties = refl
bad_error PropertyTooLarge = refl
bad_error EntityTooLarge = refl
bad_error InvalidBatch = refl
bad_error EmptyBatch = refl
bad_error TooManyOperations = refl
bad_error BatchTooLarge = refl
bad_error OtherPartition = refl
bad_error EntityTwice = refl

pub cause_error : (r : Cause) → is_error_status (cause_status r) ≡ true
cause_error cause.NotFound = refl
cause_error cause.Exists = refl
cause_error cause.ConditionFailed = refl
cause_error cause.TooManyProperties = refl
cause_error cause.EntityTooLarge = refl

-- the error object, with its parts in another nesting
pub object_is : (code sentence : List ℕ) → codes "{\"odata.error\":{\"code\":\"" ++ (code ++ (codes "\",\"message\":{\"lang\":\"en-US\",\"value\":\"" ++ (sentence ++ codes "\"}}}"))) ≡ error_object code sentence
object_is code sentence = simp append_assoc

-- an error with these parts
pub error_made : (resource : Option Resource) (status : ℕ) (fields : List ReplyField) (body code sentence : List ℕ) (close : Bool) → is_error_status status ≡ true → fields ≡ error_fields resource → body ≡ error_object code sentence
    → Makes (error_with resource status code sentence close) (Ok (record { status = status; fields = fields; body = body; close = close }))
error_made resource status fields body code sentence close is f b =
    let same : ◌≡◌ {A = Reply} (record { status = status; fields = fields; body = body; close = close }) (error_with resource status code sentence close) =
    ap (λ z. record { status = status; fields = z; body = body; close = close }) f ∙ ap (λ z. record { status = status; fields = error_fields resource; body = z; close = close }) b in
    (same, subst IsReply (sym same) (error_is resource status code sentence close is))

-- the reply to a change set with these parts
accepted_is : (rs : List Reply) (close : Bool) → IsReply (accepted rs close)
accepted_is rs close = record { status = refl; fields = refl; body = λ is. absurd (omega (arith, is)) }

pub accepted_made : (fields : List ReplyField) (body : List ℕ) (rs : List Reply) (close : Bool) → fields ≡ multipart_field ∷ [] → body ≡ changes_body rs
    → Makes (accepted rs close) (Ok (record { status = 202; fields = fields; body = body; close = close }))
accepted_made fields body rs close f b =
    let same : ◌≡◌ {A = Reply} (record { status = 202; fields = fields; body = body; close = close }) (accepted rs close) =
    ap (λ z. record { status = 202; fields = z; body = body; close = close }) f ∙ ap (λ z. record { status = 202; fields = multipart_field ∷ []; body = z; close = close }) b in
    (same, subst IsReply (sym same) (accepted_is rs close))
