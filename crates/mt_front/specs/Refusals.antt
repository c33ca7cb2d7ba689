-- Why requests are refused, and the replies that say so, with an error object of OData's JSON format.
use Rattle.std.specs.Prelude.{◌≡◌, ℕ, ◌==◌, nat_eq, Bool, true, false, not, ◌&&◌, List, [], ◌∷◌, ◌++◌, codes, decimal, Option, Some, None, option_map, Result, Ok, Err}
use Rattle.std.specs.Option.{option_to_list}
use Rattle.std.specs.Set.{is_member}
use Rattle.mt_model.specs.declared.text.NoMemory.{NoMemory as NoRoom}
use Rattle.mt_model.specs.declared.key.KeyFault.{KeyFault}
use Rattle.mt_model.specs.declared.key.KeyFault.TheVariants as key
use Rattle.mt_model.specs.declared.props.PropsFault.{PropsFault}
use Rattle.mt_model.specs.declared.props.PropsFault.TheVariants as props
use Rattle.mt_json.specs.declared.read.JsonFault.{JsonFault}
use Rattle.mt_json.specs.declared.read.JsonFault.TheVariants as json
use Rattle.mt_chain.specs.declared.op.Cause.{Cause}
use Rattle.mt_chain.specs.declared.op.Cause.TheVariants as cause
use Rattle.mt_chain.specs.declared.op.Refusal.{Refusal}
use Rattle.mt_rules.specs.declared.batch.BatchFault.{BatchFault}
use Rattle.mt_rules.specs.declared.batch.BatchFault.TheVariants as batch
use Rattle.mt_http_in.specs.declared.Code.{Code}
use Rattle.mt_http_in.specs.declared.Code.TheVariants as head
use Rattle.mt_http_out.specs.declared.reply.Reply.{Reply}
use Rattle.mt_http_out.specs.declared.reply.ReplyField.{ReplyField}
use Rattle.mt_http_out.specs.Rendering.{statuses, IsReply}
use Rattle.mt_mime.specs.Replies.{accepted}
use Rattle.mt_front.specs.declared.methods.Resource.{Resource}
use Rattle.mt_front.specs.Methods.{allow_text}
use Rattle.mt_front.specs.declared.refusals.BadRequest.{BadRequest}
use Rattle.mt_front.specs.declared.refusals.BadPart.{BadPart}
use Rattle.mt_front.specs.declared.refusals.BadRequest.TheVariants.{InvalidHead, InvalidFraming, RequestBodyTooLarge, InvalidBody, CompressedBody, InvalidUri, NotImplemented, TableNotFound, MethodNotAllowed, InvalidQuery, MissingIfMatch, BadETag, KeyTooLong, KeyCharacter, InvalidJson, MissingKey, Double, BadName, BadType, TooManyProperties, PropertyTooLarge, EntityTooLarge, EmptyBatch, TooManyOperations, BatchTooLarge, OtherPartition, EntityTwice, InvalidFilter, AtomicNeedsPartition, InvalidBatch}

-- the refusal of what is no whole request, or of a whole one whose body is compressed
abbrev pub head_refusal : Code → BadRequest
head_refusal head.InvalidHead = InvalidHead
head_refusal head.InvalidFraming = InvalidFraming
head_refusal head.RequestBodyTooLarge = RequestBodyTooLarge
head_refusal head.InvalidBody = InvalidBody
head_refusal head.CompressedBody = CompressedBody

-- the refusal of a key's fault; want of memory is none
abbrev pub key_refusal : KeyFault → Option BadRequest
key_refusal (key.KeyTooLong part) = Some KeyTooLong
key_refusal (key.KeyChar part at) = Some KeyCharacter
key_refusal key.NoMemory = None

-- the refusal of a fault of properties; want of memory is none, nor is a repeated name, of which no body has a fault
abbrev pub props_refusal : PropsFault → Option BadRequest
props_refusal (props.DuplicateName at) = None
props_refusal props.TooManyProperties = Some TooManyProperties
props_refusal (props.ValueTooLarge at) = Some PropertyTooLarge
props_refusal props.EntityTooLarge = Some EntityTooLarge
props_refusal props.NoMemory = None

-- the refusal of a body's fault; want of memory is none
abbrev pub body_refusal : JsonFault → Option BadRequest
body_refusal json.Syntax = Some InvalidJson
body_refusal json.NotObject = Some InvalidJson
body_refusal (json.MissingKey part) = Some MissingKey
body_refusal (json.Double name) = Some Double
body_refusal (json.BadName name) = Some BadName
body_refusal (json.BadType name) = Some BadType
body_refusal (json.Props fault) = props_refusal fault
body_refusal json.NoMemory = None

-- the refusal at an index of operations that are no batch; want of memory is none
abbrev pub batch_refusal : BatchFault → Option BadPart
batch_refusal batch.Empty = Some (record { index = 0; refusal = EmptyBatch })
batch_refusal batch.TooMany = Some (record { index = 100; refusal = TooManyOperations })
batch_refusal batch.TooLarge = Some (record { index = 0; refusal = BatchTooLarge })
batch_refusal (batch.OtherPartition index) = Some (record { index = index; refusal = OtherPartition })
batch_refusal (batch.Twice index) = Some (record { index = index; refusal = EntityTwice })
batch_refusal batch.NoMemory = None

-- ---- replies

-- the error object of a code and a sentence
abbrev pub error_object : List ℕ → List ℕ → List ℕ
error_object code sentence = codes "{\"odata.error\":{\"code\":\"" ++ code ++ codes "\",\"message\":{\"lang\":\"en-US\",\"value\":\"" ++ sentence ++ codes "\"}}}"

-- the body is of that media type
abbrev pub type_field : List ℕ → ReplyField
type_field media = record { name = codes "Content-Type"; value = media }

-- the body is JSON
abbrev pub json_type : ReplyField
json_type = type_field (codes "application/json")

-- the methods of a resource
abbrev pub allow_field : Resource → ReplyField
allow_field resource = record { name = codes "Allow"; value = allow_text resource }

-- the body is JSON, and the methods of a resource are listed, where there is one to tell
abbrev pub error_fields : Option Resource → List ReplyField
error_fields resource = json_type ∷ option_to_list (option_map allow_field resource)

-- a reply of that status with that error object, which lists the methods of that resource, and behind which the connection ends or goes on
abbrev pub error_with : Option Resource → ℕ → List ℕ → List ℕ → Bool → Reply
error_with resource status code sentence close =
    record { status = status; fields = error_fields resource; body = error_object code sentence; close = close }

-- a reply of that status with that error object
abbrev pub error_reply : ℕ → List ℕ → List ℕ → Bool → Reply
error_reply status code sentence close = error_with None status code sentence close

-- the code of a refusal before anything is tried
abbrev pub bad_code : BadRequest → List ℕ
bad_code InvalidHead = codes "InvalidHead"
bad_code InvalidFraming = codes "InvalidFraming"
bad_code RequestBodyTooLarge = codes "RequestBodyTooLarge"
bad_code InvalidBody = codes "InvalidBody"
bad_code CompressedBody = codes "CompressedBody"
bad_code InvalidUri = codes "InvalidUri"
bad_code NotImplemented = codes "NotImplemented"
bad_code TableNotFound = codes "TableNotFound"
bad_code (MethodNotAllowed resource) = codes "MethodNotAllowed"
bad_code InvalidQuery = codes "InvalidQuery"
bad_code (InvalidFilter at) = codes "InvalidFilter"
bad_code AtomicNeedsPartition = codes "AtomicNeedsPartition"
bad_code MissingIfMatch = codes "MissingIfMatch"
bad_code BadETag = codes "BadETag"
bad_code KeyTooLong = codes "KeyTooLong"
bad_code KeyCharacter = codes "KeyCharacter"
bad_code InvalidJson = codes "InvalidJson"
bad_code MissingKey = codes "MissingKey"
bad_code Double = codes "Double"
bad_code BadName = codes "BadName"
bad_code BadType = codes "BadType"
bad_code TooManyProperties = codes "TooManyProperties"
bad_code PropertyTooLarge = codes "PropertyTooLarge"
bad_code EntityTooLarge = codes "EntityTooLarge"
bad_code InvalidBatch = codes "InvalidBatch"
bad_code EmptyBatch = codes "EmptyBatch"
bad_code TooManyOperations = codes "TooManyOperations"
bad_code BatchTooLarge = codes "BatchTooLarge"
bad_code OtherPartition = codes "OtherPartition"
bad_code EntityTwice = codes "EntityTwice"

-- its sentence, up to the place that it tells
abbrev pub bad_phrase : BadRequest → List ℕ
bad_phrase InvalidHead = codes "The request head is not valid."
bad_phrase InvalidFraming = codes "The body length is not valid."
bad_phrase RequestBodyTooLarge = codes "The request body is too large."
bad_phrase InvalidBody = codes "The request body is not complete."
bad_phrase CompressedBody = codes "Compressed bodies are not supported."
bad_phrase InvalidUri = codes "The request target is not valid."
bad_phrase NotImplemented = codes "The request is not supported."
bad_phrase TableNotFound = codes "The table does not exist."
bad_phrase (MethodNotAllowed resource) = codes "The method is not allowed."
bad_phrase InvalidQuery = codes "A query option is not valid."
bad_phrase (InvalidFilter at) = codes "At byte "
bad_phrase AtomicNeedsPartition = codes "An atomic query names one partition."
bad_phrase MissingIfMatch = codes "If-Match is required."
bad_phrase BadETag = codes "The ETag is not valid."
bad_phrase KeyTooLong = codes "A key is too long."
bad_phrase KeyCharacter = codes "A key has a forbidden character."
bad_phrase InvalidJson = codes "The body is not a JSON object."
bad_phrase MissingKey = codes "A key is missing."
bad_phrase Double = codes "Edm.Double is not supported."
bad_phrase BadName = codes "A property name is not valid."
bad_phrase BadType = codes "A property value is not valid."
bad_phrase TooManyProperties = codes "The entity has too many properties."
bad_phrase PropertyTooLarge = codes "A property value is too large."
bad_phrase EntityTooLarge = codes "The entity is too large."
bad_phrase InvalidBatch = codes "The batch is not valid."
bad_phrase EmptyBatch = codes "The batch is empty."
bad_phrase TooManyOperations = codes "The batch has too many operations."
bad_phrase BatchTooLarge = codes "The batch is too large."
bad_phrase OtherPartition = codes "The operation names another partition."
bad_phrase EntityTwice = codes "The operation names an entity twice."

-- the place that it tells
abbrev pub bad_place : BadRequest → Option ℕ
bad_place (InvalidFilter at) = Some at
bad_place r = None

-- a place at a sentence's end
abbrev pub place_text : Option ℕ → List ℕ
place_text None = []
place_text (Some at) = decimal at ++ codes "."

-- its sentence
abbrev pub bad_sentence : BadRequest → List ℕ
bad_sentence r = bad_phrase r ++ place_text (bad_place r)

-- its status
abbrev pub bad_status : BadRequest → ℕ
bad_status InvalidHead = 400
bad_status InvalidFraming = 400
bad_status RequestBodyTooLarge = 413
bad_status InvalidBody = 400
bad_status CompressedBody = 501
bad_status InvalidUri = 400
bad_status NotImplemented = 501
bad_status TableNotFound = 404
bad_status (MethodNotAllowed resource) = 405
bad_status InvalidQuery = 400
bad_status (InvalidFilter at) = 400
bad_status AtomicNeedsPartition = 400
bad_status MissingIfMatch = 400
bad_status BadETag = 400
bad_status KeyTooLong = 400
bad_status KeyCharacter = 400
bad_status InvalidJson = 400
bad_status MissingKey = 400
bad_status Double = 400
bad_status BadName = 400
bad_status BadType = 400
bad_status TooManyProperties = 400
bad_status PropertyTooLarge = 400
bad_status EntityTooLarge = 400
bad_status InvalidBatch = 400
bad_status EmptyBatch = 400
bad_status TooManyOperations = 400
bad_status BatchTooLarge = 400
bad_status OtherPartition = 400
bad_status EntityTwice = 400

-- the resource whose methods its reply lists
abbrev pub allow_of : BadRequest → Option Resource
allow_of (MethodNotAllowed resource) = Some resource
allow_of r = None

abbrev pub bad_reply : BadRequest → Bool → Reply
bad_reply r close = error_with (allow_of r) (bad_status r) (bad_code r) (bad_sentence r) close

-- the reply to a change set whose one part is that error, with the index in decimal and a colon before the sentence
abbrev pub error_part : ℕ → Option Resource → ℕ → List ℕ → List ℕ → Bool → Reply
error_part index resource status code sentence close = accepted (error_with resource status code (decimal index ++ (codes ":" ++ sentence)) false ∷ []) close

-- the reply to a change set of which one request is refused before anything is tried
abbrev pub part_reply : BadPart → Bool → Reply
part_reply bad close = error_part bad.index (allow_of bad.refusal) (bad_status bad.refusal) (bad_code bad.refusal) (bad_sentence bad.refusal) close

-- the status of a refusal by the table
abbrev pub cause_status : Cause → ℕ
cause_status cause.NotFound = 404
cause_status cause.Exists = 409
cause_status cause.ConditionFailed = 412
cause_status cause.TooManyProperties = bad_status TooManyProperties
cause_status cause.EntityTooLarge = bad_status EntityTooLarge

-- its code
abbrev pub cause_code : Cause → List ℕ
cause_code cause.NotFound = codes "ResourceNotFound"
cause_code cause.Exists = codes "EntityAlreadyExists"
cause_code cause.ConditionFailed = codes "UpdateConditionNotSatisfied"
cause_code cause.TooManyProperties = bad_code TooManyProperties
cause_code cause.EntityTooLarge = bad_code EntityTooLarge

-- its sentence
abbrev pub cause_sentence : Cause → List ℕ
cause_sentence cause.NotFound = codes "The specified resource does not exist."
cause_sentence cause.Exists = codes "The specified entity already exists."
cause_sentence cause.ConditionFailed = codes "The update condition was not satisfied."
cause_sentence cause.TooManyProperties = bad_phrase TooManyProperties
cause_sentence cause.EntityTooLarge = bad_phrase EntityTooLarge

-- the reply to an operation that the table refuses
abbrev pub cause_reply : Cause → Bool → Reply
cause_reply cause close = error_reply (cause_status cause) (cause_code cause) (cause_sentence cause) close

-- so alone, or in a change set
abbrev pub refusal_reply : Bool → Refusal → Bool → Reply
refusal_reply false refusal close = cause_reply refusal.cause close
refusal_reply true refusal close = error_part refusal.index None (cause_status refusal.cause) (cause_code refusal.cause) (cause_sentence refusal.cause) close

-- the reply where a store failed
abbrev pub fault_reply : Bool → Reply
fault_reply close = error_reply 500 (codes "StoreFault") (codes "A store failed.") close

-- the reply where the history is full
abbrev pub full_reply : Bool → Reply
full_reply close = error_reply 507 (codes "HistoryFull") (codes "The history is full.") close

-- the reply where there is no memory, behind which the connection ends
abbrev pub memory_reply : Reply
memory_reply = error_reply 503 (codes "NoMemory") (codes "Not enough memory.") true

-- a status of the server's replies whose body is not empty
abbrev pub is_error_status : ℕ → Bool
is_error_status status = is_member nat_eq statuses status && not (status == 204)

-- the reply is made and is one that this server gives, or there was no memory for it
abbrev pub Makes : Reply → Result Reply NoRoom → Type 0
Makes want (Ok r) = (r ≡ want) × IsReply r
Makes want (Err e) = Unit {0}
