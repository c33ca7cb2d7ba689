-- The replies to operations that were done, alone and in a change set.
use Rattle.std.specs.Prelude.{◌≡◌, ℕ, Bool, true, false, List, [], ◌∷◌, ◌++◌, length, codes, None, All}
use Rattle.std.specs.List.{flat_map}
use Rattle.mt_model.specs.declared.key.Key.{Key}
use Rattle.mt_model.specs.declared.tag.Tag.{Tag}
use Rattle.mt_model.specs.declared.value.Prop.{Prop}
use Rattle.mt_model.specs.Tag.{IsTag, tag_text}
use Rattle.mt_json.specs.declared.write.Level.{Level}
use Rattle.mt_json.specs.Written.{IsWritten}
use Rattle.mt_json.specs.Draft.{text_of}
use Rattle.mt_chain.specs.declared.op.Op.{Op}
use Rattle.mt_chain.specs.declared.op.Op.TheVariants.{Insert, Replace, Merge, Delete, InsertOrReplace, InsertOrMerge}
use Rattle.mt_http_out.specs.declared.reply.Reply.{Reply}
use Rattle.mt_http_out.specs.declared.reply.ReplyField.{ReplyField}
use Rattle.mt_http_out.specs.Rendering.{bytes_of, inner_bytes}
use Rattle.mt_mime.specs.declared.forms.Echo.{Echo}
use Rattle.mt_mime.specs.declared.forms.Echo.TheVariants.{Entity, NoContent, Plain}
use Rattle.mt_mime.specs.declared.forms.Form.{Form}
use Rattle.mt_mime.specs.declared.forms.Form.TheVariants as form

-- ---- fields

-- a field of that name and value
abbrev pub field : List ℕ → List ℕ → ReplyField
field name value = record { name = name; value = value }

-- the body is JSON
abbrev pub json_field : ReplyField
json_field = field (codes "Content-Type") (codes "application/json")

-- the tag of the row
abbrev pub tag_field : Tag → ReplyField
tag_field tag = field (codes "ETag") (tag_text tag)

-- no content was wanted
abbrev pub applied_field : ReplyField
applied_field = field (codes "Preference-Applied") (codes "return-no-content")

-- the body is a change set's replies
abbrev pub multipart_field : ReplyField
multipart_field = field (codes "Content-Type") (codes "multipart/mixed; boundary=batchresponse_1")

-- ---- the reply to one operation

-- a reply of that status
abbrev pub reply_with : ℕ → List ReplyField → List ℕ → Bool → Reply
reply_with status fields body close = record { status = status; fields = fields; body = body; close = close }

-- 201 with the entity, whose text this is
abbrev pub created : Tag → List ℕ → Bool → Reply
created tag text close = reply_with 201 (json_field ∷ tag_field tag ∷ []) text close

-- 204 with the tag, and that no content was wanted
abbrev pub no_content : Tag → Bool → Reply
no_content tag close = reply_with 204 (tag_field tag ∷ applied_field ∷ []) [] close

-- 204 with the tag
abbrev pub tagged : Tag → Bool → Reply
tagged tag close = reply_with 204 (tag_field tag ∷ []) [] close

-- 204 alone
abbrev pub gone : Bool → Reply
gone close = reply_with 204 [] [] close

-- the echo is one that the operation can have: Plain exactly where it is no insert
abbrev pub HasEcho : Op → Echo → Type 0
HasEcho (Insert key props) (Entity level) = Unit {0}
HasEcho (Insert key props) NoContent = Unit {0}
HasEcho (Insert key props) Plain = ⊥
HasEcho op (Entity level) = ⊥
HasEcho op NoContent = ⊥
HasEcho op Plain = Unit {0}

-- the reply shows the entity that an insert wrote
abbrev pub IsCreated : Level → Key → List Prop → Tag → Bool → Reply → Type 0
IsCreated level key props tag close r = (text : List ℕ) × IsWritten (record { key = key; props = props; tag = tag }) level None text × (r ≡ created tag text close)

-- the reply to an operation that was done, whose row has this tag; where the row went there is none to show
abbrev pub RepliesTo : Op → Echo → Tag → Bool → Reply → Type 0
RepliesTo (Insert key props) (Entity level) tag close r = IsCreated level key props tag close r
RepliesTo (Insert key props) NoContent tag close r = r ≡ no_content tag close
RepliesTo (Replace key props cond) Plain tag close r = r ≡ tagged tag close
RepliesTo (Merge key props cond) Plain tag close r = r ≡ tagged tag close
RepliesTo (InsertOrReplace key props) Plain tag close r = r ≡ tagged tag close
RepliesTo (InsertOrMerge key props) Plain tag close r = r ≡ tagged tag close
RepliesTo (Delete key cond) Plain tag close r = r ≡ gone close
RepliesTo op echo tag close r = ⊥

-- ---- the reply to a change set

-- the part of a reply: two fields, and the reply without Connection
abbrev pub part_bytes : Reply → List ℕ
part_bytes r = codes "--changesetresponse_1\r\nContent-Type: application/http\r\nContent-Transfer-Encoding: binary\r\n\r\n" ++ inner_bytes r ++ codes "\r\n"

-- the body of a change set's reply
abbrev pub changes_body : List Reply → List ℕ
changes_body rs = codes "--batchresponse_1\r\nContent-Type: multipart/mixed; boundary=changesetresponse_1\r\n\r\n" ++ flat_map part_bytes rs
    ++ codes "--changesetresponse_1--\r\n--batchresponse_1--\r\n"

-- the whole reply
abbrev pub accepted : List Reply → Bool → Reply
accepted rs close = reply_with 202 (multipart_field ∷ []) (changes_body rs) close

-- a reply to each operation, in their order, none of which closes
abbrev pub RepliesToAll : List Op → List Echo → List Tag → List Reply → Type 0
RepliesToAll [] [] [] [] = Unit {0}
RepliesToAll (op ∷ ops) (echo ∷ echoes) (tag ∷ tags) (r ∷ rs) = RepliesTo op echo tag false r × RepliesToAll ops echoes tags rs
RepliesToAll ops echoes tags rs = ⊥

-- the reply to a change set, or to one operation alone
abbrev pub Answers : Bool → Bool → List Op → List Echo → List Tag → Reply → Type 0
Answers true close ops echoes tags r = (rs : List Reply) × RepliesToAll ops echoes tags rs × (r ≡ accepted rs close)
Answers false close (op ∷ []) (echo ∷ []) (tag ∷ []) r = RepliesTo op echo tag close r
Answers false close ops echoes tags r = ⊥

-- ---- replies that wait for their tags

-- the status of a form's reply
abbrev pub status_by : Form → ℕ
status_by (form.Created draft) = 201
status_by form.NoContent = 204
status_by form.Tagged = 204
status_by form.Gone = 204

-- its fields with this tag
abbrev pub fields_by : Form → Tag → List ReplyField
fields_by (form.Created draft) tag = json_field ∷ tag_field tag ∷ []
fields_by form.NoContent tag = tag_field tag ∷ applied_field ∷ []
fields_by form.Tagged tag = tag_field tag ∷ []
fields_by form.Gone tag = []

-- its body with this tag
abbrev pub text_by : Form → Tag → List ℕ
text_by (form.Created draft) tag = text_of draft tag
text_by form.NoContent tag = []
text_by form.Tagged tag = []
text_by form.Gone tag = []

-- its reply with this tag
abbrev pub reply_by : Form → Tag → Bool → Reply
reply_by f tag close = reply_with (status_by f) (fields_by f tag) (text_by f tag) close

-- the replies of the forms with these tags
abbrev pub replies_by : List Form → List Tag → List Reply
replies_by [] tags = []
replies_by (f ∷ forms) [] = []
replies_by (f ∷ forms) (tag ∷ tags) = reply_by f tag false ∷ replies_by forms tags

-- the whole reply of the forms with these tags; without a change set there is one of each
abbrev pub answer_by : Bool → Bool → List Form → List Tag → List ℕ
answer_by true close forms tags = bytes_of (accepted (replies_by forms tags) close)
answer_by false close [] tags = []
answer_by false close (f ∷ forms) [] = []
answer_by false close (f ∷ forms) (tag ∷ tags) = bytes_of (reply_by f tag close)

-- the form's reply is the one to that operation, whatever the tag is
abbrev pub IsFormOf : Op → Echo → Form → Type 0
IsFormOf op echo f = (tag : Tag) (close : Bool) → RepliesTo op echo tag close (reply_by f tag close)

-- a form for each operation
abbrev pub AreForms : List Op → List Echo → List Form → Type 0
AreForms [] [] [] = Unit {0}
AreForms (op ∷ ops) (echo ∷ echoes) (f ∷ forms) = IsFormOf op echo f × AreForms ops echoes forms
AreForms ops echoes forms = ⊥

-- so many tags
pub record AreTags (n : ℕ) (tags : List Tag) : Type 0 where
  pub count : length tags ≡ n
  pub each : All IsTag tags
