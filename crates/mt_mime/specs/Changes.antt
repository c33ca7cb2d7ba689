-- The operations of a change set, as a body spells them.
use Rattle.std.specs.Prelude.{◌≡◌, ℕ, Bool, true, false, List, [], ◌∷◌, ◌++◌, map, codes, Option, Some, None}
use Rattle.std.specs.Borrow.{Bor}
use Rattle.std.specs.List.{AllZip}
use Rattle.httparse.specs.Grammar.{LineEnd, Field, RequestHead, print_request}
use Rattle.mt_http_in.specs.Heads.{fields_of}
use Rattle.mt_mime.specs.declared.changes.Part.{Part}
use Rattle.mt_mime.specs.MediaTypes.{boundary_of, has_type}
use Rattle.mt_mime.specs.Headers.{HasFields, content_type, IsInnerHead}
use Rattle.mt_mime.specs.Parts.{Multipart, HasParts, texts_of}

-- ---- one operation

-- the fields of its part, its head, and its body
pub record Operation : Type 0 where
  pub about : List Field
  pub last : LineEnd
  pub head : RequestHead
  pub body : List ℕ

-- the value is there and of that media type
abbrev pub is_of : List ℕ → Option (List ℕ) → Bool
is_of type None = false
is_of type (Some value) = has_type type value

-- the bytes of a part spell the operation: fields of the type application/http, then its head, and its body up to the end
pub record SpellsOperation (text : List ℕ) (o : Operation) : Type 0 where
  pub rest : List ℕ
  pub about : HasFields text o.about o.last rest
  pub type_is : is_of (codes "application/http") (content_type o.about) ≡ true
  pub head : IsInnerHead o.head
  pub whole : rest ≡ print_request o.head ++ o.body

-- the running value has the operation's parts
abbrev pub part_of : Operation → Part
part_of o = record { method = o.head.method; target = o.head.target; fields = fields_of o.head; body = o.body }

-- ---- the change set

-- the fields of its part, the lines of its own body, and its operations
pub record ChangeSet : Type 0 where
  pub about : List Field
  pub last : LineEnd
  pub inner : Multipart
  pub operations : List Operation

-- the boundary of a Content-Type that may be absent
abbrev pub boundary_in : Option (List ℕ) → Option (List ℕ)
boundary_in None = None
boundary_in (Some value) = boundary_of value

-- the bytes of a part spell the change set: fields of the type multipart/mixed with a boundary, then a body whose parts are its operations
pub record SpellsSet (text : List ℕ) (s : ChangeSet) : Type 0 where
  pub rest : List ℕ
  pub about : HasFields text s.about s.last rest
  pub boundary : List ℕ
  pub boundary_is : boundary_in (content_type s.about) ≡ Some boundary
  pub parts : HasParts boundary rest s.inner
  pub each : AllZip SpellsOperation (texts_of s.inner) s.operations

-- ---- the whole body

-- its lines, and its change set
pub record Batch : Type 0 where
  pub outer : Multipart
  pub changes : ChangeSet

-- the body of that boundary has one part, which spells the change set
pub record SpellsBatch (boundary body : List ℕ) (b : Batch) : Type 0 where
  pub parts : HasParts boundary body b.outer
  pub text : List ℕ
  pub one : texts_of b.outer ≡ text ∷ []
  pub changes : SpellsSet text b.changes

-- the running values are those of the operations
abbrev pub parts_of : Batch → List Part
parts_of b = map part_of b.changes.operations

-- the body spells no batch
abbrev pub HasNoBatch : List ℕ → List ℕ → Type 0
HasNoBatch boundary body = (b : Batch) → SpellsBatch boundary body b → ⊥

-- ---- while operations are read

-- the bytes of slices
abbrev pub bytes_in : List (Bor (List ℕ)) → List (List ℕ)
bytes_in texts = map (λ (s : Bor (List ℕ)). s.now) texts

-- the texts spell these operations
pub record ReadsAll (texts : List (List ℕ)) (parts : List Part) : Type 0 where
  pub operations : List Operation
  pub spelled : AllZip SpellsOperation texts operations
  pub parts_are : parts ≡ map part_of operations

-- some text spells no operation
abbrev pub SpellsNone : List (List ℕ) → Type 0
SpellsNone texts = (os : List Operation) → AllZip SpellsOperation texts os → ⊥
