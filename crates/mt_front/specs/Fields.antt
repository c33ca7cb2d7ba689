-- The fields that an operation on a row reads.
use Rattle.std.specs.Prelude.{◌≡◌, ℕ, Bool, List, codes, Option, Some, None, if◌then◌else◌}
use Rattle.mt_model.specs.declared.tag.Tag.{Tag}
use Rattle.mt_model.specs.Tag.{IsTag, tag_text}
use Rattle.mt_http_in.specs.declared.fields.Field.{Field}
use Rattle.mt_http_in.specs.Fields.{first_value, says}
use Rattle.mt_front.specs.declared.fields.IfMatch.{IfMatch}
use Rattle.mt_front.specs.declared.fields.IfMatch.TheVariants.{Absent, Any, Is, Unreadable}
use Rattle.mt_mime.specs.declared.forms.Echo.{Echo}
use Rattle.mt_mime.specs.declared.forms.Echo.TheVariants as echo
use Rattle.mt_options.specs.Levels.{level_by}

-- ---- If-Match

-- what the value of If-Match says
abbrev pub SaysMatch : List ℕ → IfMatch → Type 0
SaysMatch value Absent = ⊥
SaysMatch value Any = value ≡ codes "*"
SaysMatch value (Is tag) = IsTag tag × (value ≡ tag_text tag)
SaysMatch value Unreadable = (value ≡ codes "*" → ⊥) × ((tag : Tag) → IsTag tag → value ≡ tag_text tag → ⊥)

-- so for the value of the first one, where there is one
abbrev pub FirstSays : Option (List ℕ) → IfMatch → Type 0
FirstSays None m = m ≡ Absent
FirstSays (Some value) m = SaysMatch value m

-- what the If-Match of these fields says
abbrev pub IsMatch : List Field → IfMatch → Type 0
IsMatch fields m = FirstSays (first_value (codes "if-match") fields) m

-- ---- Prefer

-- no content is preferred
abbrev pub prefers_no_content : List Field → Bool
prefers_no_content fields = says (codes "return-no-content") (first_value (codes "prefer") fields)

-- ---- x-mt-atomic

-- an atomic query is asked for
abbrev pub is_atomic : List Field → Bool
is_atomic fields = says (codes "true") (first_value (codes "x-mt-atomic") fields)

-- ---- Accept

-- what the reply to an insert with these fields shows
abbrev pub insert_echo : List Field → Echo
insert_echo fields = if prefers_no_content fields then echo.NoContent else echo.Entity (level_by None (first_value (codes "accept") fields))
