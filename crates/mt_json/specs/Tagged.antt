-- The members of an entity's object, in which null holds the tag's place.
use Rattle.std.specs.Prelude.{◌≡◌, ⊤, ℕ, ◌+◌, ◌<◌, ◌^◌, List, length, codes, false}
use Rattle.json.specs.Print.{escape}
use Rattle.serde_json.specs.Data.{Data, null, boolean, number, string, array, object, Members, no_members, member, put, depth, members_depth}
use Rattle.serde_json.specs.Written.{has_float, members_have_float, compact_text}
use Rattle.mt_json.specs.declared.write.Level.{Level}
use Rattle.mt_json.specs.declared.write.Level.TheVariants as level

-- the tag in place of null, and any other value as it is
abbrev pub with_tag : List ℕ → Data → Data
with_tag tag null = string tag
with_tag tag (boolean b) = boolean b
with_tag tag (number n) = number n
with_tag tag (string s) = string s
with_tag tag (array ds) = array ds
with_tag tag (object ms) = object ms

-- the members with the tag in its place
abbrev pub tagged : List ℕ → Members → Members
tagged tag no_members = no_members
tagged tag (member k d ms) = member k (with_tag tag d) (tagged tag ms)

-- the members with null in the tag's place, at the level that has the tag
abbrev pub placed : Level → Members → Members
placed level.None ms = ms
placed level.Minimal ms = put (codes "odata.etag") null ms

-- no float, and nothing inside
pub record IsFlat (d : Data) : Type 0 where
  pub exact : has_float d ≡ false
  pub flat : depth d ≡ 0

-- each of the values is flat
abbrev pub AreFlat : Members → Type 0
AreFlat no_members = ⊤
AreFlat (member k d ms) = IsFlat d × AreFlat ms

-- the bytes that a tag adds to the text
abbrev pub tag_bytes : Level → List ℕ → ℕ
tag_bytes level.None tag = 0
tag_bytes level.Minimal tag = length (escape tag)

-- the members are flat, their text has this size beside the tag, and there is a number for it with any tag
pub record IsDraft (ms : Members) (l : Level) (size : ℕ) : Type 0 where
  pub exact : members_have_float ms ≡ false
  pub flat : members_depth ms ≡ 0
  pub sized : (tag : List ℕ) → length (compact_text (object (tagged tag ms))) ≡ size + tag_bytes l tag
  pub small : size + 37 < 2 ^ 64
