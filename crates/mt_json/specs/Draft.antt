-- The text of an entity's object, before its tag is known and with it.
use Rattle.std.specs.Prelude.{◌≡◌, ℕ, ◌+◌, ◌≤◌, List, ◌++◌, length, codes, vec_len, vec_capacity}
use Rattle.std.specs.Global.{Vec}
use Rattle.serde_json.specs.Data.{object}
use Rattle.serde_json.specs.View.{members_view}
use Rattle.serde_json.specs.Written.{compact_text}
use Rattle.mt_model.specs.declared.tag.Tag.{Tag}
use Rattle.mt_model.specs.Tag.{tag_text}
use Rattle.mt_json.specs.Tagged.{tagged}
use Rattle.mt_json.specs.declared.draft.Draft.{Draft}

-- a tag of these digits inside a JSON string, W/\"s.n\"
abbrev pub escaped : List ℕ → List ℕ → List ℕ
escaped store n = codes "W/\\\"" ++ store ++ codes "." ++ n ++ codes "\\\""

-- the JSON string of a tag of these digits
abbrev pub quoted_digits : List ℕ → List ℕ → List ℕ
quoted_digits store n = codes "\"" ++ escaped store n ++ codes "\""

-- the text with this tag
abbrev pub text_of : Draft → Tag → List ℕ
text_of d tag = compact_text (object (tagged (tag_text tag) (members_view d.members.entries)))

-- the text has room behind what is there
abbrev pub HasRoom : Vec ℕ → List ℕ → Type 0
HasRoom room text = vec_len room + length text ≤ vec_capacity room

-- the text stands behind what was there, in no less room
pub record Appends (before : Vec ℕ) (text : List ℕ) (after : Vec ℕ) : Type 0 where
  pub items : after.items ≡ before.items ++ text
  pub len : vec_len after ≡ vec_len before + length text
  pub capacity : vec_capacity before ≤ vec_capacity after
