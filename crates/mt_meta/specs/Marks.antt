-- What a data row of the new store is: a client's write, a copy of old's row, or a tombstone.
use Rattle.std.specs.Prelude.{ℕ, bytes_eq, List, [], ◌∷◌, codes, filter, Option, Some, None, option_map, if◌then◌else◌}
use Rattle.mt_model.specs.declared.name.Hidden.TheVariants as hidden
use Rattle.mt_model.specs.declared.tag.Tag.{Tag}
use Rattle.mt_model.specs.declared.value.Prop.{Prop}
use Rattle.mt_model.specs.Tag.{tag_text}
use Rattle.mt_model.specs.Props.{hidden_text, hidden_prop, is_visible}
use Rattle.mt_model.specs.Merge.{put_prop}
use Rattle.mt_meta.specs.declared.mark.Mark.{Mark}
use Rattle.mt_meta.specs.declared.mark.Mark.TheVariants.{Live, Copy, Tomb}
use Rattle.mt_meta.specs.TagTexts.{read_tag}

-- what `$kind` says of a data row in the new store
abbrev pub mark_kind : Mark → List ℕ
mark_kind Live = codes "live"
mark_kind (Copy tag) = codes "copy"
mark_kind Tomb = codes "tomb"

-- what `$tag` says: the text of the kept tag, for a copy alone
abbrev pub mark_tag : Mark → Option (List ℕ)
mark_tag Live = None
mark_tag (Copy tag) = Some (tag_text tag)
mark_tag Tomb = None

-- without a kept tag
abbrev pub mark_named : List ℕ → Option Mark
mark_named kind = if bytes_eq kind (codes "live") then Some Live else (if bytes_eq kind (codes "tomb") then Some Tomb else None)

-- with the text of a kept tag
abbrev pub copy_named : List ℕ → List ℕ → Option Mark
copy_named kind text = if bytes_eq kind (codes "copy") then option_map Copy (read_tag text) else None

-- by the texts of `$kind` and `$tag`
abbrev pub mark_in : Option (List ℕ) → Option (List ℕ) → Option Mark
mark_in None tag = None
mark_in (Some kind) None = mark_named kind
mark_in (Some kind) (Some text) = copy_named kind text

-- the mark that a row's hidden texts show
abbrev pub mark_of : List Prop → Option Mark
mark_of ps = mark_in (hidden_text ps hidden.Kind) (hidden_text ps hidden.Tag)

-- the tag of a copy
abbrev pub kept_tag : Option Mark → Option Tag
kept_tag (Some (Copy tag)) = Some tag
kept_tag _ = None

-- by the text of `$kind`, the kept tag and the row's own
abbrev pub seen_in : Option (List ℕ) → Option Tag → Tag → Option Tag
seen_in None kept own = Some own
seen_in (Some kind) kept own = if bytes_eq kind (codes "live") then Some own else kept

-- the tag that clients see: a copy's kept one, the row's own where it is live or of a store without marks
abbrev pub seen_tag : List Prop → Tag → Option Tag
seen_tag ps own = seen_in (hidden_text ps hidden.Kind) (kept_tag (mark_of ps)) own

-- a mark put on properties: `$kind`, and for a copy `$tag`
abbrev pub marked : Mark → List Prop → List Prop
marked Live ps = put_prop (hidden_prop hidden.Kind (mark_kind Live)) ps
marked (Copy tag) ps = put_prop (hidden_prop hidden.Tag (tag_text tag)) (put_prop (hidden_prop hidden.Kind (mark_kind (Copy tag))) ps)
marked Tomb ps = put_prop (hidden_prop hidden.Kind (mark_kind Tomb)) ps

-- what the new store keeps of a row of a client: its visible properties with the mark, and of a deleted one the mark alone
abbrev pub stored : Mark → List Prop → List Prop
stored Live ps = marked Live (filter is_visible ps)
stored (Copy tag) ps = marked (Copy tag) (filter is_visible ps)
stored Tomb ps = hidden_prop hidden.Kind (mark_kind Tomb) ∷ []
