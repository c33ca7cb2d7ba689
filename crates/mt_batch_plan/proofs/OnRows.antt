-- Rows as clients see them: their properties are visible, before and after an operation.
use Rattle.std.proofs.Common.{◌≡◌, ℕ, Bool, true, false, cond, not, ◌&&◌, List, [], ◌∷◌, filter, refl, sym, ap, ◌∙◌, bytes_eq, Some, None, Option, Ok, Err}
use Rattle.std.specs.Prelude.{option_map}
use Rattle.std.specs.List.{list_any}
use Rattle.mt_model.specs.declared.tag.Tag.{Tag}
use Rattle.mt_model.specs.declared.value.Prop.{Prop}
use Rattle.mt_model.specs.declared.name.Hidden.TheVariants as hidden
use Rattle.mt_model.specs.Name.{is_hidden}
use Rattle.mt_model.specs.Props.{is_visible, hidden_text, text_of}
use Rattle.mt_model.specs.Merge.{put_prop, merged}
use Rattle.mt_model.proofs.Merging.{none-put, or_false}
use Rattle.mt_chain.specs.declared.row.Stored.{Stored}
use Rattle.mt_chain.specs.declared.op.Op.{Op}
use Rattle.mt_chain.specs.declared.op.Op.TheVariants.{Insert, Replace, Merge, Delete, InsertOrReplace, InsertOrMerge}
use Rattle.mt_chain.specs.declared.op.Cause.{Cause}
use Rattle.mt_chain.specs.declared.op.Cause.TheVariants.{ConditionFailed}
use Rattle.mt_chain.specs.Rows.{key_at}
use Rattle.mt_chain.specs.Effect.{Outcome, op_key, op_props, meets, writes, limits_cause, unless_refused, merges, effect, any_tag}
use Rattle.mt_chain.specs.Batch.{names}
use Rattle.mt_chain.proofs.KeyLaws.{is_tied, text_same}
use Rattle.mt_rules.proofs.VisibleLaws.{none_hidden}
use Rattle.mt_meta.specs.Marks.{seen_tag, seen_in, kept_tag, mark_of}
use Rattle.mt_meta.specs.Logical.{shown_with, from_old}
use Rattle.mt_meta.specs.Steps.{as_row}
use Rattle.mt_meta.proofs.MarkLaws.{visible_value}

-- ---- visible properties

-- no property is hidden
abbrev pub AreVisible : List Prop → Type 0
AreVisible ps = list_any (λ p. is_hidden p.name) ps ≡ false

pub all_visible : (ps : List Prop) → AreVisible ps → filter is_visible ps ≡ ps
all_visible [] h = refl
all_visible (p ∷ ps) h =
    let parts = or_false (is_hidden p.name) (list_any (λ q. is_hidden q.name) ps) h in
    ap (λ b. cond (not b) (p ∷ filter is_visible ps) (filter is_visible ps)) parts.0 ∙ ap (λ qs. p ∷ qs) (all_visible ps parts.1)

no_kind : (ps : List Prop) → AreVisible ps → hidden_text ps hidden.Kind ≡ None
no_kind ps h = ap (λ qs. hidden_text qs hidden.Kind) (sym (all_visible ps h)) ∙ ap text_of (visible_value hidden.Kind ps)

visible_merged : (own over : List Prop) → AreVisible own → AreVisible over → AreVisible (merged own over)
visible_merged own [] h g = h
visible_merged own (o ∷ over) h g =
    let parts = or_false (is_hidden o.name) (list_any (λ p. is_hidden p.name) over) g in
    visible_merged (put_prop o own) over (none-put (λ p. is_hidden p.name) o own parts.0 h) parts.1

-- a row that is there has visible properties alone
abbrev pub RowVisible : Option Stored → Type 0
RowVisible None = Unit {0}
RowVisible (Some row) = AreVisible row.props

with_visible : (ps : List Prop) (tag : Option Tag) → RowVisible (option_map as_row (shown_with ps tag))
with_visible ps None = tt
with_visible ps (Some tag) = none_hidden ps

-- old's row as clients see it
abbrev pub seen_row : Option Stored → Option Stored
seen_row row = option_map as_row (from_old row)

-- clients see visible properties alone
pub seen_visible : (row : Option Stored) → RowVisible (seen_row row)
seen_visible None = tt
seen_visible (Some row) = with_visible row.props (seen_tag row.props row.tag)

-- a row of visible properties shows itself
pub shows_itself : (ps : List Prop) (tag : Tag) → AreVisible ps → seen_row (Some (record { props = ps; tag = tag })) ≡ Some (record { props = ps; tag = tag })
shows_itself ps tag h =
    ap (λ kind. option_map as_row (shown_with ps (seen_in kind (kept_tag (mark_of ps)) tag))) (no_kind ps h)
    ∙ ap (λ qs. Some (record { props = qs; tag = tag })) (all_visible ps h)

-- ---- effects

-- what is written has that tag
abbrev pub with_tag : Tag → Outcome → Outcome
with_tag tag (Ok None) = Ok None
with_tag tag (Ok (Some row)) = Ok (Some (record { props = row.props; tag = tag }))
with_tag tag (Err cause) = Err cause

met_tag : (met : Bool) (tag : Tag) (a b : Outcome) → a ≡ with_tag tag b → cond met a (Err ConditionFailed) ≡ with_tag tag (cond met b (Err ConditionFailed))
met_tag true tag a b e = e
met_tag false tag a b e = refl

limited_tag : (cause : Option Cause) (ps : List Prop) (tag : Tag) → unless_refused cause (writes ps tag) ≡ with_tag tag (unless_refused cause (writes ps any_tag))
limited_tag None ps tag = refl
limited_tag (Some cause) ps tag = refl

-- the tag that an operation would write has no part in what comes of it, but for being written
pub with_its_tag : (op : Op) (row : Option Stored) (tag : Tag) → effect op row tag ≡ with_tag tag (effect op row any_tag)
with_its_tag (Insert key props) None tag = refl
with_its_tag (Insert key props) (Some row) tag = refl
with_its_tag (Replace key props c) None tag = refl
with_its_tag (Replace key props c) (Some row) tag = met_tag (meets c row.tag) tag (writes props tag) (writes props any_tag) refl
with_its_tag (Merge key props c) None tag = refl
with_its_tag (Merge key props c) (Some row) tag = met_tag (meets c row.tag) tag (merges row.props props tag) (merges row.props props any_tag) (limited_tag (limits_cause (merged row.props props)) (merged row.props props) tag)
with_its_tag (Delete key c) None tag = refl
with_its_tag (Delete key c) (Some row) tag = met_tag (meets c row.tag) tag (Ok None) (Ok None) refl
with_its_tag (InsertOrReplace key props) None tag = refl
with_its_tag (InsertOrReplace key props) (Some row) tag = refl
with_its_tag (InsertOrMerge key props) None tag = refl
with_its_tag (InsertOrMerge key props) (Some row) tag = limited_tag (limits_cause (merged row.props props)) (merged row.props props) tag

-- what an outcome writes is visible
abbrev pub WritesVisible : Outcome → Type 0
WritesVisible (Ok row) = RowVisible row
WritesVisible (Err cause) = Unit {0}

met_visible : (met : Bool) (a : Outcome) → WritesVisible a → WritesVisible (cond met a (Err ConditionFailed))
met_visible true a h = h
met_visible false a h = tt

limited_visible : (cause : Option Cause) (ps : List Prop) → AreVisible ps → WritesVisible (unless_refused cause (writes ps any_tag))
limited_visible None ps h = h
limited_visible (Some cause) ps h = tt

pub writes_visible : (op : Op) (row : Option Stored) → AreVisible (op_props op) → RowVisible row → WritesVisible (effect op row any_tag)
writes_visible (Insert key props) None h g = h
writes_visible (Insert key props) (Some row) h g = tt
writes_visible (Replace key props c) None h g = tt
writes_visible (Replace key props c) (Some row) h g = met_visible (meets c row.tag) (writes props any_tag) h
writes_visible (Merge key props c) None h g = tt
writes_visible (Merge key props c) (Some row) h g = met_visible (meets c row.tag) (merges row.props props any_tag) (limited_visible (limits_cause (merged row.props props)) (merged row.props props) (visible_merged row.props props g h))
writes_visible (Delete key c) None h g = tt
writes_visible (Delete key c) (Some row) h g = met_visible (meets c row.tag) (Ok None) tt
writes_visible (InsertOrReplace key props) None h g = h
writes_visible (InsertOrReplace key props) (Some row) h g = h
writes_visible (InsertOrMerge key props) None h g = h
writes_visible (InsertOrMerge key props) (Some row) h g = limited_visible (limits_cause (merged row.props props)) (merged row.props props) (visible_merged row.props props g h)

-- ---- keys

-- an operation of the partition names a key of it by its row key
pub names_in : (pk rk : List ℕ) (op : Op) → (op_key op).pk ≡ pk → names (key_at pk rk) op ≡ bytes_eq (op_key op).rk rk
names_in pk rk op e = is_tied (op_key op) (key_at pk rk) ∙ ap (λ x. bytes_eq x pk && bytes_eq (op_key op).rk rk) e ∙ ap (λ b. b && bytes_eq (op_key op).rk rk) (text_same pk)
