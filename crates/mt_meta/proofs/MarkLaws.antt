-- What is stored reads back.
use Rattle.std.proofs.Common.{◌≡◌, ◌≢◌, ℕ, Bool, true, false, not, cond, List, [], ◌∷◌, Option, Some, None, refl, sym, ap, ◌∙◌, option_map}
use Rattle.std.specs.Prelude.{bytes_eq, filter, codes, find, IsPermutation}
use Rattle.std.proofs.lemmas.List.{nil_from_length}
use Rattle.std.proofs.lemmas.List.Sorted.{length_permutation}
use Rattle.mt_model.specs.declared.value.Prop.{Prop}
use Rattle.mt_model.specs.declared.tag.Tag.{Tag}
use Rattle.mt_model.specs.declared.name.Hidden.{Hidden}
use Rattle.mt_model.specs.declared.name.Hidden.TheVariants as hidden
use Rattle.mt_model.specs.Tag.{tag_text, IsTag}
use Rattle.mt_model.specs.Name.{is_hidden, hidden_name}
use Rattle.mt_model.specs.Props.{is_visible, value_at, text_of, hidden_text, hidden_prop}
use Rattle.mt_model.specs.Merge.{put_prop}
use Rattle.mt_model.proofs.Merging.{or_false}
use Rattle.mt_model.proofs.Values.{value_put, hidden_put, visible_put}
use Rattle.mt_meta.specs.declared.mark.Mark.TheVariants.{Live, Copy}
use Rattle.mt_meta.specs.TagTexts.{read_tag}
use Rattle.mt_meta.specs.Marks.{copy_named, mark_of, stored}
use Rattle.mt_meta.proofs.TextLaws.{read_is, text_read, none_read}

pub no_props : (ps : List Prop) → IsPermutation [] ps → ps ≡ []
no_props ps p = nil_from_length ps (length_permutation [] ps p)

not_hidden : (b : Bool) → not b ≡ true → b ≡ false
not_hidden true e = cc
not_hidden false e = refl

differs : (which : Hidden) (name : List ℕ) → is_hidden name ≡ false → bytes_eq name (hidden_name which) ≡ false
differs hidden.Kind name e = (or_false (bytes_eq name (codes "$kind")) (bytes_eq name (codes "$tag")) e).0
differs hidden.Tag name e = (or_false (bytes_eq name (codes "$kind")) (bytes_eq name (codes "$tag")) e).1

value_step : (b : Bool) (p : Prop) (rest : Option Prop) → b ≡ false
    → option_map (λ (q : Prop). q.value) (cond b (Some p) rest) ≡ option_map (λ (q : Prop). q.value) rest
value_step true p rest e = absurd cc
value_step false p rest e = refl

visible_step : (b : Bool) (which : Hidden) (p : Prop) (qs : List Prop) → is_visible p ≡ b → value_at qs (hidden_name which) ≡ None
    → value_at (cond b (p ∷ qs) qs) (hidden_name which) ≡ None
visible_step true which p qs e h =
    let name : List ℕ = hidden_name which in
    let other : bytes_eq p.name name ≡ false = differs which p.name (not_hidden (is_hidden p.name) e) in
    value_step (bytes_eq p.name name) p (find (λ (q : Prop). bytes_eq q.name name) qs) other ∙ h
visible_step false which p qs e h = h

-- no visible property has a hidden one's name
pub visible_value : (which : Hidden) (ps : List Prop) → value_at (filter is_visible ps) (hidden_name which) ≡ None
visible_value which [] = refl
visible_value which (p ∷ ps) = visible_step (is_visible p) which p (filter is_visible ps) refl (visible_value which ps)

-- properties of a client have no mark
pub client_unmarked : (ps : List Prop) → filter is_visible ps ≡ ps → mark_of ps ≡ None
client_unmarked ps h =
    let k : hidden_text ps hidden.Kind ≡ None = ap text_of (ap (λ (qs : List Prop). value_at qs (hidden_name hidden.Kind)) (sym h) ∙ visible_value hidden.Kind ps) in
    rw k refl

-- `$kind` alone was put on visible properties
abbrev kind_put : List ℕ → List Prop → List Prop
kind_put kind ps = put_prop (hidden_prop hidden.Kind kind) (filter is_visible ps)

no_tag : (kind : List ℕ) (ps : List Prop) → value_at (kind_put kind ps) (hidden_name hidden.Tag) ≡ None
no_tag kind ps = value_put (hidden_prop hidden.Kind kind) (filter is_visible ps) (hidden_name hidden.Tag) ∙ visible_value hidden.Tag ps

pub live_reads : (ps : List Prop) → mark_of (stored Live ps) ≡ Some Live
live_reads ps =
    let k : hidden_text (stored Live ps) hidden.Kind ≡ Some (codes "live") = hidden_put hidden.Kind (codes "live") (filter is_visible ps) in
    let t : hidden_text (stored Live ps) hidden.Tag ≡ None = ap text_of (no_tag (codes "live") ps) in
    rw (k, t) refl

pub copy_reads : (tag : Tag) (ps : List Prop) → IsTag tag → mark_of (stored (Copy tag) ps) ≡ Some (Copy tag)
copy_reads tag ps h =
    let inner : List Prop = kind_put (codes "copy") ps in
    let same : value_at (stored (Copy tag) ps) (hidden_name hidden.Kind) ≡ value_at inner (hidden_name hidden.Kind) =
    value_put (hidden_prop hidden.Tag (tag_text tag)) inner (hidden_name hidden.Kind) in
    let k : hidden_text (stored (Copy tag) ps) hidden.Kind ≡ Some (codes "copy") =
    ap text_of same ∙ hidden_put hidden.Kind (codes "copy") (filter is_visible ps) in
    let t : hidden_text (stored (Copy tag) ps) hidden.Tag ≡ Some (tag_text tag) = hidden_put hidden.Tag (tag_text tag) inner in
    rw (k, t, read_is tag h) refl

-- the text of a kept tag, read or not
pub copy_named_is : (kind text : List ℕ) (t : Tag) → bytes_eq kind (codes "copy") ≡ true → IsTag t → text ≡ tag_text t → Some (Copy t) ≡ copy_named kind text
copy_named_is kind text t e h f = rw (e, text_read text t h f) refl

no_copy : (b : Bool) (tag : Option Tag) → tag ≡ None → None ≡ cond b (option_map Copy tag) None
no_copy true tag e = rw e refl
no_copy false tag e = refl

pub copy_named_none : (kind text : List ℕ) → ((t : Tag) → IsTag t → text ≢ tag_text t) → None ≡ copy_named kind text
copy_named_none kind text none = no_copy (bytes_eq kind (codes "copy")) (read_tag text) (none_read text none)

visible_once : (b : Bool) (p : Prop) (qs rs : List Prop) → is_visible p ≡ b → filter is_visible qs ≡ rs → filter is_visible (cond b (p ∷ qs) qs) ≡ cond b (p ∷ rs) rs
visible_once true p qs rs e h = rw (e, h) refl
visible_once false p qs rs e h = h

pub visible_twice : (ps : List Prop) → filter is_visible (filter is_visible ps) ≡ filter is_visible ps
visible_twice [] = refl
visible_twice (p ∷ ps) = visible_once (is_visible p) p (filter is_visible ps) (filter is_visible ps) refl (visible_twice ps)

-- clients see the same properties of what is stored
pub live_visible : (ps : List Prop) → filter is_visible (stored Live ps) ≡ filter is_visible ps
live_visible ps = visible_put hidden.Kind (codes "live") (filter is_visible ps) ∙ visible_twice ps

pub copy_visible : (tag : Tag) (ps : List Prop) → filter is_visible (stored (Copy tag) ps) ≡ filter is_visible ps
copy_visible tag ps =
    visible_put hidden.Tag (tag_text tag) (kind_put (codes "copy") ps) ∙ visible_put hidden.Kind (codes "copy") (filter is_visible ps) ∙ visible_twice ps
