-- What clients see of properties: the property of a name that they may give, and whether a filter matches.
use Rattle.std.proofs.Common.{◌≡◌, ℕ, Bool, true, false, cond, not, ◌&&◌, ◌||◌, ◌∙◌, ap, List, [], ◌∷◌, refl, None}
use Rattle.std.specs.Prelude.{bytes_eq, filter}
use Rattle.std.specs.Option.{option_and_then}
use Rattle.std.specs.Ordering.{is_some_and}
use Rattle.std.proofs.lemmas.Slice.Eq.{bytes_eq-Decides}
use Rattle.mt_model.specs.declared.key.Key.{Key}
use Rattle.mt_model.specs.declared.value.Prop.{Prop}
use Rattle.mt_model.specs.declared.value.Value.{Value}
use Rattle.mt_filter.specs.declared.filter.Compare.{Compare}
use Rattle.mt_filter.specs.declared.filter.Field.{Field}
use Rattle.mt_filter.specs.declared.filter.Field.TheVariants.{PartitionKey, RowKey, Property}
use Rattle.mt_filter.specs.Tree.{Tree, test, not as negation, and, or}
use Rattle.mt_model.specs.Name.{is_hidden}
use Rattle.mt_model.specs.Props.{is_visible, value_at}
use Rattle.mt_match.specs.Match.{compared, holds, passes, matches}

-- a name that is not hidden is not that of a hidden property
apart : (b : Bool) (p : Prop) (name : List ℕ) → bytes_eq p.name name ≡ b → is_hidden name ≡ false → is_visible p ≡ false → b ≡ false
apart true p name e h v =
    let same : p.name ≡ name = (bytes_eq-Decides p.name name).0 e in
    let shown : is_hidden p.name ≡ false = rw same h in
    let sees : is_visible p ≡ true = rw shown refl in
    cc
apart false p name e h v = refl

seen_past : (b v : Bool) (p : Prop) (name : List ℕ) (ps fs : List Prop) → bytes_eq p.name name ≡ b → (v ≡ false → b ≡ false)
    → value_at ps name ≡ value_at fs name → value_at (p ∷ ps) name ≡ value_at (cond v (p ∷ fs) fs) name
seen_past true true p name ps fs e f same = rw e refl
seen_past true false p name ps fs e f same = let g = f refl in cc
seen_past false true p name ps fs e f same = rw e same
seen_past false false p name ps fs e f same = rw e same

pub seen : (name : List ℕ) (ps : List Prop) → is_hidden name ≡ false → value_at ps name ≡ value_at (filter is_visible ps) name
seen name [] h = refl
seen name (p ∷ ps) h =
    seen_past (bytes_eq p.name name) (is_visible p) p name ps (filter is_visible ps) refl (λ v. apart (bytes_eq p.name name) p name refl h v) (seen name ps h)

-- a hidden name is not that of a visible property
other : (b : Bool) (p : Prop) (name : List ℕ) → bytes_eq p.name name ≡ b → is_hidden name ≡ true → is_visible p ≡ true → b ≡ false
other true p name e h v =
    let same : p.name ≡ name = (bytes_eq-Decides p.name name).0 e in
    let hides : is_hidden p.name ≡ true = rw same h in
    let sees : is_visible p ≡ false = rw hides refl in
    cc
other false p name e h v = refl

unseen_past : (b v : Bool) (p : Prop) (name : List ℕ) (fs : List Prop) → bytes_eq p.name name ≡ b → (v ≡ true → b ≡ false)
    → value_at fs name ≡ None → value_at (cond v (p ∷ fs) fs) name ≡ None
unseen_past true true p name fs e f none = let g = f refl in cc
unseen_past false true p name fs e f none = rw e none
unseen_past b false p name fs e f none = none

pub unseen : (name : List ℕ) (ps : List Prop) → is_hidden name ≡ true → value_at (filter is_visible ps) name ≡ None
unseen name [] h = refl
unseen name (p ∷ ps) h =
    unseen_past (bytes_eq p.name name) (is_visible p) p name (filter is_visible ps) refl (λ v. other (bytes_eq p.name name) p name refl h v) (unseen name ps h)

-- a filter matches what clients see
same_passes : (field : Field) (compare : Compare) (literal : Value) (key : Key) (ps qs : List Prop) → filter is_visible ps ≡ filter is_visible qs
    → passes field compare literal key ps ≡ passes field compare literal key qs
same_passes PartitionKey compare literal key ps qs e = refl
same_passes RowKey compare literal key ps qs e = refl
same_passes (Property name) compare literal key ps qs e = ap (λ seen. is_some_and (holds compare) (option_and_then (λ value. compared value literal) (value_at seen name))) e

pub same_matches : (t : Tree) (key : Key) (ps qs : List Prop) → filter is_visible ps ≡ filter is_visible qs → matches t key ps ≡ matches t key qs
same_matches (test field compare literal) key ps qs e = same_passes field compare literal key ps qs e
same_matches (negation t) key ps qs e = ap not (same_matches t key ps qs e)
same_matches (and t u) key ps qs e = ap (λ b. b && matches u key ps) (same_matches t key ps qs e) ∙ ap (λ b. matches t key qs && b) (same_matches u key ps qs e)
same_matches (or t u) key ps qs e = ap (λ b. b || matches u key ps) (same_matches t key ps qs e) ∙ ap (λ b. matches t key qs || b) (same_matches u key ps qs e)
