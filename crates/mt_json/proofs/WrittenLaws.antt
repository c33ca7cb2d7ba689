-- What is written is flat and has no floats.
use Rattle.std.proofs.Common.{◌≡◌, ℕ, Bool, true, false, List, [], ◌∷◌, Option, Some, None, Ordering, Less, Equal, Greater, ℤ, pos, negsuc, cond, refl, ap, ◌∙◌, sym, subst, arith, inl, inr, codes}
use Rattle.std.specs.Prelude.{⊤, ◌^◌, ◌<◌, ◌&&◌, nat_lt, int_le, option_map, option_and_then}
use Rattle.std.proofs.lemmas.Bool.{ltb-true, leb-true}
use Rattle.std.specs.Ordering.{nat_cmp, match_ordering, ordering_reverse}
use Rattle.std.specs.Cmp.Lexicographic.{slice_cmp, nat_list_cmp_total}
use Rattle.json.specs.Tree.{HasNumbers, depth as json_depth}
use Rattle.json.proofs.Printed.Decimals.{IsNumber-decimal, IsNumber-signed_decimal}
use Rattle.serde_json.proofs.Numbers.{number_of-decimal, number_of-negative}
use Rattle.serde_json.specs.Data.{Data, string, number, object, Members, no_members, member, put, depth}
use Rattle.serde_json.specs.Find.{of_integer}
use Rattle.serde_json.specs.Read.{of_json}
use Rattle.serde_json.specs.Written.{has_float, outline}
use Rattle.mt_model.specs.Tag.{tag_text}
use Rattle.mt_model.specs.declared.entity.Entity.{Entity}
use Rattle.mt_model.specs.declared.key.Key.{Key}
use Rattle.mt_model.specs.declared.value.Prop.{Prop}
use Rattle.mt_model.specs.declared.value.Value.{Value}
use Rattle.mt_model.specs.declared.value.Value.TheVariants.{Str, Binary, Bool as Boolean, Int32, Int64, Guid, Moment}
use Rattle.mt_json.specs.declared.write.Level.{Level}
use Rattle.mt_json.specs.declared.write.Level.TheVariants as level
use Rattle.mt_json.specs.Kind.{type_key}
use Rattle.mt_json.specs.Value.{int32_in}
use Rattle.mt_json.specs.Tagged.{with_tag}
use Rattle.mt_json.specs.Written.{type_name, Shows, IsReadBack, is_chosen, put_chosen, put_type, put_etag, put_system, AddsProp, AddProps, put_keys, IsShown, IsObjectOf}

-- no float, nothing inside, no place for the tag, and what is printed is read back
pub record IsLeaf (d : Data) : Type 0 where
  pub exact : has_float d ≡ false
  pub flat : depth d ≡ 0
  pub given : (tag : List ℕ) → with_tag tag d ≡ d
  pub back : of_json (outline d) ≡ Some d
  pub numbers : HasNumbers (outline d)
  pub low : json_depth (outline d) ≡ 0

abbrev cmp : List ℕ → List ℕ → Ordering
cmp = slice_cmp nat_cmp

-- the name is below the names of these
abbrev pub IsBelow : List ℕ → Members → Type 0
IsBelow k no_members = ⊤
IsBelow k (member l d ms) = (cmp k l ≡ Less) × IsBelow k ms

-- leaves with rising names
abbrev pub AreLeaves : Members → Type 0
AreLeaves no_members = ⊤
AreLeaves (member k d ms) = (IsLeaf d × IsBelow k ms) × AreLeaves ms

below-all : (k l : List ℕ) (ms : Members) → cmp k l ≡ Less → IsBelow l ms → IsBelow k ms
below-all k l no_members e h = tt
below-all k l (member m d ms) e h = (nat_list_cmp_total.trans k l m e h.0, below-all k l ms e h.1)

below-match : (o : Ordering) (q k l : List ℕ) (d e : Data) (ms : Members) → cmp q k ≡ Less → cmp q l ≡ Less → IsBelow q ms → IsBelow q (put k d ms)
    → IsBelow q (match_ordering o (member k d (member l e ms)) (member l d ms) (member l e (put k d ms)))
below-match Less q k l d e ms a b h later = (a, (b, h))
below-match Equal q k l d e ms a b h later = (b, h)
below-match Greater q k l d e ms a b h later = (b, later)

below-put : (q k : List ℕ) (d : Data) (ms : Members) → cmp q k ≡ Less → IsBelow q ms → IsBelow q (put k d ms)
below-put q k d no_members a h = (a, tt)
below-put q k d (member l e ms) a h = below-match (cmp k l) q k l d e ms a h.0 h.1 (below-put q k d ms a h.1)

leaves-match : (o : Ordering) (k l : List ℕ) (d e : Data) (ms : Members) → cmp k l ≡ o → IsLeaf d → IsLeaf e × IsBelow l ms → AreLeaves ms → AreLeaves (put k d ms)
    → AreLeaves (match_ordering o (member k d (member l e ms)) (member l d ms) (member l e (put k d ms)))
leaves-match Less k l d e ms o a b c later = ((a, (o, below-all k l ms o b.1)), (b, c))
leaves-match Equal k l d e ms o a b c later = ((a, b.1), c)
leaves-match Greater k l d e ms o a b c later =
    ((b.0, below-put l k d ms (nat_list_cmp_total.antisymm l k ∙ ap ordering_reverse o) b.1), later)

leaves-put : (k : List ℕ) (d : Data) (ms : Members) → IsLeaf d → AreLeaves ms → AreLeaves (put k d ms)
leaves-put k d no_members a h = ((a, tt), tt)
leaves-put k d (member l e ms) a h = leaves-match (cmp k l) k l d e ms refl a h.0 h.1 (leaves-put k d ms a h.1)

leaf-text : (text : List ℕ) → IsLeaf (string text)
leaf-text text = record { exact = refl; flat = refl; given = λ tag. refl; back = refl; numbers = tt; low = refl }

small_pos : (n : ℕ) (b : Bool) → nat_lt n (2 ^ 63) ≡ b
    → option_map Int32 (option_and_then int32_in (cond b (Some (pos n)) None)) ≡ Some (Int32 (pos n)) → n < 2 ^ 63
small_pos n true e h = ltb-true n (2 ^ 63) e
small_pos n false e h = cc

small_neg : (n : ℕ) (b : Bool) → int_le (negsuc 2147483647) (negsuc n) ≡ b
    → option_map Int32 (cond (b && int_le (negsuc n) (pos 2147483647)) (Some (negsuc n)) None) ≡ Some (Int32 (negsuc n)) → n < 2 ^ 63
small_neg n true e h = let small = leb-true n 2147483647 e in omega (arith, small)
small_neg n false e h = cc

leaf-number : (z : ℤ) → IsReadBack (Int32 z) (number (of_integer z)) → IsLeaf (number (of_integer z))
leaf-number (pos n) h =
    let small = small_pos n (nat_lt n (2 ^ 63)) refl h in
    record {
      exact = refl;
      flat = refl;
      given = λ tag. refl;
      back = ap (option_map number) (number_of-decimal n (omega (arith, small)));
      numbers = IsNumber-decimal n (omega (arith, small));
      low = refl;
    }
leaf-number (negsuc n) h =
    let small = small_neg n (int_le (negsuc 2147483647) (negsuc n)) refl h in
    record {
      exact = refl;
      flat = refl;
      given = λ tag. refl;
      back = ap (option_map number) (number_of-negative n small);
      numbers = IsNumber-signed_decimal (negsuc n) (omega (arith, small));
      low = refl;
    }

leaf-shown : (v : Value) (d : Data) → Shows v d → IsReadBack v d → IsLeaf d
leaf-shown (Str text) d e back = subst IsLeaf (sym e) (leaf-text text)
leaf-shown (Boolean b) d e back = subst IsLeaf (sym e) (record { exact = refl; flat = refl; given = λ tag. refl; back = refl; numbers = tt; low = refl })
leaf-shown (Int32 z) d e back = subst IsLeaf (sym e) (leaf-number z (subst (IsReadBack (Int32 z)) e back))
leaf-shown (Binary bytes) d e back = subst IsLeaf (sym e) (leaf-text _)
leaf-shown (Int64 z) d e back = subst IsLeaf (sym e) (leaf-text _)
leaf-shown (Guid bytes) d e back = subst IsLeaf (sym e) (leaf-text _)
leaf-shown (Moment ticks) d h back = subst IsLeaf (sym h.1) (leaf-text h.0)

leaves-type : (l : Level) (name : List ℕ) (type : Option (List ℕ)) (ms : Members) → AreLeaves ms → AreLeaves (put_type l name type ms)
leaves-type level.None name type ms h = h
leaves-type level.Minimal name None ms h = h
leaves-type level.Minimal name (Some type) ms h = leaves-put (type_key name) (string type) ms (leaf-text type) h

leaves-if : (b : Bool) (name text : List ℕ) (ms : Members) → AreLeaves ms → AreLeaves (cond b (put name (string text) ms) ms)
leaves-if true name text ms h = leaves-put name (string text) ms (leaf-text text) h
leaves-if false name text ms h = h

leaves-etag : (l : Level) (tag : List ℕ) (ms : Members) → AreLeaves ms → AreLeaves (put_etag l tag ms)
leaves-etag level.None tag ms h = h
leaves-etag level.Minimal tag ms h = leaves-put _ (string tag) ms (leaf-text tag) h

leaves-prop : (l : Level) (chosen : Option (List (List ℕ))) (p : Prop) (old new : Members) → AddsProp l chosen p old new → AreLeaves old → AreLeaves new
leaves-prop l chosen p old new (inl h) a = subst AreLeaves (sym h.1) a
leaves-prop l chosen p old new (inr (shown, (d, shows, back, is))) a =
    subst AreLeaves (sym is) (leaves-type l p.name (type_name p.value) (put p.name d old) (leaves-put p.name d old (leaf-shown p.value d shows back) a))

leaves-props : (l : Level) (chosen : Option (List (List ℕ))) (ps : List Prop) (old new : Members) → AddProps l chosen ps old new → AreLeaves old → AreLeaves new
leaves-props l chosen [] old new is a = subst AreLeaves (sym is) a
leaves-props l chosen (p ∷ ps) old new (between, first, rest) a =
    leaves-props l chosen ps between new rest (leaves-prop l chosen p old between first a)

leaves-keys : (chosen : Option (List (List ℕ))) (key : Key) (ms : Members) → AreLeaves ms → AreLeaves (put_keys chosen key ms)
leaves-keys chosen key ms a =
    let pk = leaves-if (is_chosen chosen (codes "PartitionKey")) (codes "PartitionKey") key.pk ms a in
    leaves-if (is_chosen chosen (codes "RowKey")) (codes "RowKey") key.rk (put_chosen chosen (codes "PartitionKey") key.pk ms) pk

leaves-system : (l : Level) (chosen : Option (List (List ℕ))) (e : Entity) (ms : Members) → AreLeaves ms → AreLeaves (put_system l chosen e ms)
leaves-system l chosen e ms a = leaves-etag l (tag_text e.tag) (put_keys chosen e.key ms) (leaves-keys chosen e.key ms a)

pub leaves-object : (e : Entity) (l : Level) (chosen : Option (List (List ℕ))) (ms : Members) → AddProps l chosen e.props no_members ms → AreLeaves (put_system l chosen e ms)
leaves-object e l chosen ms h = leaves-system l chosen e ms (leaves-props l chosen e.props no_members ms h tt)

pub leaves-shown : (key : Key) (ps : List Prop) (l : Level) (chosen : Option (List (List ℕ))) (ms : Members) → IsShown key ps l chosen ms → AreLeaves ms
leaves-shown key ps l chosen ms (shown, adds, is) =
    subst AreLeaves (sym is) (leaves-keys chosen key shown (leaves-props l chosen ps no_members shown adds tt))

-- the members with the tag make the entity's object
pub object-shown : (e : Entity) (l : Level) (chosen : Option (List (List ℕ))) (ms : Members) → IsShown e.key e.props l chosen ms
    → IsObjectOf e l chosen (object (put_etag l (tag_text e.tag) ms))
object-shown e l chosen ms (shown, adds, is) = (shown, adds, ap (λ ms. object (put_etag l (tag_text e.tag) ms)) is)
