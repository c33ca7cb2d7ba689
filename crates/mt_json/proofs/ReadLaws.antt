-- The text of an entity's object is read as that object.
use Rattle.std.proofs.Common.{◌≡◌, ℕ, List, [], ◌++◌, Option, Some, option_and_then, option_map, Less, refl, ap, sym, subst, ◌∙◌, append-nil, arith}
use Rattle.std.specs.Prelude.{⊤}
use Rattle.std.specs.Ordering.{nat_cmp, match_ordering, ordering_reverse}
use Rattle.std.specs.Cmp.Lexicographic.{slice_cmp, nat_list_cmp_total}
use Rattle.json.specs.Tree.{MembersHaveNumbers, json_tokens, members_depth}
use Rattle.json.specs.Token.{Token}
use Rattle.json.specs.Lex.{tokens}
use Rattle.json.specs.Json as json
use Rattle.json.proofs.Printed.Tokens.{tokens-print}
use Rattle.json.proofs.Printed.Trees.{value-json_tokens, ArePrintable-json_tokens}
use Rattle.serde_json.specs.Data.{Data, object, Members, no_members, member, put}
use Rattle.serde_json.specs.Read.{read, max_depth, of_json, of_members}
use Rattle.serde_json.specs.Written.{outline, members_outline, compact_text}
use Rattle.serde_json.proofs.Texts.{print-outline}
use Rattle.mt_model.specs.declared.entity.Entity.{Entity}
use Rattle.mt_json.specs.declared.write.Level.{Level}
use Rattle.mt_json.specs.Written.{IsObjectOf, put_system}
use Rattle.mt_json.proofs.WrittenLaws.{IsBelow, AreLeaves, leaves-object}

-- the members of the one and then those of the other
abbrev joined : Members → Members → Members
joined no_members high = high
joined (member k d low) high = member k d (joined low high)

joined_assoc : (a b c : Members) → joined (joined a b) c ≡ joined a (joined b c)
joined_assoc no_members b c = refl
joined_assoc (member k d a) b c = ap (member k d) (joined_assoc a b c)

joined_none : (a : Members) → joined a no_members ≡ a
joined_none no_members = refl
joined_none (member k d a) = ap (member k d) (joined_none a)

-- each name of the first is below this one
abbrev AreBelow : Members → List ℕ → Type 0
AreBelow no_members k = ⊤
AreBelow (member l d low) k = (slice_cmp nat_cmp l k ≡ Less) × AreBelow low k

-- each name of the first is below all of the second
abbrev AreApart : Members → Members → Type 0
AreApart low no_members = ⊤
AreApart low (member k d high) = AreBelow low k × AreApart low high

below_joined : (low high : Members) (k : List ℕ) → AreBelow low k → AreBelow high k → AreBelow (joined low high) k
below_joined no_members high k a b = b
below_joined (member l d low) high k a b = (a.0, below_joined low high k a.1 b)

apart_more : (low : Members) (k : List ℕ) (d : Data) (high : Members) → AreApart low high → IsBelow k high → AreApart (joined low (member k d no_members)) high
apart_more low k d no_members a b = tt
apart_more low k d (member l e high) a b = (below_joined low (member k d no_members) l a.0 (b.0, tt), apart_more low k d high a.1 b.1)

apart_none : (high : Members) → AreApart no_members high
apart_none no_members = tt
apart_none (member k d high) = (tt, apart_none high)

-- a name above all goes last
put_last : (k : List ℕ) (d : Data) (low : Members) → AreBelow low k → put k d low ≡ joined low (member k d no_members)
put_last k d no_members h = refl
put_last k d (member l e low) h =
    let above = nat_list_cmp_total.antisymm k l ∙ ap ordering_reverse h.0 in
    ap (λ o. match_ordering o (member k d (member l e low)) (member l d low) (member l e (put k d low))) above ∙ ap (member l e) (put_last k d low h.1)

members_back : (low high : Members) → AreLeaves high → AreApart low high → of_members (members_outline high) low ≡ Some (joined low high)
members_back low no_members h a = ap Some (sym (joined_none low))
members_back low (member k d high) h a =
    ap (option_and_then (λ d. of_members (members_outline high) (put k d low))) h.0.0.back
    ∙ ap (of_members (members_outline high)) (put_last k d low a.0)
    ∙ members_back (joined low (member k d no_members)) high h.1 (apart_more low k d high a.1 h.0.1)
    ∙ ap Some (joined_assoc low (member k d no_members) high)

members_numbers : (ms : Members) → AreLeaves ms → MembersHaveNumbers (members_outline ms)
members_numbers no_members h = tt
members_numbers (member k d ms) h = (h.0.0.numbers, members_numbers ms h.1)

members_low : (ms : Members) → AreLeaves ms → members_depth (members_outline ms) ≡ 0
members_low no_members h = refl
members_low (member k d ms) h = rw (h.0.0.low, members_low ms h.1)

-- the data of a JSON value that no tokens follow
abbrev whole : Option (json.Json × List Token) → Option Data
whole o = option_and_then of_json (option_and_then (λ p. json.if_last p.0 p.1) o)

object_back : (ms : Members) → AreLeaves ms → read (compact_text (object ms)) ≡ Some (object ms)
object_back ms h =
    let j = outline (object ms) in
    let same : tokens (compact_text (object ms)) ≡ json_tokens j ++ [] =
    ap tokens (sym (print-outline (object ms))) ∙ tokens-print (json_tokens j) (ArePrintable-json_tokens j (members_numbers ms h)) ∙ sym (append-nil (json_tokens j)) in
    ap whole (ap (json.value max_depth) same ∙ value-json_tokens j max_depth [] (omega (arith, members_low ms h)))
    ∙ ap (option_map object) (members_back no_members ms h (apart_none ms))

pub read_back : (e : Entity) (l : Level) (chosen : Option (List (List ℕ))) (d : Data) → IsObjectOf e l chosen d → read (compact_text d) ≡ Some d
read_back e l chosen d (ms, adds, is) =
    subst (λ d. read (compact_text d) ≡ Some d) (sym is) (object_back (put_system l chosen e ms) (leaves-object e l chosen ms adds))
