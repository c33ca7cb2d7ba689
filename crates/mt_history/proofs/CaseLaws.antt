-- A row is inserted, and then a second time, which is refused: that is a legal history.
use Rattle.std.proofs.Common.{◌≡◌, ◌∙◌, ℕ, zero, suc, ◌+◌, true, cond, ◌&&◌, bytes_eq, List, [], ◌∷◌, map, refl, ap, subst, sym, arith, Some, None, MatchOption}
use Rattle.std.proofs.lemmas.Bool.{eq-eqb}
use Rattle.std.specs.Option.{is_some, option_or, option_map}
use Rattle.std.specs.List.{All, Contains, last_or}
use Rattle.std.specs.Ordering.{eq_by_cmp}
use Rattle.mt_model.specs.declared.key.Key.{Key}
use Rattle.mt_model.specs.declared.tag.Tag.{Tag}
use Rattle.mt_model.specs.declared.value.Prop.{Prop}
use Rattle.mt_model.specs.Key.{key_cmp}
use Rattle.mt_chain.specs.declared.op.Op.TheVariants.{Insert}
use Rattle.mt_chain.specs.Table.{empty_table}
use Rattle.mt_chain.specs.Effect.{cause_on}
use Rattle.mt_chain.specs.Batch.{row_after, refusal_at}
use Rattle.mt_chain.proofs.KeyLaws.{is_tied, text_same}
use Rattle.mt_history.specs.declared.entry.Entry.{Entry}
use Rattle.mt_history.specs.Window.{begun, table_at_end}
use Rattle.mt_history.specs.Legal.{IsLegal, IsLegalNext, IsNew, IsGone, HasTag}
use Rattle.mt_history.specs.Cases.{first_insert, second_insert, two_inserts}
use Rattle.mt_history.proofs.WindowLaws.{nothing_is_legal, legal_grows}

ties_itself : (key : Key) → eq_by_cmp key_cmp key key ≡ true
ties_itself key = is_tied key key ∙ ap (λ b. b && bytes_eq key.rk key.rk) (text_same key.pk) ∙ text_same key.rk

all_of_one : {X : Type 0} (P : X → Type 0) (x : X) → P x → All P (x ∷ [])
all_of_one P x p zero d l = p
all_of_one P x p (suc k) d l = absurd (omega arith)

nothing_has : (tag : Tag) → HasTag empty_table tag → ⊥
nothing_has tag (key, row, there, same) = absurd cc

nothing_in : (tag : Tag) → Contains [] tag → ⊥
nothing_in tag (k, within, same) = absurd (omega (arith, within))

first_is_legal : (caller : ℕ) (key : Key) (props : List Prop) (tag : Tag) → IsLegalNext (begun (two_inserts caller key props tag) []) (first_insert caller key props tag)
first_is_legal caller key props tag =
    let w = begun (two_inserts caller key props tag) [] in
    record {
      says = record {
        accepted = refl;
        each = refl;
        apart = λ i j d ij jl. absurd (omega arith);
        fresh = all_of_one (IsNew w) tag (record { base = nothing_has tag; entries = nothing_in tag });
        gone = all_of_one (IsGone (table_at_end w)) (Insert key props, tag) (λ deletes. absurd cc);
      };
      number = λ whole. refl;
    }

second_is_legal : (caller : ℕ) (key : Key) (props : List Prop) (tag : Tag) → IsLegalNext (begun (two_inserts caller key props tag) (first_insert caller key props tag ∷ [])) (second_insert caller key props)
second_is_legal caller key props tag =
    let first = first_insert caller key props tag in
    let begun_at : ℕ = 0 in
    let one : ℕ = 1 in
    record {
      says = ap (λ b. is_some (option_or (option_map (refusal_at 0) (cause_on (Insert key props) (row_after (cond b (Some (Insert key props, tag)) None) None))) None)) (ties_itself key);
      number = subst (λ b. MatchOption (last_or None (map (λ (e : Entry). e.number) (cond b (first ∷ []) []))) (begun_at ≡ 0 → one ≡ 0) (λ last. one ≡ last + 1)) (sym (eq-eqb caller caller refl)) refl;
    }

pub two_inserts_are_legal : (caller : ℕ) (key : Key) (props : List Prop) (tag : Tag) → IsLegal (two_inserts caller key props tag)
two_inserts_are_legal caller key props tag =
    let whole = two_inserts caller key props tag in
    let first = first_insert caller key props tag in
    legal_grows (begun whole (first ∷ [])) (second_insert caller key props)
    (legal_grows (begun whole []) first (nothing_is_legal (begun whole []) refl) (first_is_legal caller key props tag))
    (second_is_legal caller key props tag)
