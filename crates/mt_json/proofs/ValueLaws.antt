-- What texts are values of a type.
use Rattle.std.proofs.Common.{◌≡◌, ℕ, List, [], Option, Some, None, true≢false, is_none, unwrap_or, option_map, option_and_then, sym, ap, ◌∙◌, subst}
use Rattle.serde_json.specs.Data.{Data}
use Rattle.uuid.specs.Text.{parsed_hyphenated}
use Rattle.serde_json.specs.Find.{as_str}
use Rattle.mt_model.specs.declared.value.Value.TheVariants as value
use Rattle.mt_time.specs.Moment.{HasTicks, HasNoTicks}
use Rattle.mt_json.specs.declared.kind.Kind.TheVariants.{Guid, DateTime}
use Rattle.mt_json.specs.Value.{IsMoment, IsValue, HasNoValue}

no_ticks : (d : Data) (text : List ℕ) → Some text ≡ as_str d → HasNoTicks text → (ticks : _) → IsMoment d ticks → ⊥
no_ticks d text is none ticks (other, named, has) =
    none ticks (subst (λ t. HasTicks t ticks) (sym (ap (λ o. unwrap_or o []) (is ∙ named))) has)

pub no_moment : (d : Data) (text : List ℕ) → Some text ≡ as_str d → HasNoTicks text → HasNoValue DateTime d
no_moment d text is none v h = no_ticks d text is none h.0 h.1

guid_is : (d : Data) (text : List ℕ) (found : Option (List ℕ)) → Some text ≡ as_str d → found ≡ parsed_hyphenated text
    → option_map value.Guid (option_and_then parsed_hyphenated (as_str d)) ≡ option_map value.Guid found
guid_is d text found is e = ap (λ o. option_map value.Guid (option_and_then parsed_hyphenated o)) (sym is) ∙ ap (option_map value.Guid) (sym e)

pub some_guid : (d : Data) (text bytes : List ℕ) → Some text ≡ as_str d → Some bytes ≡ parsed_hyphenated text → IsValue Guid d (value.Guid bytes)
some_guid d text bytes is e = guid_is d text (Some bytes) is e

pub no_guid : (d : Data) (text : List ℕ) → Some text ≡ as_str d → None ≡ parsed_hyphenated text → HasNoValue Guid d
no_guid d text is e v h = true≢false (ap is_none (sym (guid_is d text None is e) ∙ h))
