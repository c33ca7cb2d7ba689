-- A member gives one answer.
use Rattle.std.proofs.Common.{◌≡◌, inl, inr, ℕ, ℤ, pos, List, Option, Some, None, Result, Ok, Err, unwrap_or, is_some, MatchOption, refl, sym, ap, ap₂, ◌∙◌, subst, true≢false}
use Rattle.serde_json.specs.Data.{Data, null, boolean, number, string, array, object}
use Rattle.serde_json.specs.Find.{as_str}
use Rattle.std.specs.Str.Parse.{signed_digits_value}
use Rattle.mt_time.specs.Moment.{HasTicks, ticks_of}
use Rattle.mt_time.proofs.TextLaws.{text_unique, wide}
use Rattle.mt_model.specs.declared.value.Value.{Value}
use Rattle.mt_model.specs.declared.value.Value.TheVariants as value
use Rattle.mt_model.specs.declared.value.Prop.{Prop}
use Rattle.mt_json.specs.declared.kind.Kind.{Kind}
use Rattle.mt_json.specs.declared.kind.Kind.TheVariants.{Untyped, String, Boolean, Int32, Int64, Guid, DateTime, Binary, Double, Unknown}
use Rattle.mt_json.specs.declared.read.KeyUse.{KeyUse}
use Rattle.mt_json.specs.declared.read.JsonFault.{JsonFault}
use Rattle.mt_json.specs.declared.read.JsonFault.TheVariants.{BadType}
use Rattle.mt_json.specs.Value.{IsValue, HasNoValue, IsInt64, IsMoment, int64_of}
use Rattle.mt_json.specs.Body.{Gives}

some_same : {A : Type 0} (o : Option A) (a b : A) → o ≡ Some a → o ≡ Some b → a ≡ b
some_same o a b h k = ap (λ o. unwrap_or o a) (sym h ∙ k)

text_or_number : (d : Data) (text : List ℕ) (z : ℤ) → as_str d ≡ Some text → int64_of d ≡ Some z → ⊥
text_or_number null text z h k = true≢false (sym (ap is_some h))
text_or_number (boolean b) text z h k = true≢false (sym (ap is_some h))
text_or_number (number n) text z h k = true≢false (sym (ap is_some h))
text_or_number (string s) text z h k = true≢false (sym (ap is_some k))
text_or_number (array ds) text z h k = true≢false (sym (ap is_some h))
text_or_number (object ms) text z h k = true≢false (sym (ap is_some h))

int64_same : (d : Data) (y z : ℤ) → IsInt64 d y → IsInt64 d z → y ≡ z
int64_same d y z (inl h) (inl k) = some_same (int64_of d) y z h k
int64_same d y z (inl h) (inr k) = absurd (text_or_number d k.0 y k.1 h)
int64_same d y z (inr h) (inl k) = absurd (text_or_number d h.0 z h.1 k)
int64_same d y z (inr h) (inr k) =
    h.2.value ∙ ap (signed_digits_value 10) (some_same (as_str d) h.0 k.0 h.1 k.1) ∙ sym k.2.value

ticks_same : (text : List ℕ) (y z : ℤ) → HasTicks text y → HasTicks text z → y ≡ z
ticks_same text y z h k =
    let same = text_unique h.0 k.0 (wide h.0 h.1) (wide k.0 k.1) (sym h.2 ∙ k.2) in
    h.3 ∙ ap (λ p. pos (ticks_of p)) same ∙ sym k.3

moment_same : (d : Data) (y z : ℤ) → IsMoment d y → IsMoment d z → y ≡ z
moment_same d y z h k =
    ticks_same k.0 y z (subst (λ t. HasTicks t y) (some_same (as_str d) h.0 k.0 h.1 k.1) h.2) k.2

pub value_same : (kind : Kind) (d : Data) (v w : Value) → IsValue kind d v → IsValue kind d w → v ≡ w
value_same Untyped d v w h k = some_same _ v w h k
value_same String d v w h k = some_same _ v w h k
value_same Boolean d v w h k = some_same _ v w h k
value_same Int32 d v w h k = some_same _ v w h k
value_same Int64 d v w h k = h.2 ∙ ap value.Int64 (int64_same d h.0 k.0 h.1 k.1) ∙ sym k.2
value_same Guid d v w h k = some_same _ v w h k
value_same DateTime d v w h k = h.2 ∙ ap value.Moment (moment_same d h.0 k.0 h.1 k.1) ∙ sym k.2
value_same Binary d v w h k = some_same _ v w h k
value_same Double d v w h k = absurd h
value_same Unknown d v w h k = absurd h

prop_of : List ℕ → Value → Prop
prop_of n v = record { name = n; value = v }

prop_same : (p q : Prop) → p.name ≡ q.name → p.value ≡ q.value → p ≡ q
unfolding prop_of
prop_same p q n v = ap₂ prop_of n v

pub gives_same : (keys : KeyUse) (kind : Kind) (name : List ℕ) (d : Data) (r : Result (Option Prop) JsonFault) (p : Option Prop)
    → Gives keys kind name d r → Gives keys kind name d (Ok p) → r ≡ Ok p
gives_same keys kind name d (Ok None) None h k = refl
gives_same keys kind name d (Ok None) (Some q) h k = absurd (true≢false (sym h ∙ k.0))
gives_same keys kind name d (Ok (Some p)) None h k = absurd (true≢false (sym k ∙ h.0))
gives_same keys kind name d (Ok (Some p)) (Some q) h k =
    ap (λ x. Ok (Some x)) (prop_same p q (h.2 ∙ sym k.2) (value_same kind d p.value q.value h.3 k.3))
gives_same keys kind name d (Err f) None h k = absurd (true≢false (sym k ∙ h.0))
gives_same keys kind name d (Err f) (Some q) h k =
    let none : HasNoValue kind d × (f ≡ BadType name) =
    subst (λ o. MatchOption o (HasNoValue kind d × (f ≡ BadType name)) (λ g. f ≡ g)) k.1 h.1 in
    absurd (none.0 q.value k.3)
