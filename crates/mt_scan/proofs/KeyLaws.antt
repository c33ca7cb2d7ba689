-- Keys that meet the rules.
use Rattle.std.proofs.Common.{◌≡◌, ℕ, Bool, true, not, List, [], Option, Some, None, refl, ap, ◌∙◌, IfOk, Result, Ok, Err}
use Rattle.std.specs.Prelude.{is_some, option_map}
use Rattle.std.specs.Option.{option_or}
use Rattle.std.proofs.lemmas.Str.{chars-nil}
use Rattle.mt_model.specs.declared.key.Key.{Key}
use Rattle.mt_model.specs.declared.key.KeyFault.{KeyFault}
use Rattle.mt_model.specs.declared.key.KeyFault.TheVariants.{KeyChar}
use Rattle.mt_model.specs.declared.key.KeyPart.{KeyPart}
use Rattle.mt_model.specs.declared.key.KeyPart.TheVariants.{Partition, Row}
use Rattle.mt_model.specs.Char.{is_forbidden, first_passing}
use Rattle.mt_model.specs.Key.{key_fault, part_fault}
use Rattle.mt_scan.specs.declared.unit.Token.TheVariants as token
use Rattle.mt_scan.specs.Chunks.{is_row_key, is_partition_key}
use Rattle.mt_scan.specs.Pages.{IsKeyedToken}

no_fault : (part : KeyPart) → part_fault part [] ≡ None
no_fault part = ap (λ cs. option_map (KeyChar part) (first_passing is_forbidden 0 cs)) chars-nil

or_none : (o : Option KeyFault) → option_or o None ≡ o
or_none None = refl
or_none (Some f) = refl

pub row_alone : (rk : List ℕ) → not (is_some (key_fault [] rk)) ≡ is_row_key rk
row_alone rk = ap (λ f. not (is_some (option_or f (part_fault Row rk)))) (no_fault Partition)

pub partition_alone : (pk : List ℕ) → not (is_some (key_fault pk [])) ≡ is_partition_key pk
partition_alone pk = ap (λ f. not (is_some (option_or (part_fault Partition pk) f))) (no_fault Row) ∙ ap (λ f. not (is_some f)) (or_none (part_fault Partition pk))

pub ok_as : {E : Type 0} (r : Result Bool E) (a b : Bool) → a ≡ b → IfOk r (λ x. x ≡ a) → IfOk r (λ x. x ≡ b)
ok_as (Ok x) a b e h = h ∙ e
ok_as (Err f) a b e h = h

-- a key that meets the rules makes a token that may be asked for
pub row_keyed : (key : Key) → key_fault key.pk key.rk ≡ None → IsKeyedToken (token.Row key)
row_keyed key h = both (part_fault Partition key.pk) (part_fault Row key.rk) h where
  both : (a b : Option KeyFault) → option_or a b ≡ None → (not (is_some a) ≡ true) × (not (is_some b) ≡ true)
  both None None h = (refl, refl)
  both None (Some f) h = absurd (let x = h in cc)
  both (Some f) b h = absurd (let x = h in cc)
