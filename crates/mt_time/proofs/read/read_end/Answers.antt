use Rattle.std.proofs.Common.{◌≡◌, ℕ, List, ◌∷◌, [], ◌++◌}
use Rattle.std.proofs.lemmas.Bool.Decides.{Decides-eqb}
use Rattle.std.proofs.lemmas.Slice.Eq.{strip_prefix_is, strip_suffix_is}
use Rattle.mt_time.proofs.TextLaws.{end_without_z, end_read}
use Rattle.mt_time.proofs.read.read_end.Goals as goal

pub returns-in_default : goal.returns-in_default
returns-in_default c =
    let suffix = rw c.in_default.is at (strip_suffix_is Decides-eqb c.args.text.now c.as_slice.result.now c.strip_suffix.result c.strip_suffix.ensures.cases) in
    let none : (front : List ℕ) → c.args.text.now ≡ front ++ (90 ∷ []) → ⊥ = rw (← c.as_slice.ensures) suffix in
    end_without_z c.args.text.now none

pub returns : goal.returns
returns c =
    let suffix = rw c.in-Some.is at (strip_suffix_is Decides-eqb c.args.text.now c.as_slice.result.now c.strip_suffix.result c.strip_suffix.ensures.cases) in
    let prefix = rw c.in-Some-strip_prefix.is at (strip_prefix_is Decides-eqb c.in-Some.text.now c.as_slice-2.result.now c.strip_prefix.result c.strip_prefix.ensures.cases) in
    let whole : c.args.text.now ≡ c.in-Some.text.now ++ (90 ∷ []) = rw (← c.as_slice.ensures) suffix in
    let point : c.in-Some.text.now ≡ 46 ∷ c.in-Some-strip_prefix.digits.now = rw c.as_slice-2.ensures at prefix in
    end_read c.args.text.now c.in-Some.text.now c.in-Some-strip_prefix.digits.now c.read_decimals.result whole point c.read_decimals.ensures
