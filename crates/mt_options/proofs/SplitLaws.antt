-- Texts between commas.
use Rattle.std.proofs.Common.{◌≡◌, ℕ, ◌<◌, List, [], ◌∷◌, ◌++◌, length, sym, ap, ◌∙◌, arith, append_assoc}
use Rattle.std.specs.List.{slice_split, position_or_len, before_first, after_first}
use Rattle.std.proofs.lemmas.List.Splits.{slice_split_first, slice_split_none}
use Rattle.std.proofs.lemmas.List.Sums.{fails_before_first}
use Rattle.mt_options.specs.Shows.{is_comma}

-- the part before a comma, and those behind it
pub part_more : (text rest x y : List ℕ) (given : List (List ℕ)) → slice_split is_comma text ≡ given ++ slice_split is_comma rest
    → position_or_len is_comma rest < length rest → x ≡ before_first is_comma rest → y ≡ after_first is_comma rest
    → slice_split is_comma text ≡ (given ++ x ∷ []) ++ slice_split is_comma y
part_more text rest x y given same inside front back =
    same ∙ ap (λ ps. given ++ ps) (slice_split_first is_comma rest 0 inside ∙ ap (λ (z : List ℕ). z ∷ slice_split is_comma (after_first is_comma rest)) (sym front) ∙ ap (λ (z : List ℕ). x ∷ slice_split is_comma z) (sym back))
    ∙ sym (append_assoc given (x ∷ []) (slice_split is_comma y))

-- the last part, which no comma follows
pub part_last : (text rest : List ℕ) (given : List (List ℕ)) → slice_split is_comma text ≡ given ++ slice_split is_comma rest
    → position_or_len is_comma rest ≡ length rest → slice_split is_comma text ≡ given ++ rest ∷ []
part_last text rest given same none =
    same ∙ ap (λ ps. given ++ ps) (slice_split_none is_comma rest (λ k d l. fails_before_first is_comma rest k d (omega (arith, none, l))))
