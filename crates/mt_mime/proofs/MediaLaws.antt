-- Pieces between semicolons, as they are read.
use Rattle.std.proofs.Common.{◌≡◌, ℕ, Bool, true, false, cond, List, [], ◌∷◌, refl}
use Rattle.mt_http_in.specs.Fields.{onto}
use Rattle.mt_mime.specs.MediaTypes.{ends_piece, quoted_behind, pieces, before_all}

onto_some : (c : ℕ) (ps : List (List ℕ)) → onto c ps ≡ before_all [] (onto c ps)
onto_some c [] = refl
onto_some c (p ∷ ps) = refl

-- there is a first piece
pub pieces_some : (quoted : Bool) (value : List ℕ) → pieces quoted value ≡ before_all [] (pieces quoted value)
pieces_some quoted [] = refl
pieces_some quoted (c ∷ cs) =
    elim (ends_piece quoted c) as (λ (b : Bool). cond b ([] ∷ pieces false cs) (onto c (pieces (quoted_behind quoted c) cs)) ≡ before_all [] (cond b ([] ∷ pieces false cs) (onto c (pieces (quoted_behind quoted c) cs)))) [
      | true ↦ refl
      | false ↦ onto_some c (pieces (quoted_behind quoted c) cs)
    ]
