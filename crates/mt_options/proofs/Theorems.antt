-- What is written for a token is read as that token.
use Rattle.std.proofs.Common.{◌≡◌, Some, Result, Ok, Err, IfOk, refl, ap}
use Rattle.mt_model.specs.declared.text.NoMemory.{NoMemory}
use Rattle.mt_options.specs.declared.tokens.Token.{Token}
use Rattle.mt_options.specs.declared.tokens.TokenRead.{TokenRead}
use Rattle.mt_options.specs.declared.tokens.TokenRead.TheVariants.{Absent, Is, Unreadable}
use Rattle.mt_options.specs.Tokens.{partition_text, row_text, Spells, HasKey, ReadsToken}
use Rattle.mt_options.proofs.TokenLaws.{spelled_once}

own_spelling : (t : Token) → HasKey t → Spells (Some (partition_text t)) (row_text t) t
own_spelling t key = record { partition = refl; row = refl; key = key }

-- a token of a key is read back from the values that are written for it
pub token_read_back : (t : Token) → HasKey t → (r : Result TokenRead NoMemory) → ReadsToken (Some (partition_text t)) (row_text t) r → IfOk r (λ said. said ≡ Is t)
token_read_back t key (Ok Absent) h = absurd (let e = h.0 in cc e)
token_read_back t key (Ok (Is u)) h = ap Is (spelled_once (Some (partition_text t)) (row_text t) u t h (own_spelling t key))
token_read_back t key (Ok Unreadable) h = absurd (h.1 t (own_spelling t key))
token_read_back t key (Err e) h = tt
