-- Tokens: where the page after another one begins, and the values of `NextPartitionKey` and `NextRowKey` that spell it.
use Rattle.std.specs.Prelude.{◌≡◌, ℕ, List, [], ◌++◌, codes, Option, Some, None, IsUtf8, Result, Ok, Err}
use Rattle.base64.specs.Engines.{url_safe_no_pad}
use Rattle.base64.specs.GeneralPurpose.{encode_of}
use Rattle.mt_model.specs.declared.text.NoMemory.{NoMemory}
use Rattle.mt_model.specs.Key.{key_fault}
use Rattle.mt_options.specs.declared.tokens.Token.{Token}
use Rattle.mt_options.specs.declared.tokens.Token.TheVariants.{From, After, Past}
use Rattle.mt_options.specs.declared.tokens.TokenRead.{TokenRead}
use Rattle.mt_options.specs.declared.tokens.TokenRead.TheVariants.{Absent, Is, Unreadable}

-- a mark, and behind it a key in URL-safe base64 without padding
abbrev pub marked : List ℕ → List ℕ → List ℕ
marked mark key = mark ++ encode_of url_safe_no_pad key

-- ---- what is written

-- `1!` for the partition from which a page begins, and for that of a row; `2!` for the partition past which it begins
abbrev pub partition_text : Token → List ℕ
partition_text (From pk) = marked (codes "1!") pk
partition_text (After pk rk) = marked (codes "1!") pk
partition_text (Past pk) = marked (codes "2!") pk

-- past a row, `1!` for its key
abbrev pub row_text : Token → Option (List ℕ)
row_text (From pk) = None
row_text (After pk rk) = Some (marked (codes "1!") rk)
row_text (Past pk) = None

-- ---- what is read

-- two texts that are a key
pub record IsKey (pk rk : List ℕ) : Type 0 where
  pub partition : IsUtf8 pk
  pub row : IsUtf8 rk
  pub fault : key_fault pk rk ≡ None

-- the token's texts are a key; beside a partition alone stands the empty row key
abbrev pub HasKey : Token → Type 0
HasKey (From pk) = IsKey pk []
HasKey (After pk rk) = IsKey pk rk
HasKey (Past pk) = IsKey pk []

-- the two values are those of the token
pub record Spells (pk rk : Option (List ℕ)) (t : Token) : Type 0 where
  pub partition : pk ≡ Some (partition_text t)
  pub row : rk ≡ row_text t
  pub key : HasKey t

-- what was read of the two values; want of memory says nothing
abbrev pub ReadsToken : Option (List ℕ) → Option (List ℕ) → Result TokenRead NoMemory → Type 0
ReadsToken pk rk (Ok Absent) = (pk ≡ None) × (rk ≡ None)
ReadsToken pk rk (Ok (Is t)) = Spells pk rk t
ReadsToken pk rk (Ok Unreadable) = ((pk ≡ None) × (rk ≡ None) → ⊥) × ((t : Token) → Spells pk rk t → ⊥)
ReadsToken pk rk (Err e) = Unit {0}

-- ---- parts

-- the text that is encoded behind the mark
abbrev pub IsMarked : List ℕ → List ℕ → List ℕ → Type 0
IsMarked mark text key = (text ≡ marked mark key) × IsUtf8 key

-- a token that was found, or none
abbrev pub read_as : Option Token → TokenRead
read_as (Some t) = Is t
read_as None = Unreadable
