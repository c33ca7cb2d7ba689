-- A text in single quotes, in which a quote is doubled.
use Rattle.std.specs.Prelude.{◌≡◌, ◌≢◌, ℕ, ◌==◌, List, [], ◌∷◌, ◌++◌, codes, if◌then◌else◌, Option, Some, None, Result, Ok, Err}
use Rattle.std.specs.List.{flat_map}
use Rattle.std.specs.Borrow.{Bor}
use Rattle.mt_model.specs.declared.text.NoMemory.{NoMemory}

-- a single quote
abbrev pub quote : ℕ
quote = 39

-- a character of a text, doubled where it is a quote
abbrev pub doubled_byte : ℕ → List ℕ
doubled_byte c = if c == quote then quote ∷ quote ∷ [] else c ∷ []

-- a text with each quote in it doubled
abbrev pub doubled : List ℕ → List ℕ
doubled text = flat_map doubled_byte text

-- the text in quotes
abbrev pub quoted : List ℕ → List ℕ
quoted text = codes "'" ++ doubled text ++ codes "'"

-- the bytes begin with that text in quotes, and this follows, which begins with no quote
pub record BeginsQuoted (bytes text rest : List ℕ) : Type 0 where
  pub whole : bytes ≡ quoted text ++ rest
  pub ends : (more : List ℕ) → rest ≢ quote ∷ more

-- what was read at the front of the bytes; want of memory says nothing
abbrev pub QuotedAs : List ℕ → Result (Option (List ℕ × Bor (List ℕ))) NoMemory → Type 0
QuotedAs bytes (Ok (Some x)) = BeginsQuoted bytes x.0 x.1.now
QuotedAs bytes (Ok None) = (text : List ℕ) (rest : List ℕ) → BeginsQuoted bytes text rest → ⊥
QuotedAs bytes (Err e) = Unit {0}

-- something of that kind was found, or there is none; want of memory says nothing
abbrev pub Found : {T : Type 0} → (T → Type 0) → Result (Option T) NoMemory → Type 0
Found P (Ok (Some x)) = P x
Found {T} P (Ok None) = (x : T) → P x → ⊥
Found P (Err e) = Unit {0}
