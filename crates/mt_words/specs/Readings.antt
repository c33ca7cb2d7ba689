-- What the reader of a command line has read, and what that says of its words.
use Rattle.std.specs.Prelude.{◌≡◌, ◌≢◌, ℕ, List, [], ◌∷◌, ◌++◌, map, string_bytes, String, Option, None, Result, Ok, Err, option_map, MatchOption}
use Rattle.std.specs.Borrow.{Bor}
use Rattle.mt_words.specs.declared.command.Command.{Command}
use Rattle.mt_words.specs.declared.command.Command.TheVariants as command
use Rattle.mt_words.specs.declared.command.Common.{Common}
use Rattle.mt_words.specs.declared.command.Usage.{Usage}
use Rattle.mt_words.specs.declared.command.Usage.TheVariants as usage
use Rattle.mt_words.specs.declared.settings.Setting.{Setting as Read}
use Rattle.mt_words.specs.declared.settings.Setting.TheVariants as read
use Rattle.mt_words.specs.declared.settings.Settings.{Settings}
use Rattle.mt_words.specs.Words.{Setting, Table, History, Keeper, Number, Events, option_name, value_text, IsTaken, Spells, Given, Gives, HasOptions, IsSession, IsDrill, IsCommand, IsNoCommand}

abbrev pub texts_of : {A : Type 0} → List (String A) → List (List ℕ)
texts_of words = map string_bytes words

-- an option as it was read
abbrev pub setting_of : Read → Setting
setting_of (read.Table name) = Table name.now
setting_of (read.History entries) = History entries
setting_of (read.Keeper choice) = Keeper choice
setting_of (read.Number number) = Number number
setting_of (read.Events events) = Events events

-- all options that were read
abbrev pub given_of : Settings → Given
given_of s = record { table = option_map (λ (b : Bor (List ℕ)). b.now) s.table; history = s.history; keeper = s.keeper; number = s.number; events = s.events }

-- no option is given
abbrev pub nothing : Given
nothing = record { table = None; history = None; keeper = None; number = None; events = None }

-- an option of that name with that value
pub record IsNamed (name value : List ℕ) (s : Setting) : Type 0 where
  pub named : name ≡ option_name s
  pub valued : value ≡ value_text s
  pub taken : IsTaken s

abbrev pub IsNotNamed : List ℕ → List ℕ → Type 0
IsNotNamed name value = (s : Setting) → IsNamed name value s → ⊥

-- the first word is the value of an option of that name, and then the rest
pub record IsPair (name : List ℕ) (words : List (List ℕ)) (s : Setting) (rest : List (List ℕ)) : Type 0 where
  pub whole : words ≡ value_text s ∷ rest
  pub named : IsNamed name (value_text s) s

abbrev pub IsNoPair : List ℕ → List (List ℕ) → Type 0
IsNoPair name words = (s : Setting) (rest : List (List ℕ)) → IsPair name words s rest → ⊥

-- the option stands at the front, whatever follows, and no other does
pub record IsFront (words : List (List ℕ)) (s : Setting) (rest : List (List ℕ)) : Type 0 where
  pub join : (more : List Setting) → Spells more rest → Spells (s ∷ more) words
  pub only : (other : Setting) (more : List Setting) → Spells (other ∷ more) words → (other ≡ s) × Spells more rest

abbrev pub HasNoFront : List (List ℕ) → Type 0
HasNoFront words = (s : Setting) (more : List Setting) → Spells (s ∷ more) words → ⊥

-- what was read, and the option behind it; or the option was read before
abbrev pub Joins : Settings → Read → Option Settings → Type 0
Joins s r result = (before : List Setting) → Gives before (given_of s)
    → MatchOption result ((more : List Setting) (g : Given) → Gives (before ++ setting_of r ∷ more) g → ⊥) (λ (t : Settings). Gives (before ++ setting_of r ∷ []) (given_of t))

-- words that no options spell which stand at most once
abbrev pub HasNoSettings : List (List ℕ) → Type 0
HasNoSettings words = (settings : List Setting) (g : Given) → Spells settings words → Gives settings g → ⊥

-- the options that the words spell, which give this, and spell in no other way
pub record HasSettings (words : List (List ℕ)) (g : Given) : Type 0 where
  pub options : HasOptions words g
  pub only : (others : List Setting) → Spells others words → others ≡ options.settings

-- the options in front of what is left were read
pub record IsReadTo (words : List (List ℕ)) (g : Given) (left : List (List ℕ)) : Type 0 where
  pub before : List Setting
  pub gives : Gives before g
  pub join : (more : List Setting) → Spells more left → Spells (before ++ more) words
  pub only : (all : List Setting) → Spells all words → (more : List Setting) × (all ≡ before ++ more) × Spells more left

-- a session or a drill that the words behind its own word spell, or they spell none
abbrev pub ReadsSession : List (List ℕ) → Result Command Usage → Type 0
ReadsSession words (Ok (command.Session common)) = IsSession words common
ReadsSession words (Ok (command.Drill number events common)) = ⊥
ReadsSession words (Ok command.Help) = ⊥
ReadsSession words (Err usage.Bad) = (common : Common) → IsSession words common → ⊥
ReadsSession words (Err usage.NoMemory) = (common : Common) × IsSession words common

abbrev pub ReadsDrill : List (List ℕ) → Result Command Usage → Type 0
ReadsDrill words (Ok (command.Session common)) = ⊥
ReadsDrill words (Ok (command.Drill number events common)) = IsDrill words number events common
ReadsDrill words (Ok command.Help) = ⊥
ReadsDrill words (Err usage.Bad) = (number : ℕ) (events : ℕ) (common : Common) → IsDrill words number events common → ⊥
ReadsDrill words (Err usage.NoMemory) = (number : ℕ) × (events : ℕ) × (common : Common) × IsDrill words number events common

abbrev pub ReadsHelp : List (List ℕ) → Result Command Usage → Type 0
ReadsHelp words (Ok (command.Session common)) = ⊥
ReadsHelp words (Ok (command.Drill number events common)) = ⊥
ReadsHelp words (Ok command.Help) = words ≡ []
ReadsHelp words (Err usage.Bad) = words ≢ []
ReadsHelp words (Err usage.NoMemory) = ⊥

-- the command that the words spell, or that they spell none; want of memory comes where they spell one
abbrev pub Reads : List (List ℕ) → Result Command Usage → Type 0
Reads words (Ok c) = IsCommand words c
Reads words (Err usage.Bad) = IsNoCommand words
Reads words (Err usage.NoMemory) = (c : Command) × IsCommand words c
