-- The command line: the commands with their options, and the words that spell them.
use Rattle.std.specs.Prelude.{◌≡◌, ◌⊎◌, ℕ, ◌<◌, ◌≤◌, ◌^◌, true, List, [], ◌∷◌, ◌++◌, codes, decimal, Option, Some, None}
use Rattle.std.specs.List.{filter_map}
use Rattle.std.specs.Option.{option_to_list, unwrap_or}
use Rattle.mt_model.specs.TableName.{is_table_name}
use Rattle.mt_words.specs.declared.command.StoreChoice.{StoreChoice}
use Rattle.mt_words.specs.declared.command.StoreChoice.TheVariants.{Plain, Paged}
use Rattle.mt_words.specs.declared.command.Common.{Common}
use Rattle.mt_words.specs.declared.command.Command.{Command}
use Rattle.mt_words.specs.declared.command.Command.TheVariants as command

-- ---- options

-- an option with its value
pub data Setting : Type 0 where
  Table : List ℕ → Setting
  History : ℕ → Setting
  Keeper : StoreChoice → Setting
  Number : ℕ → Setting
  Events : ℕ → Setting

abbrev pub option_name : Setting → List ℕ
option_name (Table name) = codes "--table"
option_name (History entries) = codes "--history"
option_name (Keeper choice) = codes "--keeper"
option_name (Number number) = codes "--number"
option_name (Events events) = codes "--events"

abbrev pub keeper_word : StoreChoice → List ℕ
keeper_word Plain = codes "plain"
keeper_word Paged = codes "paged"

-- the value as it is spelled: a number in decimal digits without leading zeros
abbrev pub value_text : Setting → List ℕ
value_text (Table name) = name
value_text (History entries) = decimal entries
value_text (Keeper choice) = keeper_word choice
value_text (Number number) = decimal number
value_text (Events events) = decimal events

-- the value is one that the option takes
abbrev pub IsTaken : Setting → Type 0
IsTaken (Table name) = is_table_name name ≡ true
IsTaken (History entries) = (1 ≤ entries) × (entries ≤ 1048576)
IsTaken (Keeper choice) = Unit {0}
IsTaken (Number number) = number < 2 ^ 64
IsTaken (Events events) = (1 ≤ events) × (events ≤ 100000)

-- two words, `--x v`, or one, `--x=v`, where 61 is the character `=`
abbrev pub IsSpelled : Setting → List (List ℕ) → Type 0
IsSpelled s words = (words ≡ option_name s ∷ value_text s ∷ []) ⊎ (words ≡ (option_name s ++ 61 ∷ value_text s) ∷ [])

-- the words are the spellings of these options, one after the other
abbrev pub Spells : List Setting → List (List ℕ) → Type 0
Spells [] words = words ≡ []
Spells (s ∷ more) words = (own : List (List ℕ)) × (rest : List (List ℕ)) × (words ≡ own ++ rest) × IsTaken s × IsSpelled s own × Spells more rest

-- ---- what the options give

abbrev pub as_table : Setting → Option (List ℕ)
as_table (Table name) = Some name
as_table (History entries) = None
as_table (Keeper choice) = None
as_table (Number number) = None
as_table (Events events) = None

abbrev pub as_history : Setting → Option ℕ
as_history (Table name) = None
as_history (History entries) = Some entries
as_history (Keeper choice) = None
as_history (Number number) = None
as_history (Events events) = None

abbrev pub as_keeper : Setting → Option StoreChoice
as_keeper (Table name) = None
as_keeper (History entries) = None
as_keeper (Keeper choice) = Some choice
as_keeper (Number number) = None
as_keeper (Events events) = None

abbrev pub as_number : Setting → Option ℕ
as_number (Table name) = None
as_number (History entries) = None
as_number (Keeper choice) = None
as_number (Number number) = Some number
as_number (Events events) = None

abbrev pub as_events : Setting → Option ℕ
as_events (Table name) = None
as_events (History entries) = None
as_events (Keeper choice) = None
as_events (Number number) = None
as_events (Events events) = Some events

-- the value of each option, where it is given
pub record Given : Type 0 where
  pub table : Option (List ℕ)
  pub history : Option ℕ
  pub keeper : Option StoreChoice
  pub number : Option ℕ
  pub events : Option ℕ

-- each option stands at most once, and gives its value
pub record Gives (settings : List Setting) (g : Given) : Type 0 where
  pub table : filter_map as_table settings ≡ option_to_list g.table
  pub history : filter_map as_history settings ≡ option_to_list g.history
  pub keeper : filter_map as_keeper settings ≡ option_to_list g.keeper
  pub number : filter_map as_number settings ≡ option_to_list g.number
  pub events : filter_map as_events settings ≡ option_to_list g.events

-- ---- commands

-- the words spell options that give this
pub record HasOptions (words : List (List ℕ)) (g : Given) : Type 0 where
  pub settings : List Setting
  pub spelled : Spells settings words
  pub gives : Gives settings g

-- what is common to commands: the table `Orders`, 1,048,576 entries and stores in pages, where nothing else is given
abbrev pub common_of : Given → Common
common_of g = record { table = unwrap_or g.table (codes "Orders"); history = unwrap_or g.history 1048576; stores = unwrap_or g.keeper Paged }

-- the options of a session, which has neither a number nor events
pub record IsSession (words : List (List ℕ)) (common : Common) : Type 0 where
  pub given : Given
  pub options : HasOptions words given
  pub no_number : given.number ≡ None
  pub no_events : given.events ≡ None
  pub common_is : common ≡ common_of given

-- the options of a drill, which has a number, and 1,000 events where nothing else is given
pub record IsDrill (words : List (List ℕ)) (number events : ℕ) (common : Common) : Type 0 where
  pub given : Given
  pub options : HasOptions words given
  pub numbered : given.number ≡ Some number
  pub events_are : events ≡ unwrap_or given.events 1000
  pub common_is : common ≡ common_of given

-- the word of a command
abbrev pub command_word : Command → List ℕ
command_word (command.Session common) = codes "session"
command_word (command.Drill number events common) = codes "drill"
command_word command.Help = codes "--help"

-- the words behind it; none follows `--help`
abbrev pub HasRest : List (List ℕ) → Command → Type 0
HasRest words (command.Session common) = IsSession words common
HasRest words (command.Drill number events common) = IsDrill words number events common
HasRest words command.Help = words ≡ []

-- the words spell the command
abbrev pub IsCommand : List (List ℕ) → Command → Type 0
IsCommand [] c = ⊥
IsCommand (word ∷ words) c = (word ≡ command_word c) × HasRest words c

-- the words spell no command
abbrev pub IsNoCommand : List (List ℕ) → Type 0
IsNoCommand words = (c : Command) → IsCommand words c → ⊥
