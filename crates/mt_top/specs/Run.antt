-- A run of the program: the words, the stores of the depot, and a session over the world that they are opened as.
use Rattle.std.specs.Prelude.{◌≡◌, ◌≢◌, ◌⊎◌, ℕ, ◌+◌, ◌-◌, ◌^◌, ◌≤◌, true, false, All, is_some, List, [], codes, Option, Some, None, IfSome}
use Rattle.mt_io.specs.Ends.{Input, Output, Rose}
use Rattle.mt_model.specs.declared.key.Key.{Key}
use Rattle.mt_chain.specs.StoreCall.{Contents}
use Rattle.mt_chain.specs.Store.{Same}
use Rattle.mt_chain.specs.Shelf.{Shelf}
use Rattle.mt_chain.specs.Table.{IsListing}
use Rattle.mt_meta.specs.Logical.{Pair, pair_of}
use Rattle.mt_meta.specs.Sound.{IsSound}
use Rattle.mt_meta.specs.Steps.{logical_table}
use Rattle.mt_open.specs.Opening.{IsDamagedAt}
use Rattle.mt_world.specs.Worlds.{WorldState, IsReplayed}
use Rattle.mt_world.specs.WholeCalls.{Mark}
use Rattle.mt_front.specs.Items.{Item, faults_of}
use Rattle.mt_front.specs.Answers.{FitsConnection}
use Rattle.mt_front.specs.Session.{Sent, Cut, past_of, Course, IsCourse, AtInputEnd, AtClose, IsRefused, AtReadFault, AtWriteFault, AtNoMemory}
use Rattle.mt_words.specs.declared.command.Common.{Common}
use Rattle.mt_words.specs.declared.command.Command.{Command}
use Rattle.mt_words.specs.declared.command.Command.TheVariants as command
use Rattle.mt_words.specs.Words.{IsCommand, IsNoCommand}
use Rattle.mt_top.specs.Lines.{damage_line}
use Rattle.mt_top.specs.declared.running.Ending.{Ending}
use Rattle.mt_top.specs.declared.running.Ending.TheVariants.{Served, BadWords, ReadFault, WriteFault, StoreFault, Damaged, BadInput, NoMemory}

abbrev pub usage : List ℕ
usage = codes "usage: mtable session|drill|serve [options]\n"

-- what is served: a table of that name, over stores of these numbers, with a history of at most so many entries
pub record Service : Type 0 where
  pub table : List ℕ
  pub old_number : ℕ
  pub new_number : ℕ
  pub limit : ℕ

-- what a command serves: its table, over the stores 0 and 1, with the history that it allows
abbrev pub service_of : Common → Service
service_of c = record { table = c.table; old_number = 0; new_number = 1; limit = c.history }

-- the status of each ending
abbrev pub code_of : Ending → ℕ
code_of Served = 0
code_of BadWords = 2
code_of ReadFault = 3
code_of WriteFault = 4
code_of StoreFault = 5
code_of Damaged = 6
code_of BadInput = 7
code_of NoMemory = 9

-- where a store tells before and after, this relates the two
abbrev pub Along : (Contents → Contents → Type 0) → Option Contents → Option Contents → Type 0
Along P before after = IfSome before (λ a. IfSome after (λ b. P a b))

-- what the old and the new store told before the run, and what they tell after it
pub record Tellings : Type 0 where
  pub old_before : Option Contents
  pub old_after : Option Contents
  pub new_before : Option Contents
  pub new_after : Option Contents

-- nothing was read or written, and both stores are as before
pub record Idle (s : Input) (o : Output) (c : Tellings) (t : Input) (x : Output) : Type 0 where
  pub source : t ≡ s
  pub sink : x ≡ o
  pub old_same : Along Same c.old_before c.old_after
  pub new_same : Along Same c.new_before c.new_after

-- where both stores tell before the run and after it
abbrev pub WhereTold : Tellings → (Contents → Contents → Contents → Contents → Type 0) → Type 0
WhereTold c Q = IfSome c.old_before (λ a. IfSome c.new_before (λ a'. IfSome c.old_after (λ b. IfSome c.new_after (λ b'. Q a a' b b'))))

-- two stores that are served and hold this
abbrev pub served_pair : Service → Contents → Contents → Pair
served_pair v old new = pair_of v.old_number v.new_number old new

-- both stores tell before the run and after it
pub record AllTell (c : Tellings) : Type 0 where
  pub old_before : is_some c.old_before ≡ true
  pub old_after : is_some c.old_after ≡ true
  pub new_before : is_some c.new_before ≡ true
  pub new_after : is_some c.new_after ≡ true

-- a world of what is served, with its history from the start on
pub record IsWorldOf (v : Service) (w : WorldState) : Type 0 where
  pub limit : w.history.limit ≡ v.limit
  pub first : w.history.first ≡ 0

-- at the start the two stores were a sound pair, and the world's table then is what clients see of it
abbrev pub IsOpened : Service → WorldState → Contents → Contents → Type 0
IsOpened v w old new = IsSound (served_pair v old new) × IsListing w.base (logical_table (served_pair v old new))

-- the two stores hold what the world's history made of the table at the start: the pair is sound, the history legal, and what clients see is its replay
abbrev pub IsReplay : Service → WorldState → Contents → Contents → Type 0
IsReplay v w old new = IsReplayed w (served_pair v old new)

-- what was read and written, and what is left of the input, by the ending
abbrev pub Wrote : Input → Output → Ending → Course → Input → Output → Type 0
Wrote s o Served c t x = AtInputEnd s o c t x ⊎ AtClose s o c t x
Wrote s o BadWords c t x = ⊥
Wrote s o ReadFault c t x = AtReadFault s o c t x
Wrote s o WriteFault c t x = AtWriteFault s o c t x
Wrote s o StoreFault c t x = ⊥
Wrote s o Damaged c t x = ⊥
Wrote s o BadInput c t x = (owed : List ℕ) × IsRefused s c t owed × Sent o owed x
Wrote s o NoMemory c t x = AtNoMemory o c x

-- replies that a store failed are no more than the rise of the depot's count; a count at its end says nothing more
abbrev pub FaultsRose : ℕ → List Item → ℕ → Type 0
FaultsRose before items now = (before + faults_of items ≤ now) ⊎ (2 ^ 64 - 1 ≤ now)

-- an item broke off only where there was no memory
abbrev pub BreaksAt : Ending → List Mark → Type 0
BreaksAt Served broken = broken ≡ []
BreaksAt BadWords broken = broken ≡ []
BreaksAt ReadFault broken = broken ≡ []
BreaksAt WriteFault broken = broken ≡ []
BreaksAt StoreFault broken = broken ≡ []
BreaksAt Damaged broken = broken ≡ []
BreaksAt BadInput broken = broken ≡ []
BreaksAt NoMemory broken = Unit {0}

-- the two stores were opened as a sound pair; the requests are the bytes, in order, up to what is left; there is a world whose history they fit, which has nothing else; and the stores hold what it made of the table
pub record During (v : Service) (s : Input) (o : Output) (ending : Ending) (c : Tellings) (before now : ℕ) (t : Input) (x : Output) : Type 0 where
  pub course : Course
  pub world : WorldState
  pub world_is : IsWorldOf v world
  pub is_course : IsCourse v.table s course
  pub answered : FitsConnection 0 (AllTell c) (past_of world) 0 course.items course.broken
  pub breaks : BreaksAt ending course.broken
  pub own : All (λ e. e.caller ≡ 0) world.history.entries
  pub opened : WhereTold c (λ a a' b b'. IsOpened v world a a')
  pub replayed : WhereTold c (λ a a' b b'. IsReplay v world b b')
  pub caused : FaultsRose before course.items now
  pub wrote : Wrote s o ending course t x

-- the two stores were no sound pair, and this is their first damage: its line was written, or a first part of it; nothing was read, and both stores are as before
pub record AtDamage (v : Service) (s : Input) (o : Output) (c : Tellings) (t : Input) (x : Output) : Type 0 where
  pub store : ℕ
  pub key : Key
  pub rule : ℕ
  pub source : t ≡ s
  pub wrote : Sent o (damage_line store key rule) x ⊎ Cut o (damage_line store key rule) x
  pub old_same : Along Same c.old_before c.old_after
  pub new_same : Along Same c.new_before c.new_after
  pub damaged : WhereTold c (λ a a' b b'. IsDamagedAt (served_pair v a a') store key rule)

-- the usage line was written, or a first part of it where the write failed
abbrev pub SaysUsage : Output → Output → Type 0
SaysUsage o x = Sent o usage x ⊎ Cut o usage x

-- what each ending of a session says; a store fails the run only while it is opened
abbrev pub RunEnds : Service → Input → Output → Ending → Tellings → ℕ → ℕ → Input → Output → Type 0
RunEnds v s o Served c before now t x = During v s o Served c before now t x
RunEnds v s o BadWords c before now t x = ⊥
RunEnds v s o ReadFault c before now t x = During v s o ReadFault c before now t x
RunEnds v s o WriteFault c before now t x = During v s o WriteFault c before now t x
RunEnds v s o StoreFault c before now t x = Idle s o c t x × Rose before now
RunEnds v s o Damaged c before now t x = AtDamage v s o c t x
RunEnds v s o BadInput c before now t x = During v s o BadInput c before now t x
RunEnds v s o NoMemory c before now t x = Idle s o c t x ⊎ During v s o NoMemory c before now t x

-- ---- over a depot

-- every store that was in is in again, and all other stores are as before
pub record HandedBack (d d' : Shelf) : Type 0 where
  pub tells : d'.tells ≡ d.tells
  pub out : (n : ℕ) → d.out n ≡ false → d'.out n ≡ false
  pub others : (n : ℕ) → n ≢ 0 → n ≢ 1 → d'.told n ≡ d.told n

abbrev pub depot_tellings : Shelf → Shelf → Tellings
depot_tellings d d' = record { old_before = d.told 0; old_after = d'.told 0; new_before = d.told 1; new_after = d'.told 1 }

-- ---- the words

-- the command that the words spell, or none where they spell none
abbrev pub AsksFor : List (List ℕ) → Option Command → Type 0
AsksFor words (Some c) = IsCommand words c
AsksFor words None = IsNoCommand words

-- the usage line was asked for: it was written, or the write failed
abbrev pub Helps : Ending → Output → Output → Type 0
Helps ending o x = ((ending ≡ Served) × Sent o usage x) ⊎ ((ending ≡ WriteFault) × Cut o usage x)

-- nothing was read, and the depot is as before
pub record IsUnread (s : Input) (d : Shelf) (t : Input) (d' : Shelf) : Type 0 where
  pub source : t ≡ s
  pub depot : d' ≡ d

-- a run that opens no store, or that found no memory before it opened one: nothing was written then
abbrev pub EndsUnopened : (Ending → Output → Output → Type 0) → Input → Output → Shelf → Ending → Input → Output → Shelf → Type 0
EndsUnopened Says s o d ending t x d' = IsUnread s d t d' × (Says ending o x ⊎ ((ending ≡ NoMemory) × (x ≡ o)))

-- the words are refused with the usage line, whose write may fail
abbrev pub RefusesWords : Ending → Output → Output → Type 0
RefusesWords ending o x = (ending ≡ BadWords) × SaysUsage o x

-- a session over the stores 0 and 1 of a depot
pub record EndsSession (v : Service) (s : Input) (o : Output) (d : Shelf) (ending : Ending) (t : Input) (x : Output) (d' : Shelf) : Type 0 where
  pub ends : RunEnds v s o ending (depot_tellings d d') d.faults d'.faults t x
  pub back : HandedBack d d'

-- what a run comes to by what its words ask for; the drill is not built, and its words are refused
abbrev pub AskedEnds : Option Command → Input → Output → Shelf → Ending → Input → Output → Shelf → Type 0
AskedEnds None s o d ending t x d' = IsUnread s d t d' × RefusesWords ending o x
AskedEnds (Some (command.Session common)) s o d ending t x d' = EndsSession (service_of common) s o d ending t x d'
AskedEnds (Some (command.Drill number events common)) s o d ending t x d' = EndsUnopened RefusesWords s o d ending t x d'
AskedEnds (Some command.Help) s o d ending t x d' = EndsUnopened Helps s o d ending t x d'

-- a run of the program with these words
pub record Runs (words : List (List ℕ)) (s : Input) (o : Output) (d : Shelf) (status : ℕ) (t : Input) (x : Output) (d' : Shelf) : Type 0 where
  pub asked : Option Command
  pub asks : AsksFor words asked
  pub ending : Ending
  pub status_is : status ≡ code_of ending
  pub ends : AskedEnds asked s o d ending t x d'
