-- One option more gives its value, where it was not given before, and no option stands twice.
use Rattle.std.proofs.Common.{◌≡◌, ℕ, List, [], ◌∷◌, ◌++◌, Option, Some, None, refl, sym, ap, ◌∙◌}
use Rattle.std.specs.List.{filter_map}
use Rattle.std.specs.Option.{option_to_list}
use Rattle.std.proofs.lemmas.List.{append-nil}
use Rattle.std.proofs.lemmas.List.Elements.{filter_map-append}
use Rattle.mt_words.specs.declared.command.StoreChoice.{StoreChoice}
use Rattle.mt_words.specs.Words.{Setting, Table, History, Keeper, Number, Events, as_table, as_history, as_keeper, as_number, as_events, Given, Gives}

-- an option of another kind changes nothing
pub kept : {A : Type 0} (f : Setting → Option A) (before : List Setting) (s : Setting) (v : Option A) → filter_map f (s ∷ []) ≡ [] → filter_map f before ≡ option_to_list v → filter_map f (before ++ s ∷ []) ≡ option_to_list v
kept f before s v none e =
    let parts = filter_map-append f before (s ∷ []) in
    let ends : filter_map f before ++ filter_map f (s ∷ []) ≡ filter_map f before ++ [] = ap (λ x. filter_map f before ++ x) none in
    parts ∙ ends ∙ append-nil (filter_map f before) ∙ e

-- the first option of a kind gives its value
pub added : {A : Type 0} (f : Setting → Option A) (before : List Setting) (s : Setting) (x : A) (v : Option A) → filter_map f (s ∷ []) ≡ x ∷ [] → v ≡ None → filter_map f before ≡ option_to_list v → filter_map f (before ++ s ∷ []) ≡ option_to_list (Some x)
added f before s x v one none e =
    let parts = filter_map-append f before (s ∷ []) in
    let empty : filter_map f before ≡ [] = e ∙ ap option_to_list none in
    parts ∙ ap (λ y. y ++ filter_map f (s ∷ [])) empty ∙ one

at_most_one : {A : Type 0} (v : Option A) (x y : A) (more : List A) → x ∷ y ∷ more ≡ option_to_list v → ⊥
at_most_one None x y more e = cc
at_most_one (Some z) x y more e = cc

-- a second option of a kind is too many
pub twice : {A : Type 0} (f : Setting → Option A) (before : List Setting) (s : Setting) (more : List Setting) (x y : A) (v w : Option A) → filter_map f (s ∷ more) ≡ x ∷ filter_map f more → v ≡ Some y → filter_map f before ≡ option_to_list v → filter_map f (before ++ s ∷ more) ≡ option_to_list w → ⊥
twice f before s more x y v w one some e all =
    let parts = filter_map-append f before (s ∷ more) in
    let first : filter_map f before ≡ y ∷ [] = e ∙ ap option_to_list some in
    let whole : filter_map f before ++ filter_map f (s ∷ more) ≡ y ∷ x ∷ filter_map f more = ap (λ z. z ++ filter_map f (s ∷ more)) first ∙ ap (λ z. y ∷ z) one in
    at_most_one w y x (filter_map f more) (sym whole ∙ sym parts ∙ all)

-- ---- by kind

pub join_table : (before : List Setting) (g : Given) (x : List ℕ) → Gives before g → g.table ≡ None → Gives (before ++ Table x ∷ []) (record { table = Some x; history = g.history; keeper = g.keeper; number = g.number; events = g.events })
join_table before g x given none = record { table = added as_table before (Table x) x g.table refl none given.table; history = kept as_history before (Table x) g.history refl given.history; keeper = kept as_keeper before (Table x) g.keeper refl given.keeper; number = kept as_number before (Table x) g.number refl given.number; events = kept as_events before (Table x) g.events refl given.events }

pub two_tables : (before more : List Setting) (g h : Given) (x y : List ℕ) → Gives before g → g.table ≡ Some y → Gives (before ++ Table x ∷ more) h → ⊥
two_tables before more g h x y given some all = twice as_table before (Table x) more x y g.table h.table refl some given.table all.table

pub join_history : (before : List Setting) (g : Given) (x : ℕ) → Gives before g → g.history ≡ None → Gives (before ++ History x ∷ []) (record { table = g.table; history = Some x; keeper = g.keeper; number = g.number; events = g.events })
join_history before g x given none = record { table = kept as_table before (History x) g.table refl given.table; history = added as_history before (History x) x g.history refl none given.history; keeper = kept as_keeper before (History x) g.keeper refl given.keeper; number = kept as_number before (History x) g.number refl given.number; events = kept as_events before (History x) g.events refl given.events }

pub two_histories : (before more : List Setting) (g h : Given) (x y : ℕ) → Gives before g → g.history ≡ Some y → Gives (before ++ History x ∷ more) h → ⊥
two_histories before more g h x y given some all = twice as_history before (History x) more x y g.history h.history refl some given.history all.history

pub join_keeper : (before : List Setting) (g : Given) (x : StoreChoice) → Gives before g → g.keeper ≡ None → Gives (before ++ Keeper x ∷ []) (record { table = g.table; history = g.history; keeper = Some x; number = g.number; events = g.events })
join_keeper before g x given none = record { table = kept as_table before (Keeper x) g.table refl given.table; history = kept as_history before (Keeper x) g.history refl given.history; keeper = added as_keeper before (Keeper x) x g.keeper refl none given.keeper; number = kept as_number before (Keeper x) g.number refl given.number; events = kept as_events before (Keeper x) g.events refl given.events }

pub two_keepers : (before more : List Setting) (g h : Given) (x y : StoreChoice) → Gives before g → g.keeper ≡ Some y → Gives (before ++ Keeper x ∷ more) h → ⊥
two_keepers before more g h x y given some all = twice as_keeper before (Keeper x) more x y g.keeper h.keeper refl some given.keeper all.keeper

pub join_number : (before : List Setting) (g : Given) (x : ℕ) → Gives before g → g.number ≡ None → Gives (before ++ Number x ∷ []) (record { table = g.table; history = g.history; keeper = g.keeper; number = Some x; events = g.events })
join_number before g x given none = record { table = kept as_table before (Number x) g.table refl given.table; history = kept as_history before (Number x) g.history refl given.history; keeper = kept as_keeper before (Number x) g.keeper refl given.keeper; number = added as_number before (Number x) x g.number refl none given.number; events = kept as_events before (Number x) g.events refl given.events }

pub two_numbers : (before more : List Setting) (g h : Given) (x y : ℕ) → Gives before g → g.number ≡ Some y → Gives (before ++ Number x ∷ more) h → ⊥
two_numbers before more g h x y given some all = twice as_number before (Number x) more x y g.number h.number refl some given.number all.number

pub join_events : (before : List Setting) (g : Given) (x : ℕ) → Gives before g → g.events ≡ None → Gives (before ++ Events x ∷ []) (record { table = g.table; history = g.history; keeper = g.keeper; number = g.number; events = Some x })
join_events before g x given none = record { table = kept as_table before (Events x) g.table refl given.table; history = kept as_history before (Events x) g.history refl given.history; keeper = kept as_keeper before (Events x) g.keeper refl given.keeper; number = kept as_number before (Events x) g.number refl given.number; events = added as_events before (Events x) x g.events refl none given.events }

pub two_events : (before more : List Setting) (g h : Given) (x y : ℕ) → Gives before g → g.events ≡ Some y → Gives (before ++ Events x ∷ more) h → ⊥
two_events before more g h x y given some all = twice as_events before (Events x) more x y g.events h.events refl some given.events all.events
