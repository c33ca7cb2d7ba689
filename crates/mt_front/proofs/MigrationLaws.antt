-- What the orders of a connection come to for the migration.
use Rattle.std.proofs.Common.{◌≡◌, ◌∙◌, ℕ, Bool, true, false, ◌&&◌, ◌⊎◌, List, [], ◌∷◌, ◌++◌, Option, Some, None, Ok, Err, refl, sym, ap, subst, inl, inr, append-nil}
use Rattle.std.specs.Prelude.{Result, MatchBool, ◌||◌, is_some}
use Rattle.std.specs.List.{list_any}
use Rattle.std.specs.Ordering.{nat_cmp, is_lt}
use Rattle.std.specs.Cmp.Lexicographic.{slice_cmp}
use Rattle.mt_chain.specs.declared.query.PkFrom.TheVariants.{From}
use Rattle.mt_meta.specs.declared.fact.Fact.{Fact}
use Rattle.mt_meta.specs.declared.fact.Fact.TheVariants as fact
use Rattle.mt_meta.specs.Logical.{Pair}
use Rattle.mt_meta.specs.Facts.{KnowsSwept}
use Rattle.mt_migrate.specs.declared.state.State.{State as MoverState}
use Rattle.mt_migrate.specs.declared.state.State.TheVariants as mover
use Rattle.mt_migrate.specs.MoverSteps.{IsMoved}
use Rattle.mt_clean.specs.declared.state.State.{State as CleanerState}
use Rattle.mt_clean.specs.declared.cleaner.CleanProgress.{CleanProgress}
use Rattle.mt_clean.specs.declared.cleaner.CleanProgress.TheVariants as clean
use Rattle.mt_clean.specs.Cleanings.{Absorbs}
use Rattle.mt_clean.specs.Known.{sealed_fact}
use Rattle.mt_clean.proofs.Theorems.{not_sealed_was_seen, moved_is_migrated}
use Rattle.mt_world.specs.declared.actor.Actor.{Actor}
use Rattle.mt_world.specs.declared.actor.Actor.TheVariants as actor
use Rattle.mt_world.specs.declared.actor.Answer.{Answer}
use Rattle.mt_world.specs.declared.actor.Answer.TheVariants as answer
use Rattle.mt_world.specs.declared.actor.Progress.{Progress}
use Rattle.mt_world.specs.declared.actor.Progress.TheVariants.{More, Done}
use Rattle.mt_world.specs.declared.actor.TurnFault.{TurnFault}
use Rattle.mt_world.specs.declared.actor.TurnFault.TheVariants.{StoreFault, HistoryFull, NoMemory}
use Rattle.mt_world.specs.Worlds.{WorldState, ForPair, Tells, IsTrueOf, AreTrueOf, pair_of}
use Rattle.mt_world.specs.Sealing.{IsSealed}
use Rattle.mt_world.specs.Moves.{NewEntry, Move, CanStep, CleanerMoves, cleaner_move, actor_facts, retired_where}
use Rattle.mt_world.specs.Turns.{Knows}
use Rattle.mt_world.specs.Turns as turns
use Rattle.mt_world.specs.WholeCalls.{is_at_end}
use Rattle.mt_world.proofs.PairLaws.{for_pair, at_pair, map_pair, before}
use Rattle.mt_world.proofs.StepsLaws.{steps_answer}
use Rattle.mt_front.specs.declared.asks.Asked.{Asked}
use Rattle.mt_front.specs.declared.asks.Asked.TheVariants as asked
use Rattle.mt_front.specs.declared.services.Machine.{Machine}
use Rattle.mt_front.specs.declared.services.Machine.TheVariants.{Migrator, Cleaner}
use Rattle.mt_front.specs.declared.services.Admin.{Admin as Order}
use Rattle.mt_front.specs.declared.services.Admin.TheVariants.{Steps, Seal, Status}
use Rattle.mt_front.specs.declared.services.Report.{Report}
use Rattle.mt_front.specs.declared.services.Report.TheVariants as report
use Rattle.mt_front.specs.declared.machines.Machines.{Machines}
use Rattle.mt_front.specs.Items.{Item, ItemOutcome, Reported, Fault, Full}
use Rattle.mt_front.specs.Session.{Ran}
use Rattle.mt_front.specs.Machines.{all_begun, IsOfKind, IsMachine, IsHeld, IsTold, StepsMachine, SealsBy, told_of_seal, tells_status, Does, IsOutcomeOf, AskedDoes, ItemDoes, ItemsDo, GoesForward}
use Rattle.mt_front.specs.Migration.{says_done, is_of_migrator, is_of_cleaner, is_of_seal, is_moved, is_cleaned, says_sealed, is_sealing, StandsBehind, Migrates}
use Rattle.mt_front.proofs.MachineLaws.{SaidBy, LastTurn, last_of, forward_then, turns_forward, asked_forward, items_forward, item_held, begun_held, steps_said, not_client, call_retired, turn_forward}

-- ---- what is known of the migration, as facts

abbrev swept : Fact
swept = fact.Swept None

moved_by : (w : WorldState) → ForPair w (λ p. IsTrueOf w p swept) → ForPair w IsMoved
moved_by w h = map_pair w (λ p. IsTrueOf w p swept) IsMoved (λ p k. record { sealed = k.sealed; moved = λ pk there. k.moved pk tt there }) h

nothing_below : (pk : List ℕ) → is_lt (slice_cmp nat_cmp pk []) ≡ true → ⊥
nothing_below [] h = cc
nothing_below (x ∷ xs) h = cc

sealed_as : (w : WorldState) → ForPair w (λ p. p.old.sealed ≡ true) → ForPair w (λ p. IsTrueOf w p sealed_fact)
sealed_as w h = map_pair w (λ p. p.old.sealed ≡ true) (λ p. IsTrueOf w p sealed_fact) (λ p e. record { sealed = e; empty = λ pk low below rk. absurd (nothing_below pk below) }) h

sealed_by : (w : WorldState) → ForPair w (λ p. IsTrueOf w p sealed_fact) → ForPair w (λ p. p.old.sealed ≡ true)
sealed_by w h = map_pair w (λ p. IsTrueOf w p sealed_fact) (λ p. p.old.sealed ≡ true) (λ p k. k.sealed) h

-- old stays sealed
pub sealed_on : (w w' : WorldState) → GoesForward w w' → ForPair w (λ p. p.old.sealed ≡ true) → ForPair w' (λ p. p.old.sealed ≡ true)
sealed_on w w' on h = sealed_by w' (on.facts sealed_fact tt (sealed_as w h))

swept_sealed : (w : WorldState) → ForPair w (λ p. IsTrueOf w p swept) → ForPair w (λ p. p.old.sealed ≡ true)
swept_sealed w h = map_pair w (λ p. IsTrueOf w p swept) (λ p. p.old.sealed ≡ true) (λ p k. k.sealed) h

-- ---- a machine that was done

told_at_end : (taken k : ℕ) (came : Result Progress TurnFault) → IsTold taken came (Ok (report.Stepped true k)) → is_at_end came ≡ true
told_at_end taken k (Ok More) h = absurd (let e : ◌≡◌ {A = Result Report TurnFault} (Ok (report.Stepped true k)) (Ok (report.Stepped false taken)) = h in cc)
told_at_end taken k (Ok (Done answer.Moved)) h = refl
told_at_end taken k (Ok (Done answer.Cleaned)) h = refl
told_at_end taken k (Ok (Done answer.NotSealed)) h = absurd (let e : ◌≡◌ {A = Result Report TurnFault} (Ok (report.Stepped true k)) (Ok report.NotSealed) = h in cc)
told_at_end taken k (Ok (Done (answer.NotMigrated pk))) h = absurd (let e : ◌≡◌ {A = Result Report TurnFault} (Ok (report.Stepped true k)) (Ok (report.NotMigrated pk)) = h in cc)
told_at_end taken k (Ok (Done (answer.Written tags))) h = absurd h
told_at_end taken k (Ok (Done (answer.Refused refusal))) h = absurd h
told_at_end taken k (Ok (Done (answer.Rows rows))) h = absurd h
told_at_end taken k (Ok (Done (answer.Page page))) h = absurd h
told_at_end taken k (Err f) h = absurd (let e : ◌≡◌ {A = Result Report TurnFault} (Ok (report.Stepped true k)) (Err f) = h in cc)

-- the outcome that says so was told so
told_done : (r : Result Report TurnFault) (outcome : ItemOutcome) → IsOutcomeOf r outcome → says_done outcome ≡ true → (k : ℕ) × (r ≡ Ok (report.Stepped true k))
told_done (Ok (report.Stepped true k)) outcome is e = (k, refl)
told_done (Ok (report.Stepped false k)) outcome is e = absurd (let f : says_done (Reported (report.Stepped false k)) ≡ true = subst (λ o. says_done o ≡ true) is e in cc)
told_done (Ok report.NotSealed) outcome is e = absurd (let f : says_done (Reported report.NotSealed) ≡ true = subst (λ o. says_done o ≡ true) is e in cc)
told_done (Ok (report.NotMigrated pk)) outcome is e = absurd (let f : says_done (Reported (report.NotMigrated pk)) ≡ true = subst (λ o. says_done o ≡ true) is e in cc)
told_done (Ok report.Sealed) outcome is e = absurd (let f : says_done (Reported report.Sealed) ≡ true = subst (λ o. says_done o ≡ true) is e in cc)
told_done (Ok (report.Status a b d)) outcome is e = absurd (let f : says_done (Reported (report.Status a b d)) ≡ true = subst (λ o. says_done o ≡ true) is e in cc)
told_done (Err StoreFault) outcome is e = absurd (let f : says_done Fault ≡ true = subst (λ o. says_done o ≡ true) is e in cc)
told_done (Err HistoryFull) outcome is e = absurd (let f : says_done Full ≡ true = subst (λ o. says_done o ≡ true) is e in cc)
told_done (Err NoMemory) outcome is e = absurd is

-- a migrator that takes no further turn is at its end
mover_at_end : (state : MoverState) → (CanStep (actor.Migrator state) → ⊥) → state ≡ mover.Done
mover_at_end (mover.Walk walk from) h = absurd (h refl)
mover_at_end mover.SealOld h = absurd (h refl)
mover_at_end (mover.Look part) h = absurd (h refl)
mover_at_end (mover.Prepare part rows) h = absurd (h refl)
mover_at_end (mover.Claim part pass) h = absurd (h refl)
mover_at_end (mover.Begin part pass) h = absurd (h refl)
mover_at_end (mover.Takeover part pass filling) h = absurd (h refl)
mover_at_end (mover.ReadOld copying) h = absurd (h refl)
mover_at_end (mover.ReadNew copying old) h = absurd (h refl)
mover_at_end (mover.Write copying upto rows entries) h = absurd (h refl)
mover_at_end (mover.Switch part marker epoch) h = absurd (h refl)
mover_at_end (mover.Finish part epoch) h = absurd (h refl)
mover_at_end mover.Done h = refl

no_more : (came : Result Progress TurnFault) (left : Actor) → is_at_end came ≡ true → MatchBool (is_at_end came) (CanStep left → ⊥) (CanStep left) → CanStep left → ⊥
no_more came left e ready = subst (λ b. MatchBool b (CanStep left → ⊥) (CanStep left)) e ready

-- so it knows that all is swept
swept_now : (c : ℕ) (w w' : WorldState) (a a' : Actor) (steps k : ℕ) → IsMachine w Migrator a → StepsMachine c w Migrator a steps (Ok (report.Stepped true k)) w' a' → ForPair w' (λ p. IsTrueOf w' p swept)
swept_now c w w' a a' steps k held s =
    let kind = (steps_said Migrator c w w' a s.left steps s.taken held.kind s.takes).1 in
    let none = no_more s.taken.came s.left (told_at_end s.taken.taken k s.taken.came s.told) s.takes.ready in
    let is : s.left ≡ actor.Migrator mover.Done = kind.1 ∙ ap actor.Migrator (mover_at_end kind.0 (λ can. none (subst CanStep (sym kind.1) can))) in
    map_pair w' (λ p. AreTrueOf w' p (swept ∷ [])) (λ p. IsTrueOf w' p swept) (λ p h. h.0) (subst (Knows w') is s.takes.knows)

-- ---- whether the world is retired

false_last : (b : Bool) → b ≡ (b || false)
false_last true = refl
false_last false = refl

true_last : (b : Bool) → true ≡ (b || true)
true_last true = refl
true_last false = refl

-- a migrator leaves that
mover_retired : (came : Result Progress TurnFault) (retired : Bool) → SaidBy Migrator came → retired_where came retired ≡ retired
mover_retired (Ok More) retired said = refl
mover_retired (Ok (Done answer.Moved)) retired said = refl
mover_retired (Ok (Done answer.Cleaned)) retired said = absurd said
mover_retired (Ok (Done answer.NotSealed)) retired said = refl
mover_retired (Ok (Done (answer.NotMigrated pk))) retired said = refl
mover_retired (Ok (Done (answer.Written tags))) retired said = refl
mover_retired (Ok (Done (answer.Refused refusal))) retired said = refl
mover_retired (Ok (Done (answer.Rows rows))) retired said = refl
mover_retired (Ok (Done (answer.Page page))) retired said = refl
mover_retired (Err fault) retired said = refl

as_told : (r told : Result Report TurnFault) (outcome : ItemOutcome) → IsOutcomeOf r outcome → r ≡ told → IsOutcomeOf told outcome
as_told r told outcome is e = subst (λ x. IsOutcomeOf x outcome) e is

-- a cleaner retires it where it is done
cleaner_retired : (taken : ℕ) (came : Result Progress TurnFault) (r : Result Report TurnFault) (outcome : ItemOutcome) (retired : Bool) → SaidBy Cleaner came → IsTold taken came r → IsOutcomeOf r outcome → retired_where came retired ≡ (retired || says_done outcome)
cleaner_retired taken (Ok More) r outcome retired said told is = false_last retired ∙ ap (λ o. retired || says_done o) (sym (as_told r (Ok (report.Stepped false taken)) outcome is told))
cleaner_retired taken (Ok (Done answer.Moved)) r outcome retired said told is = absurd said
cleaner_retired taken (Ok (Done answer.Cleaned)) r outcome retired said told is = true_last retired ∙ ap (λ o. retired || says_done o) (sym (as_told r (Ok (report.Stepped true taken)) outcome is told))
cleaner_retired taken (Ok (Done answer.NotSealed)) r outcome retired said told is = false_last retired ∙ ap (λ o. retired || says_done o) (sym (as_told r (Ok report.NotSealed) outcome is told))
cleaner_retired taken (Ok (Done (answer.NotMigrated pk))) r outcome retired said told is = false_last retired ∙ ap (λ o. retired || says_done o) (sym (as_told r (Ok (report.NotMigrated pk)) outcome is told))
cleaner_retired taken (Ok (Done (answer.Written tags))) r outcome retired said told is = absurd said
cleaner_retired taken (Ok (Done (answer.Refused refusal))) r outcome retired said told is = absurd said
cleaner_retired taken (Ok (Done (answer.Rows rows))) r outcome retired said told is = absurd said
cleaner_retired taken (Ok (Done (answer.Page page))) r outcome retired said told is = absurd said
cleaner_retired taken (Err StoreFault) r outcome retired said told is = false_last retired ∙ ap (λ o. retired || says_done o) (sym (as_told r (Err StoreFault) outcome is told))
cleaner_retired taken (Err HistoryFull) r outcome retired said told is = false_last retired ∙ ap (λ o. retired || says_done o) (sym (as_told r (Err HistoryFull) outcome is told))
cleaner_retired taken (Err NoMemory) r outcome retired said told is = absurd (as_told r (Err NoMemory) outcome is told)

order_retired : (c : ℕ) (w w' : WorldState) (ms ms' : Machines) (order : Order) (r : Result Report TurnFault) (outcome : ItemOutcome) → IsHeld w ms → Does c w ms order r w' ms' → IsOutcomeOf r outcome → w'.retired ≡ (w.retired || (is_of_cleaner (asked.Admin order) && says_done outcome))
order_retired c w w' ms ms' (Steps Migrator steps) r outcome held did is =
    let s = did.0 in
    let said = (steps_said Migrator c w w' ms.migrator s.left steps s.taken held.migrator.kind s.takes).0 in
    (steps_answer s.takes.marks w w' c ms.migrator s.left s.taken.came (not_client Migrator ms.migrator held.migrator.kind) s.takes.turns).retired ∙ mover_retired s.taken.came w.retired said ∙ false_last w.retired
order_retired c w w' ms ms' (Steps Cleaner steps) r outcome held did is =
    let s = did.0 in
    let said = (steps_said Cleaner c w w' ms.cleaner s.left steps s.taken held.cleaner.kind s.takes).0 in
    (steps_answer s.takes.marks w w' c ms.cleaner s.left s.taken.came (not_client Cleaner ms.cleaner held.cleaner.kind) s.takes.turns).retired ∙ cleaner_retired s.taken.taken s.taken.came r outcome w.retired said s.told is
order_retired c w w' ms ms' Seal r outcome held did is = did.0.1.retired ∙ false_last w.retired
order_retired c w w' ms ms' Status r outcome held did is = ap (λ (v : WorldState). v.retired) did.1 ∙ false_last w.retired

asked_retired : (c : ℕ) (w w' : WorldState) (ms ms' : Machines) (asks : Asked) (outcome : ItemOutcome) → IsHeld w ms → AskedDoes c w ms asks outcome w' ms' → w'.retired ≡ (w.retired || (is_of_cleaner asks && says_done outcome))
asked_retired c w w' ms ms' (asked.Write v) outcome held did = call_retired c w w' did.0.0 did.0.1 did.0.3 ∙ false_last w.retired
asked_retired c w w' ms ms' (asked.Read q) outcome held did = call_retired c w w' did.0.0 did.0.1 did.0.3 ∙ false_last w.retired
asked_retired c w w' ms ms' (asked.Page q) outcome held did = call_retired c w w' did.0.0 did.0.1 did.0.3 ∙ false_last w.retired
asked_retired c w w' ms ms' (asked.Admin order) outcome held did = order_retired c w w' ms ms' order did.0 outcome held did.1 did.2
asked_retired c w w' ms ms' (asked.Refused r) outcome held did = ap (λ (v : WorldState). v.retired) did.0 ∙ false_last w.retired
asked_retired c w w' ms ms' (asked.RefusedPart r) outcome held did = ap (λ (v : WorldState). v.retired) did.0 ∙ false_last w.retired

or_all : (a b d : Bool) → ((a || b) || d) ≡ (a || (b || d))
or_all true b d = refl
or_all false b d = refl

items_retired : (c : ℕ) (w w' : WorldState) (ms ms' : Machines) (items : List Item) → IsHeld w ms → ItemsDo c w ms items w' ms' → w'.retired ≡ (w.retired || list_any is_cleaned items)
items_retired c w w' ms ms' [] held did = ap (λ (v : WorldState). v.retired) did.0 ∙ false_last w.retired
items_retired c w w' ms ms' (i ∷ items) held did =
    items_retired c did.0 w' did.1 ms' items (item_held c w did.0 ms did.1 i held did.2) did.3
    ∙ ap (λ b. b || list_any is_cleaned items) (asked_retired c w did.0 ms did.1 i.asks i.outcome held did.2)
    ∙ or_all w.retired (is_cleaned i) (list_any is_cleaned items)

-- ---- what an item has moved or sealed

asked_swept : (c : ℕ) (w w' : WorldState) (ms ms' : Machines) (asks : Asked) (outcome : ItemOutcome) → IsHeld w ms → AskedDoes c w ms asks outcome w' ms' → (is_of_migrator asks && says_done outcome) ≡ true → ForPair w' (λ p. IsTrueOf w' p swept)
asked_swept c w w' ms ms' (asked.Admin (Steps Migrator steps)) outcome held did e =
    let d = told_done did.0 outcome did.2 e in
    swept_now c w w' ms.migrator ms'.migrator steps d.0 held.migrator (subst (λ r. StepsMachine c w Migrator ms.migrator steps r w' ms'.migrator) d.1 did.1.0)
asked_swept c w w' ms ms' (asked.Admin (Steps Cleaner steps)) outcome held did e = absurd cc
asked_swept c w w' ms ms' (asked.Admin Seal) outcome held did e = absurd cc
asked_swept c w w' ms ms' (asked.Admin Status) outcome held did e = absurd cc
asked_swept c w w' ms ms' (asked.Write v) outcome held did e = absurd cc
asked_swept c w w' ms ms' (asked.Read q) outcome held did e = absurd cc
asked_swept c w w' ms ms' (asked.Page q) outcome held did e = absurd cc
asked_swept c w w' ms ms' (asked.Refused r) outcome held did e = absurd cc
asked_swept c w w' ms ms' (asked.RefusedPart r) outcome held did e = absurd cc

sealed_so : (c : ℕ) (w w' : WorldState) (r : Result Report TurnFault) (outcome : ItemOutcome) → SealsBy c w r w' → IsOutcomeOf r outcome → says_sealed outcome ≡ true → ForPair w' (λ p. p.old.sealed ≡ true)
sealed_so c w w' r outcome s is e = by s.0 s.1.sealed (as_told r (told_of_seal s.0) outcome is s.2) where
  by : (seal : Result (Unit {0}) TurnFault) → IsSealed w' seal → IsOutcomeOf (told_of_seal seal) outcome → ForPair w' (λ p. p.old.sealed ≡ true)
  by (Ok u) sealed o = sealed
  by (Err StoreFault) sealed o = absurd (let f : says_sealed Fault ≡ true = subst (λ x. says_sealed x ≡ true) o e in cc)
  by (Err HistoryFull) sealed o = absurd (let f : says_sealed Full ≡ true = subst (λ x. says_sealed x ≡ true) o e in cc)
  by (Err NoMemory) sealed o = absurd o

asked_sealed : (c : ℕ) (w w' : WorldState) (ms ms' : Machines) (asks : Asked) (outcome : ItemOutcome) → IsHeld w ms → AskedDoes c w ms asks outcome w' ms' → ((is_of_seal asks && says_sealed outcome) || (is_of_migrator asks && says_done outcome)) ≡ true → ForPair w' (λ p. p.old.sealed ≡ true)
asked_sealed c w w' ms ms' (asked.Admin (Steps Migrator steps)) outcome held did e = swept_sealed w' (asked_swept c w w' ms ms' (asked.Admin (Steps Migrator steps)) outcome held did e)
asked_sealed c w w' ms ms' (asked.Admin (Steps Cleaner steps)) outcome held did e = absurd cc
asked_sealed c w w' ms ms' (asked.Admin Seal) outcome held did e = sealed_so c w w' did.0 outcome did.1.0 did.2 (false_last (says_sealed outcome) ∙ e)
asked_sealed c w w' ms ms' (asked.Admin Status) outcome held did e = absurd cc
asked_sealed c w w' ms ms' (asked.Write v) outcome held did e = absurd cc
asked_sealed c w w' ms ms' (asked.Read q) outcome held did e = absurd cc
asked_sealed c w w' ms ms' (asked.Page q) outcome held did e = absurd cc
asked_sealed c w w' ms ms' (asked.Refused r) outcome held did e = absurd cc
asked_sealed c w w' ms ms' (asked.RefusedPart r) outcome held did e = absurd cc

-- ---- one of the items did it

either : (a b : Bool) → (a || b) ≡ true → (a ≡ true) ⊎ (b ≡ true)
either true b e = inl refl
either false b e = inr e

pub items_swept : (c : ℕ) (w w' : WorldState) (ms ms' : Machines) (items : List Item) → IsHeld w ms → ItemsDo c w ms items w' ms' → list_any is_moved items ≡ true → ForPair w' (λ p. IsTrueOf w' p swept)
items_swept c w w' ms ms' [] held did e = absurd cc
items_swept c w w' ms ms' (i ∷ items) held did e = elim (either (is_moved i) (list_any is_moved items) e) as (λ _. ForPair w' (λ p. IsTrueOf w' p swept)) [
  | inl now ↦ (items_forward c did.0 w' did.1 ms' items did.3).facts swept tt (asked_swept c w did.0 ms did.1 i.asks i.outcome held did.2 now)
  | inr later ↦ items_swept c did.0 w' did.1 ms' items (item_held c w did.0 ms did.1 i held did.2) did.3 later
]

pub items_sealed : (c : ℕ) (w w' : WorldState) (ms ms' : Machines) (items : List Item) → IsHeld w ms → ItemsDo c w ms items w' ms' → list_any is_sealing items ≡ true → ForPair w' (λ p. p.old.sealed ≡ true)
items_sealed c w w' ms ms' [] held did e = absurd cc
items_sealed c w w' ms ms' (i ∷ items) held did e = elim (either (is_sealing i) (list_any is_sealing items) e) as (λ _. ForPair w' (λ p. p.old.sealed ≡ true)) [
  | inl now ↦ sealed_on did.0 w' (items_forward c did.0 w' did.1 ms' items did.3) (asked_sealed c w did.0 ms did.1 i.asks i.outcome held did.2 now)
  | inr later ↦ items_sealed c did.0 w' did.1 ms' items (item_held c w did.0 ms did.1 i held did.2) did.3 later
]

-- ---- what stops a cleaner was seen

some_is : {A : Type 0} (o : Option A) → is_some o ≡ true → (a : A) × (o ≡ Some a)
some_is None e = absurd (let f : false ≡ true = e in cc)
some_is (Some a) e = (a, refl)

is_not_sealed : (to : CleanerState) (said : CleanProgress) → Done answer.NotSealed ≡ (cleaner_move to said).progress → said ≡ clean.NotSealed
is_not_sealed to clean.More e = absurd cc
is_not_sealed to clean.Done e = absurd cc
is_not_sealed to clean.NotSealed e = refl
is_not_sealed to (clean.NotMigrated pk) e = absurd cc

is_not_migrated : (to : CleanerState) (said : CleanProgress) (pk : List ℕ) → Done (answer.NotMigrated pk) ≡ (cleaner_move to said).progress → said ≡ clean.NotMigrated pk
is_not_migrated to clean.More pk e = absurd cc
is_not_migrated to clean.Done pk e = absurd cc
is_not_migrated to clean.NotSealed pk e = absurd cc
is_not_migrated to (clean.NotMigrated part) pk e = (let same : pk ≡ part = cc in ap clean.NotMigrated (sym same))

not_sealed_came : (taken : ℕ) (came : Result Progress TurnFault) → SaidBy Cleaner came → IsTold taken came (Ok report.NotSealed) → came ≡ Ok (Done answer.NotSealed)
not_sealed_came taken (Ok More) said h = absurd (let e : ◌≡◌ {A = Result Report TurnFault} (Ok report.NotSealed) (Ok (report.Stepped false taken)) = h in cc)
not_sealed_came taken (Ok (Done answer.Moved)) said h = absurd said
not_sealed_came taken (Ok (Done answer.Cleaned)) said h = absurd (let e : ◌≡◌ {A = Result Report TurnFault} (Ok report.NotSealed) (Ok (report.Stepped true taken)) = h in cc)
not_sealed_came taken (Ok (Done answer.NotSealed)) said h = refl
not_sealed_came taken (Ok (Done (answer.NotMigrated pk))) said h = absurd (let e : ◌≡◌ {A = Result Report TurnFault} (Ok report.NotSealed) (Ok (report.NotMigrated pk)) = h in cc)
not_sealed_came taken (Ok (Done (answer.Written tags))) said h = absurd said
not_sealed_came taken (Ok (Done (answer.Refused refusal))) said h = absurd said
not_sealed_came taken (Ok (Done (answer.Rows rows))) said h = absurd said
not_sealed_came taken (Ok (Done (answer.Page page))) said h = absurd said
not_sealed_came taken (Err f) said h = absurd (let e : ◌≡◌ {A = Result Report TurnFault} (Ok report.NotSealed) (Err f) = h in cc)

not_migrated_came : (taken : ℕ) (came : Result Progress TurnFault) (pk : List ℕ) → SaidBy Cleaner came → IsTold taken came (Ok (report.NotMigrated pk)) → came ≡ Ok (Done (answer.NotMigrated pk))
not_migrated_came taken (Ok More) pk said h = absurd (let e : ◌≡◌ {A = Result Report TurnFault} (Ok (report.NotMigrated pk)) (Ok (report.Stepped false taken)) = h in cc)
not_migrated_came taken (Ok (Done answer.Moved)) pk said h = absurd said
not_migrated_came taken (Ok (Done answer.Cleaned)) pk said h = absurd (let e : ◌≡◌ {A = Result Report TurnFault} (Ok (report.NotMigrated pk)) (Ok (report.Stepped true taken)) = h in cc)
not_migrated_came taken (Ok (Done answer.NotSealed)) pk said h = absurd (let e : ◌≡◌ {A = Result Report TurnFault} (Ok (report.NotMigrated pk)) (Ok report.NotSealed) = h in cc)
not_migrated_came taken (Ok (Done (answer.NotMigrated part))) pk said h = (let e : ◌≡◌ {A = Result Report TurnFault} (Ok (report.NotMigrated pk)) (Ok (report.NotMigrated part)) = h in let same : pk ≡ part = cc in ap (λ k. Ok (Done (answer.NotMigrated k))) (sym same))
not_migrated_came taken (Ok (Done (answer.Written tags))) pk said h = absurd said
not_migrated_came taken (Ok (Done (answer.Refused refusal))) pk said h = absurd said
not_migrated_came taken (Ok (Done (answer.Rows rows))) pk said h = absurd said
not_migrated_came taken (Ok (Done (answer.Page page))) pk said h = absurd said
not_migrated_came taken (Err f) pk said h = absurd (let e : ◌≡◌ {A = Result Report TurnFault} (Ok (report.NotMigrated pk)) (Err f) = h in cc)

module _ (c : ℕ) (at w' : WorldState) (b left : Actor) (entry : Option NewEntry) (kind : IsOfKind Cleaner b) (tells : Tells w') where
  -- the turn of a cleaner that says that old is not sealed found it so
  not_sealed_turn : turns.Turns at c b (Ok (Done answer.NotSealed)) entry w' left → ForPair at (λ p. p.old.sealed ≡ true) → ⊥
  not_sealed_turn t sealed =
      let m = (subst (λ d. turns.Turns at c d (Ok (Done answer.NotSealed)) entry w' left) kind.1 t).moves in
      let moves : CleanerMoves kind.0 m.1 (record { progress = Done answer.NotSealed; entry = entry; after = left }) = m.4 in
      let said = is_not_sealed moves.to moves.said (ap (λ (x : Move). x.progress) moves.is) in
      let old = some_is w'.old_store.told tells.old in
      let new = some_is w'.new_store.told tells.new in
      let k = before at w' m.0.side m.0.ask m.1 old.0 new.0 old.1 new.1 m.3.on in
      let unsealed = not_sealed_was_seen kind.0 moves.to m.0 m.1 (pair_of at k.a k.b) (pair_of at old.0 new.0) m.2 k.means (subst (λ s. Absorbs kind.0 m.1 (Ok s) moves.to) said moves.absorbs) in
      let shut : k.a.sealed ≡ true = at_pair at (λ p. p.old.sealed ≡ true) k.a k.b k.old k.new sealed in
      let x : true ≡ false = sym shut ∙ unsealed in cc

  -- where all is swept no cleaner says that a partition is not migrated
  not_migrated_turn : (pk : List ℕ) → Knows at b → turns.Turns at c b (Ok (Done (answer.NotMigrated pk))) entry w' left → ForPair at (λ p. IsTrueOf at p swept) → ⊥
  not_migrated_turn pk knows t all =
      let m = (subst (λ d. turns.Turns at c d (Ok (Done (answer.NotMigrated pk))) entry w' left) kind.1 t).moves in
      let moves : CleanerMoves kind.0 m.1 (record { progress = Done (answer.NotMigrated pk); entry = entry; after = left }) = m.4 in
      let said = is_not_migrated moves.to moves.said pk (ap (λ (x : Move). x.progress) moves.is) in
      let old = some_is w'.old_store.told tells.old in
      let new = some_is w'.new_store.told tells.new in
      let k = before at w' m.0.side m.0.ask m.1 old.0 new.0 old.1 new.1 m.3.on in
      moved_is_migrated kind.0 moves.to m.0 m.1 pk (pair_of at k.a k.b) (pair_of at old.0 new.0) at.retired
      (at_pair at (λ p. AreTrueOf at p (actor_facts (actor.Cleaner kind.0))) k.a k.b k.old k.new (subst (Knows at) kind.1 knows)) m.2 k.means
      (at_pair at (λ p. IsTrueOf at p swept) k.a k.b k.old k.new all) (subst (λ s. Absorbs kind.0 m.1 (Ok s) moves.to) said moves.absorbs)

steps_not_sealed : (c : ℕ) (w w' : WorldState) (a a' : Actor) (steps : ℕ) → Tells w' → IsMachine w Cleaner a → StepsMachine c w Cleaner a steps (Ok report.NotSealed) w' a' → ForPair w (λ p. p.old.sealed ≡ true) → ⊥
steps_not_sealed c w w' a a' steps tells held s sealed =
    let said = (steps_said Cleaner c w w' a s.left steps s.taken held.kind s.takes).0 in
    let came = not_sealed_came s.taken.taken s.taken.came said s.told in
    let l = last_of Cleaner s.takes.marks c w w' a s.left s.taken.came held.kind held.knows s.takes.turns in
    not_sealed_turn c l.at w' l.machine s.left l.mark.entry l.kind tells (subst (λ r. turns.Turns l.at c l.machine r l.mark.entry w' s.left) came l.turn.turn) (sealed_on w l.at l.before sealed)

steps_not_migrated : (c : ℕ) (w w' : WorldState) (a a' : Actor) (steps : ℕ) (pk : List ℕ) → Tells w' → IsMachine w Cleaner a → StepsMachine c w Cleaner a steps (Ok (report.NotMigrated pk)) w' a' → ForPair w (λ p. IsTrueOf w p swept) → ⊥
steps_not_migrated c w w' a a' steps pk tells held s all =
    let said = (steps_said Cleaner c w w' a s.left steps s.taken held.kind s.takes).0 in
    let came = not_migrated_came s.taken.taken s.taken.came pk said s.told in
    let l = last_of Cleaner s.takes.marks c w w' a s.left s.taken.came held.kind held.knows s.takes.turns in
    not_migrated_turn c l.at w' l.machine s.left l.mark.entry l.kind tells pk l.knows (subst (λ r. turns.Turns l.at c l.machine r l.mark.entry w' s.left) came l.turn.turn) (l.before.facts swept tt all)

-- an outcome that reports something was told so
reported_as : (r : Result Report TurnFault) (told : Report) → IsOutcomeOf r (Reported told) → r ≡ Ok told
reported_as (Ok given) told is = (let e : Reported told ≡ Reported given = is in let same : told ≡ given = cc in ap Ok (sym same))
reported_as (Err StoreFault) told is = absurd (let e : Reported told ≡ Fault = is in cc)
reported_as (Err HistoryFull) told is = absurd (let e : Reported told ≡ Full = is in cc)
reported_as (Err NoMemory) told is = absurd is

asked_not_sealed : (c : ℕ) (w w' : WorldState) (ms ms' : Machines) (i : Item) (steps : ℕ) → i.asks ≡ asked.Admin (Steps Cleaner steps) → i.outcome ≡ Reported report.NotSealed → Tells w' → IsHeld w ms → ItemDoes c w ms i w' ms' → ForPair w (λ p. p.old.sealed ≡ true) → ⊥
asked_not_sealed c w w' ms ms' i steps asks outcome tells held did sealed =
    let d : AskedDoes c w ms (asked.Admin (Steps Cleaner steps)) (Reported report.NotSealed) w' ms' = subst (λ o. AskedDoes c w ms (asked.Admin (Steps Cleaner steps)) o w' ms') outcome (subst (λ a. AskedDoes c w ms a i.outcome w' ms') asks did) in
    steps_not_sealed c w w' ms.cleaner ms'.cleaner steps tells held.cleaner (subst (λ r. StepsMachine c w Cleaner ms.cleaner steps r w' ms'.cleaner) (reported_as d.0 report.NotSealed d.2) d.1.0) sealed

asked_not_migrated : (c : ℕ) (w w' : WorldState) (ms ms' : Machines) (i : Item) (steps : ℕ) (pk : List ℕ) → i.asks ≡ asked.Admin (Steps Cleaner steps) → i.outcome ≡ Reported (report.NotMigrated pk) → Tells w' → IsHeld w ms → ItemDoes c w ms i w' ms' → ForPair w (λ p. IsTrueOf w p swept) → ⊥
asked_not_migrated c w w' ms ms' i steps pk asks outcome tells held did all =
    let d : AskedDoes c w ms (asked.Admin (Steps Cleaner steps)) (Reported (report.NotMigrated pk)) w' ms' = subst (λ o. AskedDoes c w ms (asked.Admin (Steps Cleaner steps)) o w' ms') outcome (subst (λ a. AskedDoes c w ms a i.outcome w' ms') asks did) in
    steps_not_migrated c w w' ms.cleaner ms'.cleaner steps pk tells held.cleaner (subst (λ r. StepsMachine c w Cleaner ms.cleaner steps r w' ms'.cleaner) (reported_as d.0 (report.NotMigrated pk) d.2) d.1.0) all

status_told : (a b : ℕ) (r : Bool) (w : WorldState) → report.Status a b r ≡ tells_status w → r ≡ w.retired
status_told a b r w e = cc

asked_status : (c : ℕ) (w w' : WorldState) (ms ms' : Machines) (i : Item) (entries generation : ℕ) (retired : Bool) → i.asks ≡ asked.Admin Status → i.outcome ≡ Reported (report.Status entries generation retired) → ItemDoes c w ms i w' ms' → retired ≡ w.retired
asked_status c w w' ms ms' i entries generation retired asks outcome did =
    let d : AskedDoes c w ms (asked.Admin Status) (Reported (report.Status entries generation retired)) w' ms' = subst (λ o. AskedDoes c w ms (asked.Admin Status) o w' ms') outcome (subst (λ a. AskedDoes c w ms a i.outcome w' ms') asks did) in
    let told : Ok (report.Status entries generation retired) ≡ Ok (tells_status w) = sym (reported_as d.0 (report.Status entries generation retired) d.2) ∙ d.1.0 in
    status_told entries generation retired w (let same : report.Status entries generation retired ≡ tells_status w = cc in same)

-- ---- an item among others

pub record Parted (c : ℕ) (w : WorldState) (ms : Machines) (before : List Item) (i : Item) (w' : WorldState) : Type 0 where
  pub at : WorldState
  pub held : Machines
  pub next : WorldState
  pub left : Machines
  pub first : ItemsDo c w ms before at held
  pub one : ItemDoes c at held i next left
  pub rest : GoesForward next w'

parted : (c : ℕ) (w w' : WorldState) (ms ms' : Machines) (before after : List Item) (i : Item) → ItemsDo c w ms (before ++ i ∷ after) w' ms' → Parted c w ms before i w'
parted c w w' ms ms' [] after i did = record { at = w; held = ms; next = did.0; left = did.1; first = (refl, refl); one = did.2; rest = items_forward c did.0 w' did.1 ms' after did.3 }
parted c w w' ms ms' (j ∷ before) after i did =
    let k = parted c did.0 w' did.1 ms' before after i did.3 in
    record { at = k.at; held = k.held; next = k.next; left = k.left; first = (did.0, did.1, did.2, k.first); one = k.one; rest = k.rest }

pub items_held : (c : ℕ) (w w' : WorldState) (ms ms' : Machines) (items : List Item) → IsHeld w ms → ItemsDo c w ms items w' ms' → IsHeld w' ms'
items_held c w w' ms ms' [] held did = subst (λ v. IsHeld v ms') (sym did.0) (subst (IsHeld w) (sym did.1) held)
items_held c w w' ms ms' (i ∷ items) held did = items_held c did.0 w' did.1 ms' items (item_held c w did.0 ms did.1 i held did.2) did.3

-- ---- a connection

pub ran_to : (c : ℕ) (w v w' : WorldState) (ms : Machines) (items : List Item) → ItemsDo c w all_begun items v ms → GoesForward v w' → Ran c w items w'
ran_to c w v w' ms items did behind = record { left = v; machines = ms; did = did; behind = behind }

module _ (c : ℕ) (w v w' : WorldState) (ms : Machines) (items : List Item) (did : ItemsDo c w all_begun items v ms) (behind : GoesForward v w') where
  apart : (before : List Item) (i : Item) → StandsBehind items before i → Parted c w all_begun before i v
  apart before i s = parted c w v all_begun ms before s.after i (subst (λ l. ItemsDo c w all_begun l v ms) s.are did)

  was_sealed : (before : List Item) (i : Item) (k : Parted c w all_begun before i v) → (list_any is_sealing before ≡ true) ⊎ ForPair w (λ p. p.old.sealed ≡ true) → ForPair k.at (λ p. p.old.sealed ≡ true)
  was_sealed before i k (inl by) = items_sealed c w k.at all_begun k.held before (begun_held w) k.first by
  was_sealed before i k (inr first) = sealed_on w k.at (items_forward c w k.at all_begun k.held before k.first) first

  pub ran_migrates : Migrates w items w'
  ran_migrates = record {
    moved = λ e. moved_by w' (behind.facts swept tt (items_swept c w v all_begun ms items (begun_held w) did e));
    sealed = λ e. sealed_on v w' behind (items_sealed c w v all_begun ms items (begun_held w) did e);
    cleaned = λ e. behind.retired (items_retired c w v all_begun ms items (begun_held w) did ∙ ap (λ b. w.retired || b) e ∙ sym (true_last w.retired));
    not_sealed = λ tells before i steps stands asks outcome sealed. (
        let k = apart before i stands in
        asked_not_sealed c k.at k.next k.held k.left i steps asks outcome (k.rest.tells (behind.tells tells)) (items_held c w k.at all_begun k.held before (begun_held w) k.first) k.one (was_sealed before i k sealed));
    not_migrated = λ tells before i steps pk stands asks outcome moved. (
        let k = apart before i stands in
        asked_not_migrated c k.at k.next k.held k.left i steps pk asks outcome (k.rest.tells (behind.tells tells)) (items_held c w k.at all_begun k.held before (begun_held w) k.first) k.one
        (items_swept c w k.at all_begun k.held before (begun_held w) k.first moved));
    statuses = λ before i entries generation retired stands asks outcome. (
        let k = apart before i stands in
        asked_status c k.at k.next k.held k.left i entries generation retired asks outcome k.one ∙ items_retired c w k.at all_begun k.held before (begun_held w) k.first);
  }
