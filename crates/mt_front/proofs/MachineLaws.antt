-- What the machines of a connection come to, and what stays while items are answered.
use Rattle.std.proofs.Common.{◌≡◌, ◌∙◌, ℕ, Bool, true, false, List, [], ◌∷◌, ◌++◌, Option, Some, None, Ok, Err, refl, sym, ap, subst, inl, inr}
use Rattle.std.specs.Prelude.{Result, MatchBool}
use Rattle.mt_chain.specs.declared.ask.StoreReply.{StoreReply}
use Rattle.mt_meta.specs.declared.fact.Fact.{Fact}
use Rattle.mt_meta.specs.Facts.{IsPlain}
use Rattle.mt_migrate.specs.declared.migrator.MoveProgress.{MoveProgress}
use Rattle.mt_migrate.specs.declared.migrator.MoveProgress.TheVariants as move
use Rattle.mt_migrate.specs.declared.state.State.{State as MoverState}
use Rattle.mt_migrate.specs.Moves.{begin}
use Rattle.mt_clean.specs.declared.cleaner.CleanProgress.{CleanProgress}
use Rattle.mt_clean.specs.declared.cleaner.CleanProgress.TheVariants as clean
use Rattle.mt_clean.specs.declared.state.State.{State as CleanerState}
use Rattle.mt_clean.specs.declared.state.State.TheVariants.{Walk}
use Rattle.mt_world.specs.declared.actor.Actor.{Actor}
use Rattle.mt_world.specs.declared.actor.Actor.TheVariants as actor
use Rattle.mt_world.specs.declared.actor.ClientCall.{ClientCall}
use Rattle.mt_world.specs.declared.actor.Answer.{Answer}
use Rattle.mt_world.specs.declared.actor.Answer.TheVariants as answer
use Rattle.mt_world.specs.declared.actor.Progress.{Progress}
use Rattle.mt_world.specs.declared.actor.Progress.TheVariants.{More, Done}
use Rattle.mt_world.specs.declared.actor.Stepped.{Stepped as Turns}
use Rattle.mt_world.specs.declared.actor.TurnFault.{TurnFault}
use Rattle.mt_world.specs.declared.actor.TurnFault.TheVariants.{StoreFault, HistoryFull, NoMemory}
use Rattle.mt_world.specs.Worlds.{WorldState, ForPair, Tells, IsTrueOf, AreTrueOf, KeepsApart}
use Rattle.mt_world.specs.Moves.{NewEntry, Move, CanStep, MigratorMoves, CleanerMoves, actor_facts, migrator_move, cleaner_move, retired_by, retired_where}
use Rattle.mt_world.specs.Turns.{Knows, Moves, stage_of}
use Rattle.mt_world.specs.Turns as turns
use Rattle.mt_world.specs.Sealing.{SealsOld}
use Rattle.mt_world.specs.WholeCalls.{Mark, MarkedTurn, Finishes, EndsCall, TakesTurns, TakesSteps, last_turn, is_client, is_at_end}
use Rattle.mt_world.proofs.PairLaws.{for_pair, map_pair}
use Rattle.mt_world.proofs.BesideLaws.{all_kept, all_known, plain_stand, known_over_call, known_over_cleaning, cleaner_knows_still, client_stays}
use Rattle.mt_world.proofs.SealLaws.{known_over_seal}
use Rattle.mt_world.proofs.StepsLaws.{kind_after, steps_answer}
use Rattle.mt_front.specs.declared.asks.Asked.{Asked}
use Rattle.mt_front.specs.declared.asks.Asked.TheVariants as asked
use Rattle.mt_front.specs.declared.services.Machine.{Machine}
use Rattle.mt_front.specs.declared.services.Machine.TheVariants.{Migrator, Cleaner}
use Rattle.mt_front.specs.declared.services.Admin.{Admin as Order}
use Rattle.mt_front.specs.declared.services.Admin.TheVariants.{Steps, Seal, Status}
use Rattle.mt_front.specs.declared.services.Report.{Report}
use Rattle.mt_front.specs.declared.machines.Machines.{Machines}
use Rattle.mt_front.specs.Items.{Item, ItemOutcome}
use Rattle.mt_front.specs.Machines.{begun, all_begun, IsOfKind, IsMachine, IsHeld, IsAMachines, kept_behind, StepsMachine, Does, CallsWhole, CallDoes, AskedDoes, ItemDoes, ItemsDo, GoesForward}

-- ---- what stays

pub forward_self : (w : WorldState) → GoesForward w w
forward_self w = record { tells = λ t. t; facts = λ f plain h. h; retired = λ e. e }

pub forward_then : (u v w : WorldState) → GoesForward u v → GoesForward v w → GoesForward u w
forward_then u v w p q = record { tells = λ t. p.tells (q.tells t); facts = λ f plain h. q.facts f plain (p.facts f plain h); retired = λ e. q.retired (p.retired e) }

-- where what is apart from an actor's facts stays
forward_by : (w w' : WorldState) (own own' : List Fact) → (Tells w' → Tells w) → KeepsApart w own w' own' → (w.retired ≡ true → w'.retired ≡ true) → GoesForward w w'
forward_by w w' own own' tells keeps retired = record {
  tells = tells;
  facts = λ f plain h. map_pair w' (λ p. AreTrueOf w' p (f ∷ [])) (λ p. IsTrueOf w' p f) (λ p hs. hs.0)
      (all_known w' own' (f ∷ []) (all_kept w w' own own' (f ∷ []) keeps
      (plain_stand w own (f ∷ []) (plain, tt) (map_pair w (λ p. IsTrueOf w p f) (λ p. AreTrueOf w p (f ∷ [])) (λ p hf. (hf, tt)) h))));
  retired = retired;
}

-- a retired world stays so
where_retired : (r : Result Progress TurnFault) (retired : Bool) → retired ≡ true → retired_where r retired ≡ true
where_retired (Ok More) retired e = e
where_retired (Ok (Done (answer.Written tags))) retired e = e
where_retired (Ok (Done (answer.Refused refusal))) retired e = e
where_retired (Ok (Done (answer.Rows rows))) retired e = e
where_retired (Ok (Done (answer.Page page))) retired e = e
where_retired (Ok (Done answer.Moved)) retired e = e
where_retired (Ok (Done answer.Cleaned)) retired e = refl
where_retired (Ok (Done answer.NotSealed)) retired e = e
where_retired (Ok (Done (answer.NotMigrated pk))) retired e = e
where_retired (Err fault) retired e = e

by_retired : (a : Actor) (r : Result Progress TurnFault) (retired : Bool) → retired ≡ true → retired_by a r retired ≡ true
by_retired (actor.Client call) r retired e = e
by_retired (actor.Migrator state) r retired e = e
by_retired (actor.Cleaner state) r retired e = where_retired r retired e

pub turn_forward : (w w' : WorldState) (c : ℕ) (a a' : Actor) (r : Result Progress TurnFault) (entry : Option NewEntry) → turns.Turns w c a r entry w' a' → GoesForward w w'
turn_forward w w' c a a' r entry t = forward_by w w' (actor_facts a) (actor_facts a') t.tells t.keeps (λ e. t.retired ∙ by_retired a r w.retired e)

finishes_forward : (marks : List Mark) (c : ℕ) (w w' : WorldState) (a : Actor) (r : Result Answer TurnFault) → Finishes marks w c a r w' → GoesForward w w'
finishes_forward [] c w w' a r f = absurd f
finishes_forward (m ∷ []) c w w' a r f = turn_forward w w' c a f.0 (last_turn r) m.entry f.1.turn
finishes_forward (m ∷ next ∷ marks) c w w' a r f = forward_then w f.0 w' (turn_forward w f.0 c a f.1 (Ok More) m.entry f.2.turn) (finishes_forward (next ∷ marks) c f.0 w' f.1 r f.3)

pub call_forward : (c : ℕ) (w w' : WorldState) (a : Actor) (r : Result Answer TurnFault) → EndsCall w c a r w' → GoesForward w w'
call_forward c w w' a r ends = finishes_forward ends.marks c w w' a r ends.turns

pub turns_forward : (marks : List Mark) (c : ℕ) (w w' : WorldState) (a a' : Actor) (r : Result Progress TurnFault) → TakesTurns marks w c a r w' a' → GoesForward w w'
turns_forward [] c w w' a a' r f = absurd f
turns_forward (m ∷ []) c w w' a a' r f = turn_forward w w' c a a' r m.entry f.turn
turns_forward (m ∷ next ∷ marks) c w w' a a' r f = forward_then w f.0 w' (turn_forward w f.0 c a f.1 (Ok More) m.entry f.2.turn) (turns_forward (next ∷ marks) c f.0 w' f.1 a' r f.3)

pub seal_forward : (c : ℕ) (w w' : WorldState) (r : Result (Unit {0}) TurnFault) → SealsOld w c r w' → GoesForward w w'
seal_forward c w w' r s = forward_by w w' [] [] s.tells s.keeps (λ e. s.retired ∙ e)

pub same_forward : (w w' : WorldState) → w' ≡ w → GoesForward w w'
same_forward w w' same = subst (GoesForward w) (sym same) (forward_self w)

-- ---- what turns of a machine come to

-- a migrator goes on or is done; a cleaner goes on, is done, or says what stops it
abbrev pub SaidBy : Machine → Result Progress TurnFault → Type 0
SaidBy machine (Ok More) = Unit {0}
SaidBy Migrator (Ok (Done answer.Moved)) = Unit {0}
SaidBy Cleaner (Ok (Done answer.Cleaned)) = Unit {0}
SaidBy Cleaner (Ok (Done answer.NotSealed)) = Unit {0}
SaidBy Cleaner (Ok (Done (answer.NotMigrated pk))) = Unit {0}
SaidBy machine (Ok (Done other)) = ⊥
SaidBy machine (Err fault) = Unit {0}

moved_said : (to : MoverState) (said : MoveProgress) → SaidBy Migrator (Ok (migrator_move to said).progress)
moved_said to move.More = tt
moved_said to move.Done = tt

cleaned_said : (to : CleanerState) (said : CleanProgress) → SaidBy Cleaner (Ok (cleaner_move to said).progress)
cleaned_said to clean.More = tt
cleaned_said to clean.Done = tt
cleaned_said to clean.NotSealed = tt
cleaned_said to (clean.NotMigrated pk) = tt

turn_said : (machine : Machine) (w w' : WorldState) (c : ℕ) (a a' : Actor) (r : Result Progress TurnFault) (entry : Option NewEntry) → IsOfKind machine a → turns.Turns w c a r entry w' a' → SaidBy machine r
turn_said machine w w' c a a' (Err fault) entry kind t = tt
turn_said Migrator w w' c a a' (Ok progress) entry kind t =
    let m = (subst (λ b. turns.Turns w c b (Ok progress) entry w' a') kind.1 t).moves in
    let b : MigratorMoves kind.0 m.1 (record { progress = progress; entry = entry; after = a' }) = m.4 in
    subst (λ p. SaidBy Migrator (Ok p)) (sym (ap (λ (x : Move). x.progress) b.is)) (moved_said b.to b.said)
turn_said Cleaner w w' c a a' (Ok progress) entry kind t =
    let m = (subst (λ b. turns.Turns w c b (Ok progress) entry w' a') kind.1 t).moves in
    let b : CleanerMoves kind.0 m.1 (record { progress = progress; entry = entry; after = a' }) = m.4 in
    subst (λ p. SaidBy Cleaner (Ok p)) (sym (ap (λ (x : Move). x.progress) b.is)) (cleaned_said b.to b.said)

-- it stays of its kind
pub kind_on : (machine : Machine) (w w' : WorldState) (c : ℕ) (a a' : Actor) (r : Result Progress TurnFault) (entry : Option NewEntry) → IsOfKind machine a → turns.Turns w c a r entry w' a' → IsOfKind machine a'
kind_on Migrator w w' c a a' r entry kind t = kind_after w w' c (actor.Migrator kind.0) a' r entry (subst (λ b. turns.Turns w c b r entry w' a') kind.1 t)
kind_on Cleaner w w' c a a' r entry kind t = kind_after w w' c (actor.Cleaner kind.0) a' r entry (subst (λ b. turns.Turns w c b r entry w' a') kind.1 t)

turns_said : (marks : List Mark) (machine : Machine) (c : ℕ) (w w' : WorldState) (a a' : Actor) (r : Result Progress TurnFault) → IsOfKind machine a → TakesTurns marks w c a r w' a' → SaidBy machine r × IsOfKind machine a'
turns_said [] machine c w w' a a' r kind f = absurd f
turns_said (m ∷ []) machine c w w' a a' r kind f = (turn_said machine w w' c a a' r m.entry kind f.turn, kind_on machine w w' c a a' r m.entry kind f.turn)
turns_said (m ∷ next ∷ marks) machine c w w' a a' r kind f = turns_said (next ∷ marks) machine c f.0 w' f.1 a' r (kind_on machine w f.0 c a f.1 (Ok More) m.entry kind f.2.turn) f.3

pub steps_said : (machine : Machine) (c : ℕ) (w w' : WorldState) (a a' : Actor) (steps : ℕ) (s : Turns) → IsOfKind machine a → TakesSteps w c a steps s w' a' → SaidBy machine s.came × IsOfKind machine a'
steps_said machine c w w' a a' steps s kind t = turns_said t.marks machine c w w' a a' s.came kind t.turns

pub a_machines : (machine : Machine) (r : Result Progress TurnFault) → SaidBy machine r → IsAMachines r
a_machines machine (Ok More) h = tt
a_machines Migrator (Ok (Done answer.Moved)) h = tt
a_machines Migrator (Ok (Done answer.Cleaned)) h = absurd h
a_machines Migrator (Ok (Done answer.NotSealed)) h = absurd h
a_machines Migrator (Ok (Done (answer.NotMigrated pk))) h = absurd h
a_machines Cleaner (Ok (Done answer.Moved)) h = absurd h
a_machines Cleaner (Ok (Done answer.Cleaned)) h = tt
a_machines Cleaner (Ok (Done answer.NotSealed)) h = tt
a_machines Cleaner (Ok (Done (answer.NotMigrated pk))) h = tt
a_machines Migrator (Ok (Done (answer.Written tags))) h = absurd h
a_machines Migrator (Ok (Done (answer.Refused refusal))) h = absurd h
a_machines Migrator (Ok (Done (answer.Rows rows))) h = absurd h
a_machines Migrator (Ok (Done (answer.Page page))) h = absurd h
a_machines Cleaner (Ok (Done (answer.Written tags))) h = absurd h
a_machines Cleaner (Ok (Done (answer.Refused refusal))) h = absurd h
a_machines Cleaner (Ok (Done (answer.Rows rows))) h = absurd h
a_machines Cleaner (Ok (Done (answer.Page page))) h = absurd h
a_machines machine (Err fault) h = tt

pub not_client : (machine : Machine) (a : Actor) → IsOfKind machine a → is_client a ≡ false
not_client Migrator a kind = ap is_client kind.1
not_client Cleaner a kind = ap is_client kind.1

-- ---- the last of a machine's turns

-- the world that it found, with what the machine knew there
pub record LastTurn (of : Machine) (c : ℕ) (w : WorldState) (a : Actor) (r : Result Progress TurnFault) (w' : WorldState) (a' : Actor) : Type 0 where
  pub at : WorldState
  pub machine : Actor
  pub before : GoesForward w at
  pub knows : Knows at machine
  pub kind : IsOfKind of machine
  pub mark : Mark
  pub turn : MarkedTurn mark at c machine r w' a'

pub last_of : (of : Machine) (marks : List Mark) (c : ℕ) (w w' : WorldState) (a a' : Actor) (r : Result Progress TurnFault) → IsOfKind of a → Knows w a → TakesTurns marks w c a r w' a' → LastTurn of c w a r w' a'
last_of of [] c w w' a a' r kind knows f = absurd f
last_of of (m ∷ []) c w w' a a' r kind knows f = record { at = w; machine = a; before = forward_self w; knows = knows; kind = kind; mark = m; turn = f }
last_of of (m ∷ next ∷ marks) c w w' a a' r kind knows f =
    let rest = last_of of (next ∷ marks) c f.0 w' f.1 a' r (kind_on of w f.0 c a f.1 (Ok More) m.entry kind f.2.turn) f.2.turn.knows f.3 in
    record { at = rest.at; machine = rest.machine; before = forward_then w f.0 rest.at (turn_forward w f.0 c a f.1 (Ok More) m.entry f.2.turn) rest.before; knows = rest.knows; kind = rest.kind; mark = rest.mark; turn = rest.turn }

-- ---- whether the world is retired

finishes_retired : (marks : List Mark) (c : ℕ) (w w' : WorldState) (call : ClientCall) (r : Result Answer TurnFault) → Finishes marks w c (actor.Client call) r w' → w'.retired ≡ w.retired
finishes_retired [] c w w' call r f = absurd f
finishes_retired (m ∷ []) c w w' call r f = f.1.turn.retired
finishes_retired (m ∷ next ∷ marks) c w w' call r f =
    let to = client_stays w f.0 c call f.1 (Ok More) (m.entry, f.2.turn) in
    finishes_retired (next ∷ marks) c f.0 w' to.0 r (subst (λ b. Finishes (next ∷ marks) f.0 c b r w') to.1 f.3) ∙ f.2.turn.retired

-- a client's call leaves that
pub call_retired : (c : ℕ) (w w' : WorldState) (call : ClientCall) (r : Result Answer TurnFault) → EndsCall w c (actor.Client call) r w' → w'.retired ≡ w.retired
call_retired c w w' call r ends = finishes_retired ends.marks c w w' call r ends.turns

-- ---- the machines stay ready

begun_kind : (machine : Machine) → IsOfKind machine (begun machine)
begun_kind Migrator = (begin, refl)
begun_kind Cleaner = (Walk, refl)

begun_ready : (machine : Machine) → CanStep (begun machine)
begun_ready Migrator = refl
begun_ready Cleaner = refl

begun_knows : (machine : Machine) (w : WorldState) → Knows w (begun machine)
begun_knows Migrator w = for_pair w (λ p. AreTrueOf w p []) (λ a b ea eb. tt)
begun_knows Cleaner w = for_pair w (λ p. AreTrueOf w p []) (λ a b ea eb. tt)

pub begun_machine : (machine : Machine) (w : WorldState) → IsMachine w machine (begun machine)
begun_machine machine w = record { kind = begun_kind machine; ready = begun_ready machine; knows = begun_knows machine w }

pub begun_held : (w : WorldState) → IsHeld w all_begun
begun_held w = record { migrator = begun_machine Migrator w; cleaner = begun_machine Cleaner w }

kept_machine : (machine : Machine) (w : WorldState) (left : Actor) (done : Bool) (came : Result Progress TurnFault) → is_at_end came ≡ done → IsOfKind machine left → MatchBool done (CanStep left → ⊥) (CanStep left) → Knows w left → IsMachine w machine (kept_behind machine came left)
kept_machine machine w left true came is kind ready knows = rw is (begun_machine machine w)
kept_machine machine w left false came is kind ready knows = rw is (record { kind = kind; ready = ready; knows = knows })

pub steps_kept : (c : ℕ) (machine : Machine) (w w' : WorldState) (a a' : Actor) (steps : ℕ) (r : Result Report TurnFault) → IsMachine w machine a → StepsMachine c w machine a steps r w' a' → IsMachine w' machine a'
steps_kept c machine w w' a a' steps r held s =
    let said = steps_said machine c w w' a s.left steps s.taken held.kind s.takes in
    subst (IsMachine w' machine) (sym s.kept) (kept_machine machine w' s.left (is_at_end s.taken.came) s.taken.came refl said.1 s.takes.ready s.takes.knows)

-- the other machine knows what it knew
pub migrator_beside : (c : ℕ) (w w' : WorldState) (a left other : Actor) (steps : ℕ) (s : Turns) → IsOfKind Cleaner a → TakesSteps w c a steps s w' left → IsMachine w Migrator other → IsMachine w' Migrator other
migrator_beside c w w' a left other steps s kind t held = record {
  kind = held.kind;
  ready = held.ready;
  knows = known_over_cleaning w w' c kind.0 left other steps s (subst (λ b. TakesSteps w c b steps s w' left) kind.1 t) held.knows;
}

pub cleaner_beside : (c : ℕ) (w w' : WorldState) (a left other : Actor) (steps : ℕ) (s : Turns) → TakesSteps w c a steps s w' left → IsMachine w Cleaner other → IsMachine w' Cleaner other
cleaner_beside c w w' a left other steps s t held = record {
  kind = held.kind;
  ready = held.ready;
  knows = subst (Knows w') (sym held.kind.1) (cleaner_knows_still w w' c a left held.kind.0 steps s t (subst (Knows w) held.kind.1 held.knows));
}

known_machine : (machine : Machine) (w w' : WorldState) (a : Actor) → (Knows w a → Knows w' a) → IsMachine w machine a → IsMachine w' machine a
known_machine machine w w' a on held = record { kind = held.kind; ready = held.ready; knows = on held.knows }

known_both : (w w' : WorldState) (ms ms' : Machines) → ms' ≡ ms → ((a : Actor) → Knows w a → Knows w' a) → IsHeld w ms → IsHeld w' ms'
known_both w w' ms ms' same on held = subst (IsHeld w') (sym same) (record {
  migrator = known_machine Migrator w w' ms.migrator (on ms.migrator) held.migrator;
  cleaner = known_machine Cleaner w w' ms.cleaner (on ms.cleaner) held.cleaner;
})

same_both : (w w' : WorldState) (ms ms' : Machines) → w' ≡ w → ms' ≡ ms → IsHeld w ms → IsHeld w' ms'
same_both w w' ms ms' same stays held = subst (λ v. IsHeld v ms') (sym same) (subst (IsHeld w) (sym stays) held)

order_held : (c : ℕ) (w w' : WorldState) (ms ms' : Machines) (order : Order) (r : Result Report TurnFault) → IsHeld w ms → Does c w ms order r w' ms' → IsHeld w' ms'
order_held c w w' ms ms' (Steps Migrator steps) r held did = record {
  migrator = steps_kept c Migrator w w' ms.migrator ms'.migrator steps r held.migrator did.0;
  cleaner = subst (IsMachine w' Cleaner) (sym did.1) (cleaner_beside c w w' ms.migrator did.0.left ms.cleaner steps did.0.taken did.0.takes held.cleaner);
}
order_held c w w' ms ms' (Steps Cleaner steps) r held did = record {
  migrator = subst (IsMachine w' Migrator) (sym did.1) (migrator_beside c w w' ms.cleaner did.0.left ms.migrator steps did.0.taken held.cleaner.kind did.0.takes held.migrator);
  cleaner = steps_kept c Cleaner w w' ms.cleaner ms'.cleaner steps r held.cleaner did.0;
}
order_held c w w' ms ms' Seal r held did = known_both w w' ms ms' did.1 (λ a knows. known_over_seal w w' c did.0.0 a did.0.1 knows) held
order_held c w w' ms ms' Status r held did = same_both w w' ms ms' did.1 did.2 held

whole_held : (c : ℕ) (w w' : WorldState) (ms ms' : Machines) (call : ClientCall) (r : Result Answer TurnFault) → EndsCall w c (actor.Client call) r w' → ms' ≡ ms → IsHeld w ms → IsHeld w' ms'
whole_held c w w' ms ms' call r ends same held = known_both w w' ms ms' same (λ a knows. known_over_call w w' c call a r ends knows) held

asked_held : (c : ℕ) (w w' : WorldState) (ms ms' : Machines) (asks : Asked) (outcome : ItemOutcome) → IsHeld w ms → AskedDoes c w ms asks outcome w' ms' → IsHeld w' ms'
asked_held c w w' ms ms' (asked.Write v) outcome held did = whole_held c w w' ms ms' did.0.0 did.0.1 did.0.3 did.1 held
asked_held c w w' ms ms' (asked.Read q) outcome held did = whole_held c w w' ms ms' did.0.0 did.0.1 did.0.3 did.1 held
asked_held c w w' ms ms' (asked.Page q) outcome held did = whole_held c w w' ms ms' did.0.0 did.0.1 did.0.3 did.1 held
asked_held c w w' ms ms' (asked.Admin order) outcome held did = order_held c w w' ms ms' order did.0 held did.1
asked_held c w w' ms ms' (asked.Refused r) outcome held did = same_both w w' ms ms' did.0 did.1 held
asked_held c w w' ms ms' (asked.RefusedPart r) outcome held did = same_both w w' ms ms' did.0 did.1 held

-- both machines may take turns after an item
pub item_held : (c : ℕ) (w w' : WorldState) (ms ms' : Machines) (i : Item) → IsHeld w ms → ItemDoes c w ms i w' ms' → IsHeld w' ms'
item_held c w w' ms ms' i held did = asked_held c w w' ms ms' i.asks i.outcome held did

-- ---- what items leave as it was

order_forward : (c : ℕ) (w w' : WorldState) (ms ms' : Machines) (order : Order) (r : Result Report TurnFault) → Does c w ms order r w' ms' → GoesForward w w'
order_forward c w w' ms ms' (Steps Migrator steps) r did = turns_forward did.0.takes.marks c w w' ms.migrator did.0.left did.0.taken.came did.0.takes.turns
order_forward c w w' ms ms' (Steps Cleaner steps) r did = turns_forward did.0.takes.marks c w w' ms.cleaner did.0.left did.0.taken.came did.0.takes.turns
order_forward c w w' ms ms' Seal r did = seal_forward c w w' did.0.0 did.0.1
order_forward c w w' ms ms' Status r did = same_forward w w' did.1

pub asked_forward : (c : ℕ) (w w' : WorldState) (ms ms' : Machines) (asks : Asked) (outcome : ItemOutcome) → AskedDoes c w ms asks outcome w' ms' → GoesForward w w'
asked_forward c w w' ms ms' (asked.Write v) outcome did = call_forward c w w' (actor.Client did.0.0) did.0.1 did.0.3
asked_forward c w w' ms ms' (asked.Read q) outcome did = call_forward c w w' (actor.Client did.0.0) did.0.1 did.0.3
asked_forward c w w' ms ms' (asked.Page q) outcome did = call_forward c w w' (actor.Client did.0.0) did.0.1 did.0.3
asked_forward c w w' ms ms' (asked.Admin order) outcome did = order_forward c w w' ms ms' order did.0 did.1
asked_forward c w w' ms ms' (asked.Refused r) outcome did = same_forward w w' did.0
asked_forward c w w' ms ms' (asked.RefusedPart r) outcome did = same_forward w w' did.0

pub items_forward : (c : ℕ) (w w' : WorldState) (ms ms' : Machines) (items : List Item) → ItemsDo c w ms items w' ms' → GoesForward w w'
items_forward c w w' ms ms' [] did = same_forward w w' did.0
items_forward c w w' ms ms' (i ∷ items) did = forward_then w did.0 w' (asked_forward c w did.0 ms did.1 i.asks i.outcome did.2) (items_forward c did.0 w' did.1 ms' items did.3)

-- what is asked of the table leaves the machines
pub call_does : (c : ℕ) (w w' : WorldState) (ms : Machines) (asks : Asked) (outcome : ItemOutcome) → CallDoes c w asks w' → AskedDoes c w ms asks outcome w' ms
call_does c w w' ms (asked.Write v) outcome did = (did, refl)
call_does c w w' ms (asked.Read q) outcome did = (did, refl)
call_does c w w' ms (asked.Page q) outcome did = (did, refl)
call_does c w w' ms (asked.Admin order) outcome did = absurd did
call_does c w w' ms (asked.Refused r) outcome did = (did, refl)
call_does c w w' ms (asked.RefusedPart r) outcome did = (did, refl)

-- ---- items one after the other

pub items_more : (c : ℕ) (u w w' : WorldState) (ms ns ms' : Machines) (items : List Item) (i : Item) → ItemsDo c u ms items w ns → ItemDoes c w ns i w' ms' → ItemsDo c u ms (items ++ i ∷ []) w' ms'
items_more c u w w' ms ns ms' [] i did one = (w', ms', subst (λ v. ItemDoes c v ms i w' ms') did.0 (subst (λ ks. ItemDoes c w ks i w' ms') did.1 one), (refl, refl))
items_more c u w w' ms ns ms' (j ∷ items) i did one = (did.0, did.1, did.2, items_more c did.0 w w' did.1 ns ms' items i did.3 one)
